-- The first `]` outside quoted strings: what is read, and what is spelled.
use Rattle.std.proofs.Common.{◌≡◌, ◌≢◌, ℕ, zero, suc, ◌+◌, ◌≤◌, true, false, List, [], ◌∷◌, ◌++◌, length, Option, Some, None, refl, ap}
use Rattle.std.proofs.Common.{sym, ◌∙◌, subst, inl, inr, arith, append_assoc, length-append}
use Rattle.std.proofs.lemmas.Bool.{cases_Bool}
use Rattle.std.specs.Prelude.{◌==◌}
use Rattle.std.specs.List.{AllByRecursion, flat_map}
use Rattle.imap_tokens.specs.Scan.{quoted_size}
use Rattle.imap_model.specs.Strings.{Character, IsCharacter, character_text, quoted_text, BeginsQuoted}
use Rattle.imap_model.specs.TextParts.{Stretch, String, Single, Encloses}
use Rattle.imap_response.specs.ReadTextParts.{to_skip, closing_from}
use Rattle.imap_response.proofs.spelling.Quoted.{IsQuotedFront, quoted_spells, quoted_reads, no_quoted, none_quoted}
use Rattle.imap_response.proofs.spelling.Results.{is_byte, byte_is, not_byte, byte_not}

-- one byte
close_none : (skip at : ℕ) → closing_from skip at [] ≡ None
unfolding closing_from
close_none skip at = refl

close_skip : (skip at b : ℕ) (more : List ℕ) → closing_from (suc skip) at (b ∷ more) ≡ closing_from skip (at + 1) more
unfolding closing_from
close_skip skip at b more = refl

close_here : (at b : ℕ) (more : List ℕ) → (b == 93) ≡ true → closing_from zero at (b ∷ more) ≡ Some at
unfolding closing_from
close_here at b more test = rw test refl

close_quote : (at b : ℕ) (more : List ℕ) → (b == 93) ≡ false → (b == 34) ≡ true →
    closing_from zero at (b ∷ more) ≡ closing_from (to_skip (quoted_size more)) (at + 1) more
unfolding closing_from
close_quote at b more test test' = rw (test, test') refl

close_on : (at b : ℕ) (more : List ℕ) → (b == 93) ≡ false → (b == 34) ≡ false → closing_from zero at (b ∷ more) ≡ closing_from zero (at + 1) more
unfolding closing_from
close_on at b more test test' = rw (test, test') refl

-- what is skipped
skipped : (front more : List ℕ) (at : ℕ) → closing_from (length front) at (front ++ more) ≡ closing_from zero (at + length front) more
skipped [] more at = let e : at ≡ at + 0 = omega arith in ap (λ (k : ℕ). closing_from zero k more) e
skipped (b ∷ front) more at =
    let e : at + 1 + length front ≡ at + suc (length front) = omega arith in
    close_skip (length front) at b (front ++ more) ∙ skipped front more (at + 1) ∙ ap (λ (k : ℕ). closing_from zero k more) e

-- a quoted string is skipped whole

quoted_skipped : (cs : List Character) (b : ℕ) (more rest : List ℕ) (at : ℕ) → AllByRecursion IsCharacter cs → b ∷ more ≡ quoted_text cs ++ rest
    → closing_from zero at (b ∷ more) ≡ closing_from zero (at + length (quoted_text cs)) rest
quoted_skipped cs b more rest at lawful whole =
    let first : b ≡ 34 = cc in
    let behind : more ≡ (flat_map character_text cs ++ 34 ∷ []) ++ rest = cc in
    let front : IsQuotedFront (34 ∷ more) cs rest = record { lawful = lawful; whole = ap (λ (x : ℕ). x ∷ more) (sym first) ∙ whole } in
    let size = quoted_reads more cs rest front in
    let e : at + 1 + length (flat_map character_text cs ++ 34 ∷ []) ≡ at + length (quoted_text cs) = omega arith in
    close_quote at b more (ap (λ (x : ℕ). x == 93) first) (byte_is b 34 first)
    ∙ ap (λ (o : Option ℕ). closing_from (to_skip o) (at + 1) more) size
    ∙ ap (closing_from (length (flat_map character_text cs ++ 34 ∷ [])) (at + 1)) behind
    ∙ skipped (flat_map character_text cs ++ 34 ∷ []) rest (at + 1)
    ∙ ap (λ (k : ℕ). closing_from zero k rest) e

-- what is spelled is read
pub closing_reads : (stretches : List Stretch) (text inner rest : List ℕ) (at : ℕ) → Encloses stretches text inner rest →
    closing_from zero at text ≡ Some (at + length inner)
closing_reads [] text inner rest at is =
    let e : at ≡ at + length inner = omega (arith, ap length is.0) in
    ap (closing_from zero at) is.1 ∙ close_here at 93 rest refl ∙ ap (λ (k : ℕ). Some k) e
closing_reads (String cs ∷ stretches) [] inner rest at is =
    absurd (let none : [] ≡ quoted_text cs ++ is.1 = is.4 ∙ ap (λ (q : List ℕ). q ++ is.1) is.3.whole in cc)
closing_reads (String cs ∷ stretches) (b ∷ more) inner rest at is =
    let whole : b ∷ more ≡ quoted_text cs ++ is.1 = is.4 ∙ ap (λ (q : List ℕ). q ++ is.1) is.3.whole in
    let len : length inner ≡ length (quoted_text cs) + length is.2 =
    ap length is.5 ∙ length-append is.0 is.2 ∙ ap (λ (q : List ℕ). length q + length is.2) is.3.whole in
    let e : at + length (quoted_text cs) + length is.2 ≡ at + length inner = omega (arith, len) in
    quoted_skipped cs b more is.1 at is.3.lawful whole ∙ closing_reads stretches is.1 is.2 rest (at + length (quoted_text cs)) is.6 ∙ ap (λ (k : ℕ). Some k) e
closing_reads (Single byte ∷ stretches) text inner rest at is =
    let more : List ℕ = is.0 in
    let len : at + 1 + length is.1 ≡ at + length inner = omega (arith, ap length is.5) in
    let later = closing_reads stretches is.0 is.1 rest (at + 1) is.6 in
    let other = byte_not byte 93 is.2 in
    let no_string : BeginsQuoted (byte ∷ is.0) → ⊥ = subst (λ (t : List ℕ). BeginsQuoted t → ⊥) is.4 is.3 in
    ap (closing_from zero at) is.4
    ∙ elim (cases_Bool (byte == 34)) as (λ _. closing_from zero at (byte ∷ is.0) ≡ closing_from zero (at + 1) is.0) [
      | inl quote ↦
          let none = none_quoted is.0 (subst (λ (x : ℕ). BeginsQuoted (x ∷ is.0) → ⊥) (is_byte byte 34 quote) no_string) in
          close_quote at byte is.0 other quote ∙ ap (λ (o : Option ℕ). closing_from (to_skip o) (at + 1) is.0) none
      | inr plain ↦ close_on at byte is.0 other plain
    ]
    ∙ later ∙ ap (λ (k : ℕ). Some k) len

-- what is read is spelled
pub record IsClosed (text : List ℕ) (at k : ℕ) : Type 0 where
  pub stretches : List Stretch
  pub inner : List ℕ
  pub rest : List ℕ
  pub encloses : Encloses stretches text inner rest
  pub place : k ≡ at + length inner

closed_here : (b : ℕ) (more : List ℕ) (at k : ℕ) → b ≡ 93 → ◌≡◌ {A = Option ℕ} (Some at) (Some k) → IsClosed (b ∷ more) at k
closed_here b more at k here is =
    let same : at ≡ k = cc in
    record { stretches = []; inner = []; rest = more; encloses = (refl, ap (λ (x : ℕ). x ∷ more) here); place = omega arith }

closed_single : (b : ℕ) (more : List ℕ) (at k : ℕ) → b ≢ 93 → (BeginsQuoted (b ∷ more) → ⊥) → IsClosed more (at + 1) k → IsClosed (b ∷ more) at k
closed_single b more at k other no_string w = record {
  stretches = Single b ∷ w.stretches;
  inner = b ∷ w.inner;
  rest = w.rest;
  encloses = (more, w.inner, other, no_string, refl, refl, w.encloses);
  place = omega (arith, w.place);
}

closed_string : (cs : List Character) (text rest : List ℕ) (at k : ℕ) → AllByRecursion IsCharacter cs → text ≡ quoted_text cs ++ rest →
    IsClosed rest (at + length (quoted_text cs)) k → IsClosed text at k
closed_string cs text rest at k lawful whole w = record {
  stretches = String cs ∷ w.stretches;
  inner = quoted_text cs ++ w.inner;
  rest = w.rest;
  encloses = (quoted_text cs, rest, w.inner, record { lawful = lawful; whole = refl }, whole, refl, w.encloses);
  place = omega (arith, w.place, length-append (quoted_text cs) w.inner);
}

starts_plain : (b : ℕ) (more : List ℕ) → b ≢ 34 → BeginsQuoted (b ∷ more) → ⊥
starts_plain b more other there =
    let whole : b ∷ more ≡ quoted_text there.1 ++ there.2 = there.4 ∙ ap (λ (q : List ℕ). q ++ there.2) there.3.whole in
    other cc

rest_shorter : (cs : List Character) (b : ℕ) (more rest : List ℕ) (n : ℕ) → b ∷ more ≡ quoted_text cs ++ rest → suc (length more) ≤ suc n → length rest ≤ n
rest_shorter cs b more rest n whole fits = omega (arith, ap length whole, length-append (quoted_text cs) rest)

quote_spells : (n b : ℕ) (more : List ℕ) (at k : ℕ) (o : Option ℕ) → suc (length more) ≤ suc n → quoted_size more ≡ o → b ≡ 34 →
    closing_from (to_skip o) (at + 1) more ≡ Some k
    → ((text : List ℕ) (at k : ℕ) → length text ≤ n → closing_from zero at text ≡ Some k → IsClosed text at k) → IsClosed (b ∷ more) at k
quote_spells n b more at k None fits size here is later =
    closed_single b more at k (λ e. omega (arith, e, here)) (subst (λ (x : ℕ). BeginsQuoted (x ∷ more) → ⊥) (sym here) (no_quoted more size))
    (later more (at + 1) k (omega arith) is)
quote_spells n b more at k (Some m) fits size here is later =
    let w = quoted_spells more m size in
    let whole : b ∷ more ≡ quoted_text w.0 ++ w.1 = ap (λ (x : ℕ). x ∷ more) here ∙ w.2.whole in
    let on = quoted_skipped w.0 b more w.1 at w.2.lawful whole in
    let there : closing_from zero at (b ∷ more) ≡ Some k = close_quote at b more (ap (λ (x : ℕ). x == 93) here) (byte_is b 34 here)
    ∙ ap (λ (o : Option ℕ). closing_from (to_skip o) (at + 1) more) size ∙ is in
    closed_string w.0 (b ∷ more) w.1 at k w.2.lawful whole
    (later w.1 (at + length (quoted_text w.0)) k (rest_shorter w.0 b more w.1 n whole fits) (sym on ∙ there))

pub closing_spells : (n : ℕ) (text : List ℕ) (at k : ℕ) → length text ≤ n → closing_from zero at text ≡ Some k → IsClosed text at k
closing_spells zero [] at k fits is = absurd (let no : ◌≡◌ {A = Option ℕ} None (Some k) = sym (close_none zero at) ∙ is in cc)
closing_spells zero (b ∷ more) at k fits is = absurd (omega arith)
closing_spells (suc n) [] at k fits is = absurd (let no : ◌≡◌ {A = Option ℕ} None (Some k) = sym (close_none zero at) ∙ is in cc)
closing_spells (suc n) (b ∷ more) at k fits is = elim (cases_Bool (b == 93)) [
  | inl here ↦ closed_here b more at k (is_byte b 93 here) (sym (close_here at b more here) ∙ is)
  | inr other ↦ elim (cases_Bool (b == 34)) [
    | inl quote ↦ quote_spells n b more at k (quoted_size more) fits refl (is_byte b 34 quote) (sym (close_quote at b more other quote) ∙ is) (closing_spells n)
    | inr plain ↦ closed_single b more at k (not_byte b 93 other) (starts_plain b more (not_byte b 34 plain))
        (closing_spells n more (at + 1) k (omega arith) (sym (close_on at b more other plain) ∙ is))
  ]
]

-- the text is what stands in front of the bracket, it, and the rest
pub enclosed : (stretches : List Stretch) (text inner rest : List ℕ) → Encloses stretches text inner rest → text ≡ inner ++ 93 ∷ rest
enclosed [] text inner rest is = is.1 ∙ ap (λ (t : List ℕ). t ++ 93 ∷ rest) (sym is.0)
enclosed (String cs ∷ stretches) text inner rest is =
    is.4 ∙ ap (λ (t : List ℕ). is.0 ++ t) (enclosed stretches is.1 is.2 rest is.6) ∙ sym (append_assoc is.0 is.2 (93 ∷ rest))
    ∙ ap (λ (t : List ℕ). t ++ 93 ∷ rest) (sym is.5)
enclosed (Single byte ∷ stretches) text inner rest is =
    is.4 ∙ ap (λ (t : List ℕ). byte ∷ t) (enclosed stretches is.0 is.1 rest is.6) ∙ ap (λ (t : List ℕ). t ++ 93 ∷ rest) (sym is.5)

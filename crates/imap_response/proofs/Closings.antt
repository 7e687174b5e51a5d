-- One byte more of the pass that looks for the first right bracket outside quoted strings.
use Rattle.std.proofs.Common.{◌≡◌, ℕ, suc, pred, ◌+◌, ◌<◌, ◌≤◌, Bool, true, false, List, [], ◌∷◌, length, drop, get_or, Option, Some}
use Rattle.std.proofs.Common.{None, refl, sym, ◌∙◌, ap, inl, inr, arith}
use Rattle.std.proofs.lemmas.Bool.{cases_Bool, true≢false}
use Rattle.std.proofs.lemmas.Bool.Decides.{nat_tests}
use Rattle.std.specs.Prelude.{◌==◌, option_map}
use Rattle.std.specs.Option.{option_or, is_some, IfSome}
use Rattle.imap_tokens.specs.Scan.{quoted_from}
use Rattle.imap_tokens.specs.Tokens.{is_escaped, is_forbidden}
use Rattle.imap_response.specs.ReadTextParts.{closing_from, to_skip}
use Rattle.imap_response.specs.Closing.{first_inside, ends, goes_on, escapes, behind_string, scanned}
use Rattle.imap_response.proofs.Steps.{here, none_left}

-- a string one place further
shift : (escaped : Bool) (n : ℕ) (text : List ℕ) → quoted_from escaped (n + 1) text ≡ option_map (λ k. k + 1) (quoted_from escaped n text)
unfolding quoted_from
shift true n [] = refl
shift false n [] = refl
shift true n (b ∷ more) = elim (cases_Bool (is_escaped b)) [
  | inl is ↦ rw is (shift false (n + 1) more)
  | inr other ↦ rw other refl
]
shift false n (b ∷ more) = elim (cases_Bool (b == 34)) [
  | inl is ↦ rw is refl
  | inr other ↦ elim (cases_Bool (is_forbidden b)) [
    | inl bad ↦ rw (other, bad) refl
    | inr good ↦ rw (other, good) (shift (b == 92) (n + 1) more)
  ]
]

-- the search at one byte
skipped : (n at b : ℕ) (more : List ℕ) → closing_from (n + 1) at (b ∷ more) ≡ closing_from n (at + 1) more
unfolding closing_from
skipped n at b more = let e : n + 1 ≡ suc n = omega arith in rw e refl

bracket : (at b : ℕ) (more : List ℕ) → (b == 93) ≡ true → closing_from 0 at (b ∷ more) ≡ Some at
unfolding closing_from
bracket at b more is = rw is refl

quote : (at b : ℕ) (more : List ℕ) → (b == 93) ≡ false → (b == 34) ≡ true →
    closing_from 0 at (b ∷ more) ≡ closing_from (to_skip (quoted_from false 1 more)) (at + 1) more
unfolding closing_from
quote at b more other is = rw (other, is) refl

plain : (at b : ℕ) (more : List ℕ) → (b == 93) ≡ false → (b == 34) ≡ false → closing_from 0 at (b ∷ more) ≡ closing_from 0 (at + 1) more
unfolding closing_from
plain at b more other is = rw (other, is) refl

or_none : (o : Option ℕ) → option_or o None ≡ o
or_none None = refl
or_none (Some n) = refl

or_same : (o : Option ℕ) (n : ℕ) (p : Option ℕ) → option_or o (Some n) ≡ option_or (option_or o (Some n)) p
or_same None n p = refl
or_same (Some m) n p = refl

pred_one : (n : ℕ) → pred (n + 1) ≡ n
pred_one n = let e : n + 1 ≡ suc n = omega arith in rw e refl

begun : (q : Option ℕ) (at : ℕ) (more : List ℕ) → closing_from (to_skip (option_map (λ k. k + 1) q)) at more ≡ behind_string q None at more
begun (Some n) at more = let e : to_skip (Some (n + 1)) ≡ n = pred_one n in ap (λ k. closing_from k at more) e
begun None at more = refl

-- a string goes on behind a backslash
goes_escaped : (q inside : Option ℕ) (at b : ℕ) (more : List ℕ) → is_escaped b ≡ true → quoted_from false 0 more ≡ q
    → behind_string (option_map (λ k. k + 1) q) inside at (b ∷ more) ≡ behind_string q (first_inside inside b at) (at + 1) more
goes_escaped (Some n) inside at b more is read = skipped n at b more
goes_escaped None inside at b more is read =
    let no_bracket : (b == 93) ≡ false = grind (arith, nat_tests) in
    let none : quoted_from false 1 more ≡ None = shift false 0 more ∙ ap (option_map (λ k. k + 1)) read in
    let on : closing_from 0 at (b ∷ more) ≡ closing_from 0 (at + 1) more = elim (cases_Bool (b == 34)) [
      | inl quoted ↦ quote at b more no_bracket quoted ∙ ap (λ o. closing_from (to_skip o) (at + 1) more) none
      | inr other ↦ plain at b more no_bracket other
    ] in
    ap (option_or inside) on ∙ ap (λ o. option_or o (closing_from 0 (at + 1) more)) (sym (rw no_bracket (or_none inside)))

-- a string goes on with a byte as it is
goes_plain : (q inside : Option ℕ) (at b : ℕ) (more : List ℕ) → (b == 34) ≡ false
    → behind_string (option_map (λ k. k + 1) q) inside at (b ∷ more) ≡ behind_string q (first_inside inside b at) (at + 1) more
goes_plain (Some n) inside at b more other = skipped n at b more
goes_plain None inside at b more other = elim (cases_Bool (b == 93)) [
  | inl is ↦ ap (option_or inside) (bracket at b more is) ∙ or_same inside at (closing_from 0 (at + 1) more)
      ∙ ap (λ o. option_or o (closing_from 0 (at + 1) more)) (sym (rw is refl))
  | inr no_bracket ↦ ap (option_or inside) (plain at b more no_bracket other)
      ∙ ap (λ o. option_or o (closing_from 0 (at + 1) more)) (sym (rw no_bracket (or_none inside)))
]

quoted_escaped : (b : ℕ) (more : List ℕ) → is_escaped b ≡ true → quoted_from true 0 (b ∷ more) ≡ quoted_from false (0 + 1) more
unfolding quoted_from
quoted_escaped b more is = rw is refl

quoted_plain : (b : ℕ) (more : List ℕ) → (b == 34) ≡ false → is_forbidden b ≡ false → quoted_from false 0 (b ∷ more) ≡ quoted_from (b == 92) (0 + 1) more
unfolding quoted_from
quoted_plain b more other good = rw (other, good) refl

quoted_end : (b : ℕ) (more : List ℕ) → (b == 34) ≡ true → quoted_from false 0 (b ∷ more) ≡ Some (0 + 1)
unfolding quoted_from
quoted_end b more is = rw is refl

quoted_bad_escape : (b : ℕ) (more : List ℕ) → is_escaped b ≡ false → quoted_from true 0 (b ∷ more) ≡ None
unfolding quoted_from
quoted_bad_escape b more bad = rw bad refl

quoted_bad : (b : ℕ) (more : List ℕ) → (b == 34) ≡ false → is_forbidden b ≡ true → quoted_from false 0 (b ∷ more) ≡ None
unfolding quoted_from
quoted_bad b more other bad = rw (other, bad) refl

quoted_nil : (escaped : Bool) → quoted_from escaped 0 [] ≡ None
unfolding quoted_from
quoted_nil true = refl
quoted_nil false = refl

closing_nil : (n at : ℕ) → closing_from n at [] ≡ None
unfolding closing_from
closing_nil n at = refl

-- the string ends
cons_ends : (quoted escaped : Bool) (inside : Option ℕ) (at b : ℕ) (more : List ℕ) → ends quoted escaped b ≡ true
    → scanned quoted escaped inside at (b ∷ more) ≡ scanned false escaped None (at + 1) more
cons_ends true false inside at b more is = ap (λ q. behind_string q inside at (b ∷ more)) (quoted_end b more is) ∙ skipped 0 at b more
cons_ends true true inside at b more is = absurd (true≢false (sym is))
cons_ends false escaped inside at b more is = absurd (true≢false (sym is))

-- it goes on
cons_goes : (quoted escaped : Bool) (inside : Option ℕ) (at b : ℕ) (more : List ℕ) → goes_on quoted escaped b ≡ true
    → scanned quoted escaped inside at (b ∷ more) ≡ scanned quoted (escapes escaped b) (first_inside inside b at) (at + 1) more
cons_goes true true inside at b more is =
    ap (λ q. behind_string q inside at (b ∷ more)) (quoted_escaped b more is ∙ shift false 0 more)
    ∙ goes_escaped (quoted_from false 0 more) inside at b more is refl
cons_goes true false inside at b more is =
    let other : (b == 34) ≡ false = grind (arith, nat_tests) in
    let good : is_forbidden b ≡ false = grind (arith, nat_tests) in
    ap (λ q. behind_string q inside at (b ∷ more)) (quoted_plain b more other good ∙ shift (b == 92) 0 more)
    ∙ goes_plain (quoted_from (b == 92) 0 more) inside at b more other
cons_goes false escaped inside at b more is = absurd (true≢false (sym is))

-- it does neither, or none began
cons_fails : (quoted escaped : Bool) (inside : Option ℕ) (at b : ℕ) (more : List ℕ) → ends quoted escaped b ≡ false → goes_on quoted escaped b ≡ false
    → scanned quoted escaped inside at (b ∷ more) ≡ option_or inside (closing_from 0 at (b ∷ more))
cons_fails false escaped inside at b more open_yet stops = refl
cons_fails true true inside at b more open_yet stops = ap (λ q. behind_string q inside at (b ∷ more)) (quoted_bad_escape b more stops)
cons_fails true false inside at b more open_yet stops =
    let bad : is_forbidden b ≡ true = grind (arith, nat_tests) in
    ap (λ q. behind_string q inside at (b ∷ more)) (quoted_bad b more open_yet bad)

-- a string may begin
cons_begins : (at b : ℕ) (more : List ℕ) (quoted : Bool) → (b == 93) ≡ false → quoted ≡ (b == 34) →
    closing_from 0 at (b ∷ more) ≡ scanned quoted false None (at + 1) more
cons_begins at b more true other is = quote at b more other (sym is)
    ∙ ap (λ q. closing_from (to_skip q) (at + 1) more) (shift false 0 more) ∙ begun (quoted_from false 0 more) (at + 1) more
cons_begins at b more false other is = plain at b more other (sym is)

some_of : (o : Option ℕ) → is_some o ≡ true → (n : ℕ) × (o ≡ Some n)
some_of None found = absurd (true≢false (sym found))
some_of (Some n) found = (n, refl)

none_of : (o : Option ℕ) → is_some o ≡ false → o ≡ None
none_of None lacks = refl
none_of (Some n) lacks = absurd (true≢false lacks)

pub inside_fits : (o : Option ℕ) (b at size : ℕ) → IfSome o (λ n. n ≤ size) → at < size → IfSome (first_inside o b at) (λ n. n ≤ size)
inside_fits (Some n) b at size fits below = fits
inside_fits None b at size fits below = elim (cases_Bool (b == 93)) [
  | inl is ↦ rw is (omega (arith, below))
  | inr other ↦ rw other tt
]

module _ (text : List ℕ) (i : ℕ) (quoted escaped : Bool) (inside : Option ℕ) (whole : Option ℕ) (within : i < length text)
    (so_far : scanned quoted escaped inside i (drop i text) ≡ whole) where
  now : scanned quoted escaped inside i (get_or text i 0 ∷ drop (i + 1) text) ≡ whole
  now = ap (scanned quoted escaped inside i) (sym (here text i within)) ∙ so_far

  pub string_ends : (test : Bool) → test ≡ ends quoted escaped (get_or text i 0) → test ≡ true → scanned false escaped None (i + 1) (drop (i + 1) text) ≡ whole
  string_ends test is found = sym (cons_ends quoted escaped inside i (get_or text i 0) _ (sym is ∙ found)) ∙ now

  pub string_goes : (test : Bool) → test ≡ goes_on quoted escaped (get_or text i 0) → test ≡ true
      → scanned quoted (escapes escaped (get_or text i 0)) (first_inside inside (get_or text i 0) i) (i + 1) (drop (i + 1) text) ≡ whole
  string_goes test is found = sym (cons_goes quoted escaped inside i (get_or text i 0) _ (sym is ∙ found)) ∙ now

  module _ (test further : Bool) (is : test ≡ ends quoted escaped (get_or text i 0)) (other : test ≡ false)
      (goes : further ≡ goes_on quoted escaped (get_or text i 0)) (stops : further ≡ false) where
    failed : option_or inside (closing_from 0 i (get_or text i 0 ∷ drop (i + 1) text)) ≡ whole
    failed = sym (cons_fails quoted escaped inside i (get_or text i 0) _ (sym is ∙ other) (sym goes ∙ stops)) ∙ now

    pub was_inside : is_some inside ≡ true → inside ≡ whole
    was_inside found = let some = some_of inside found in some.1
        ∙ sym (ap (λ o. option_or o (closing_from 0 i (get_or text i 0 ∷ drop (i + 1) text))) some.1) ∙ failed

    pub at_bracket : is_some inside ≡ false → (get_or text i 0 == 93) ≡ true → Some i ≡ whole
    at_bracket lacks is_bracket = let none = none_of inside lacks in sym (bracket i (get_or text i 0) (drop (i + 1) text) is_bracket)
        ∙ sym (ap (λ o. option_or o (closing_from 0 i (get_or text i 0 ∷ drop (i + 1) text))) none) ∙ failed

    pub may_begin : (begun : Bool) → is_some inside ≡ false → (get_or text i 0 == 93) ≡ false → begun ≡ (get_or text i 0 == 34) →
        scanned begun false inside (i + 1) (drop (i + 1) text) ≡ whole
    may_begin begun lacks no_bracket is_quote = let none = none_of inside lacks in ap (λ o. scanned begun false o (i + 1) (drop (i + 1) text)) none
        ∙ sym (cons_begins i (get_or text i 0) (drop (i + 1) text) begun no_bracket is_quote)
        ∙ sym (ap (λ o. option_or o (closing_from 0 i (get_or text i 0 ∷ drop (i + 1) text))) none) ∙ failed

nil_scanned : (quoted escaped : Bool) (inside : Option ℕ) (at : ℕ) → scanned quoted escaped inside at [] ≡ inside
nil_scanned true escaped inside at = ap (λ q. behind_string q inside at []) (quoted_nil escaped) ∙ ap (option_or inside) (closing_nil 0 at) ∙ or_none inside
nil_scanned false escaped inside at = ap (option_or inside) (closing_nil 0 at) ∙ or_none inside

pub at_text_end : (text : List ℕ) (i : ℕ) (quoted escaped : Bool) (inside whole : Option ℕ) → i ≡ length text →
    scanned quoted escaped inside i (drop i text) ≡ whole → inside ≡ whole
at_text_end text i quoted escaped inside whole all so_far = sym (nil_scanned quoted escaped inside i)
    ∙ sym (ap (scanned quoted escaped inside i) (none_left text i all)) ∙ so_far

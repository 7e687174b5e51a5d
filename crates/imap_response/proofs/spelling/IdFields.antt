-- The field's name in a section of identifiers: what is read, and what is spelled.
use Rattle.std.proofs.Common.{◌≡◌, ◌≢◌, ℕ, Bool, true, false, cond, not, List, [], ◌∷◌, ◌++◌, length, take, drop, map, codes, refl, ap}
use Rattle.std.proofs.Common.{sym, ◌∙◌, subst, inl, inr, ◌⊎◌, arith, get_or, Result, Ok, Err}
use Rattle.std.proofs.Math.Seq.{drop-append_seam, take-append_seam}
use Rattle.std.proofs.lemmas.Bool.Decides.{nat_tests}
use Rattle.std.proofs.lemmas.List.{take-append-drop, append_cancel_right, map-append, length-map}
use Rattle.std.specs.Prelude.{◌==◌, ◌||◌}
use Rattle.std.specs.Char.{to_ascii_lowercase}
use Rattle.std.specs.List.{AllByRecursion, flat_map}
use Rattle.imap_tokens.specs.declared.token.TokenKind.{TokenKind}
use Rattle.imap_tokens.specs.declared.token.TokenKind.TheVariants as kinds
use Rattle.imap_model.specs.Parts.{Part, Literal, part_text, bytes}
use Rattle.imap_model.specs.Strings.{Character, Plain, Escaped, IsCharacter, character_text, character_byte, quoted_text, IsAstring}
use Rattle.imap_model.specs.Words.{SameWord}
use Rattle.imap_model.specs.Tagged.{is_astring_byte}
use Rattle.imap_response.specs.Leaf.{same_word}
use Rattle.imap_response.specs.Reads.{◌>>=◌}
use Rattle.imap_response.specs.Left.{Left, at_left, next_at}
use Rattle.imap_response.specs.ReadStrings.{octets, is_id, id_field_at}
use Rattle.imap_response.proofs.spelling.Names.{same_is, is_same, is_other, same_passes}
use Rattle.imap_response.proofs.spelling.Passing.{Passes, Fits, bytes_pass, pass_bytes, pass_left}
use Rattle.imap_response.proofs.spelling.Results.{ok_is, ok_first, ok_either, ok_bind, bind_ok}
use Rattle.imap_response.proofs.spelling.Runs.{AllPass}
use Rattle.imap_response.proofs.spelling.Strings.{octets_is}
use Rattle.imap_response.proofs.spelling.Tokens.{IsTaken, next_spells}
use Rattle.imap_response.proofs.spelling.TokenReads.{quoted_token_reads, literal_token_reads}

abbrev id_name : List ℕ
id_name = codes "Message-ID"

pub astring_lower : (b : ℕ) → is_astring_byte (to_ascii_lowercase b) ≡ is_astring_byte b
astring_lower b = grind (arith, nat_tests)

-- neither a quote nor a backslash
abbrev is_bland : ℕ → Bool
is_bland byte = not (byte == 34 || byte == 92)

bland_lower : (b : ℕ) → is_bland (to_ascii_lowercase b) ≡ is_bland b
bland_lower b = grind (arith, nat_tests)

-- text and value are one where nothing is escaped
text_value : (cs : List Character) → AllPass is_bland (flat_map character_text cs) → flat_map character_text cs ≡ flat_map character_byte cs
text_value [] all = refl
text_value (Plain b ∷ cs) all = ap (λ (t : List ℕ). b ∷ t) (text_value cs all.1)
text_value (Escaped b ∷ cs) all = absurd (let no = all.0 in cc)

escaped_bland : (b : ℕ) → (b ≡ 34) ⊎ (b ≡ 92) → is_bland b ≡ true → ⊥
escaped_bland b (inl is) bland = let no : is_bland 34 ≡ true = ap is_bland (sym is) ∙ bland in cc
escaped_bland b (inr is) bland = let no : is_bland 92 ≡ true = ap is_bland (sym is) ∙ bland in cc

value_text : (cs : List Character) → AllByRecursion IsCharacter cs → AllPass is_bland (flat_map character_byte cs) →
    flat_map character_text cs ≡ flat_map character_byte cs
value_text [] lawful all = refl
value_text (Plain b ∷ cs) lawful all = ap (λ (t : List ℕ). b ∷ t) (value_text cs lawful.1 all.1)
value_text (Escaped b ∷ cs) lawful all = absurd (escaped_bland b lawful.0 all.0)

bland_of : (value : List ℕ) → SameWord value id_name → AllPass is_bland value
bland_of value same = same_passes is_bland bland_lower value id_name same refl

-- the word between quotes
quotes_on : (inner : List ℕ) → SameWord inner id_name → SameWord (34 ∷ (inner ++ 34 ∷ [])) (codes "\"Message-ID\"")
quotes_on inner same = ap (λ (t : List ℕ). 34 ∷ t) (map-append to_ascii_lowercase inner (34 ∷ []) ∙ ap (λ (t : List ℕ). t ++ 34 ∷ []) same)

tail_same : (s t : List ℕ) → 34 ∷ s ≡ 34 ∷ t → s ≡ t
tail_same s t is = cc

quotes_off : (inner : List ℕ) → SameWord (34 ∷ (inner ++ 34 ∷ [])) (codes "\"Message-ID\"") → SameWord inner id_name
quotes_off inner same =
    let rest : map to_ascii_lowercase (inner ++ 34 ∷ []) ≡ map to_ascii_lowercase id_name ++ 34 ∷ [] =
    tail_same (map to_ascii_lowercase (inner ++ 34 ∷ [])) (map to_ascii_lowercase id_name ++ 34 ∷ []) same in
    append_cancel_right (map to_ascii_lowercase inner) (map to_ascii_lowercase id_name) (34 ∷ []) (sym (map-append to_ascii_lowercase inner (34 ∷ [])) ∙ rest)

pub record IsIdField (left behind : Left) : Type 0 where
  pub field : List Part
  pub value : List ℕ
  pub astring : IsAstring field value
  pub same : SameWord value id_name
  pub passes : Passes left field behind

some_same : (value : List ℕ) → SameWord value id_name → value ≢ []
some_same [] same is = absurd cc
some_same (b ∷ value) same is = cc

bare_field : (left : Left) → Fits left → SameWord (take 10 left.text) id_name → IsIdField left (at_left left (drop 10 left.text))
bare_field left fits same = record {
  field = bytes (take 10 left.text);
  value = take 10 left.text;
  astring = inr (record {
    some = some_same (take 10 left.text) same;
    each =
        same_passes is_astring_byte astring_lower (take 10 left.text) id_name same refl;
    whole = refl;
  });
  same = same;
  passes = bytes_pass left (take 10 left.text) (drop 10 left.text) fits (sym (take-append-drop 10 left.text));
}

abbrev Next : Type 0
Next = TokenKind × List ℕ × Left

abbrev field_by : Left → Next → Result Left ℕ
field_by left t = cond (is_id left t.0 t.1) (Ok t.2) (Err (length left.text))

field_is : (left : Left) → id_field_at left ≡ cond (same_word (take 10 left.text) id_name) (Ok (at_left left (drop 10 left.text)))
    (next_at left >>= field_by left)
unfolding id_field_at
field_is left = refl

kind_field : (kind : TokenKind) (left : Left) (token : List ℕ) (behind : Left) → is_id left kind token ≡ true →
    IsTaken left (kind, token, behind) → IsIdField left behind
kind_field kinds.Atom left token behind is taken = absurd cc
kind_field kinds.Number left token behind is taken = absurd cc
kind_field kinds.Nil left token behind is taken = absurd cc
kind_field kinds.Quoted left token behind is taken =
    let cs : List Character = taken.token.0 in
    let same : SameWord (quoted_text taken.token.0) (codes "\"Message-ID\"") =
    subst (λ (t : List ℕ). SameWord t (codes "\"Message-ID\"")) taken.token.2 (same_is token (codes "\"Message-ID\"") is) in
    let inner = quotes_off (flat_map character_text taken.token.0) same in
    let value = text_value taken.token.0 (bland_of (flat_map character_text taken.token.0) inner) in
    record {
      field = taken.parts;
      value = flat_map character_byte taken.token.0;
      astring = inl (inl (token, taken.token.0, record { lawful = taken.token.1; whole = taken.token.2 }, taken.token.3, refl));
      same = subst (λ (v : List ℕ). SameWord v id_name) value inner;
      passes = taken.passes;
    }
kind_field kinds.Literal left token behind is taken =
    let passes = subst (λ (p : List Part). Passes left p behind) taken.token.3 taken.passes in
    let value : octets left.literals token ≡ taken.token.1 = ap (octets left.literals) taken.token.2
    ∙ octets_is left behind taken.token.0 taken.token.1 passes in
    record {
      field = taken.parts;
      value = taken.token.1;
      astring = inl (inr (taken.token.0, taken.token.3));
      same = subst (λ (v : List ℕ). SameWord v id_name) value (same_is (octets left.literals token) id_name is);
      passes = taken.passes;
    }
kind_field kinds.LeftParen left token behind is taken = absurd cc
kind_field kinds.RightParen left token behind is taken = absurd cc
kind_field kinds.LeftBracket left token behind is taken = absurd cc
kind_field kinds.RightBracket left token behind is taken = absurd cc
kind_field kinds.Space left token behind is taken = absurd cc

pub field_spells : (left behind : Left) → Fits left → id_field_at left ≡ Ok behind → IsIdField left behind
field_spells left behind fits is =
    elim (ok_either (same_word (take 10 left.text) id_name) (Ok (at_left left (drop 10 left.text))) (next_at left >>= field_by left) behind
    (sym (field_is left) ∙ is)) [
      | inl bare ↦ subst (IsIdField left) (ok_is (at_left left (drop 10 left.text)) behind bare.1)
          (bare_field left fits (same_is (take 10 left.text) id_name bare.0))
      | inr string ↦
          let t = ok_bind (next_at left) (field_by left) behind string.1 in
          let both = ok_first (is_id left t.0.0 t.0.1) (length left.text) (Ok t.0.2) behind t.2 in
          subst (IsIdField left) (ok_is t.0.2 behind both.1) (kind_field t.0.0 left t.0.1 t.0.2 both.0 (next_spells left t.0 fits t.1))
    ]

-- what is spelled is read
bare_reads : (left behind : Left) (value : List ℕ) → SameWord value id_name → Passes left (bytes value) behind → id_field_at left ≡ Ok behind
bare_reads left behind value same passes =
    let whole = pass_bytes left value behind passes in
    let len : length value ≡ 10 = sym (length-map value to_ascii_lowercase) ∙ ap length same in
    let front : take 10 left.text ≡ value = ap (λ (n : ℕ). take n left.text) (sym len) ∙ ap (take (length value)) whole ∙ take-append_seam value behind.text in
    let rest : drop 10 left.text ≡ behind.text = ap (λ (n : ℕ). drop n left.text) (sym len) ∙ ap (drop (length value)) whole
    ∙ drop-append_seam value behind.text in
    let test : same_word (take 10 left.text) id_name ≡ true = ap (λ (w : List ℕ). same_word w id_name) front ∙ is_same value id_name same in
    field_is left ∙ rw test (ap (λ (t : List ℕ). Ok (at_left left t)) rest ∙ ap (λ (l : Left). Ok l) (pass_left left value behind passes))

no_quote : (more : List ℕ) → SameWord (34 ∷ more) id_name → ⊥
no_quote more same = let e : ◌≡◌ {A = ℕ} 34 109 = ap (λ (t : List ℕ). get_or t 0 0) same in omega (arith, e)

no_brace : (more : List ℕ) → SameWord (123 ∷ more) id_name → ⊥
no_brace more same = let e : ◌≡◌ {A = ℕ} 123 109 = ap (λ (t : List ℕ). get_or t 0 0) same in omega (arith, e)

not_bare : (text more : List ℕ) (b : ℕ) → text ≡ b ∷ more → ((rest : List ℕ) → SameWord (b ∷ rest) id_name → ⊥) → same_word (take 10 text) id_name ≡ false
not_bare text more b is other = is_other (take 10 text) id_name (subst (λ (t : List ℕ). SameWord (take 10 t) id_name → ⊥) (sym is) (other (take 9 more)))

quoted_reads : (left behind : Left) (cs : List Character) → AllByRecursion IsCharacter cs → SameWord (flat_map character_byte cs) id_name →
    Passes left (bytes (quoted_text cs)) behind → id_field_at left ≡ Ok behind
quoted_reads left behind cs lawful same passes =
    let text = value_text cs lawful (bland_of (flat_map character_byte cs) same) in
    let token : same_word (quoted_text cs) (codes "\"Message-ID\"") ≡ true =
    is_same (quoted_text cs) (codes "\"Message-ID\"") (quotes_on (flat_map character_text cs)
    (subst (λ (v : List ℕ). SameWord v id_name) (sym text) same)) in
    let none = not_bare left.text ((flat_map character_text cs ++ 34 ∷ []) ++ behind.text) 34 (pass_bytes left (quoted_text cs) behind passes) no_quote in
    field_is left ∙ rw none (bind_ok (next_at left) (field_by left) (kinds.Quoted, quoted_text cs, behind) behind
    (quoted_token_reads left cs behind lawful passes) (rw token refl))

literal_reads : (left behind : Left) (digits value : List ℕ) → SameWord value id_name → Passes left (Literal digits value ∷ []) behind →
    id_field_at left ≡ Ok behind
literal_reads left behind digits value same passes =
    let there : same_word (octets left.literals (part_text (Literal digits value))) id_name ≡ true =
    ap (λ (v : List ℕ). same_word v id_name) (octets_is left behind digits value passes) ∙ is_same value id_name same in
    let none = not_bare left.text ((((digits ++ 125 ∷ []) ++ 13 ∷ 10 ∷ value) ++ []) ++ behind.text) 123 passes.text no_brace in
    field_is left ∙ rw none (bind_ok (next_at left) (field_by left) (kinds.Literal, part_text (Literal digits value), behind) behind
    (literal_token_reads left digits value behind passes) (rw there refl))

pub field_reads : (left behind : Left) (field : List Part) (value : List ℕ) → IsAstring field value → SameWord value id_name →
    Passes left field behind → id_field_at left ≡ Ok behind
field_reads left behind field value (inl (inl quoted)) same passes =
    quoted_reads left behind quoted.1 quoted.2.lawful (subst (λ (v : List ℕ). SameWord v id_name) quoted.4 same)
    (subst (λ (p : List Part). Passes left p behind) (quoted.3 ∙ ap (λ (t : List ℕ). bytes t) quoted.2.whole) passes)
field_reads left behind field value (inl (inr literal)) same passes =
    literal_reads left behind literal.0 value same (subst (λ (p : List Part). Passes left p behind) literal.1 passes)
field_reads left behind field value (inr bare) same passes =
    bare_reads left behind value same (subst (λ (p : List Part). Passes left p behind) bare.whole passes)

-- The lines without a meaning.
use Rattle.std.proofs.Common.{◌≡◌, ℕ, zero, suc, ◌<◌, true, false, List, [], ◌∷◌, ◌++◌, refl, sym, ◌∙◌, ap, subst, arith, inl, inr}
use Rattle.std.proofs.lemmas.Bool.{and_parts}
use Rattle.std.specs.Prelude.{◌≢◌, ◌==◌, codes}
use Rattle.std.specs.List.{AllByRecursion, list_all}
use Rattle.std.specs.Char.{digit_value, to_ascii_lowercase}
use Rattle.std.specs.Str.Parse.{IsNumeral}
use Rattle.imap_model.specs.Lines.{IsSpelled}
use Rattle.imap_model.specs.Others.{IsQuiet, EndInHeader, GoesOnWith}
use Rattle.imap_model.specs.Parts.{Part, Byte, bytes}
use Rattle.imap_model.specs.Words.{Spaced, SameWord}
use Rattle.imap_model.specs.declared.response.Response.TheVariants as responses
use Rattle.response_lines.specs.LineTexts.{other_text}
use Rattle.response_lines.proofs.PlainLines.{is_quiet_byte, begins_unspaced, is_a_word, one_space, quiet_no_lf, quiet_no_cr, quiet_no_nul, quiet_spelled}

quiet_parts : (text : List ℕ) → list_all is_quiet_byte text ≡ true → AllByRecursion IsQuiet (bytes text)
quiet_parts [] h = tt
quiet_parts (b ∷ text) h =
    let both = and_parts (is_quiet_byte b) (list_all is_quiet_byte text) h in
    ((quiet_no_nul b both.0, quiet_no_lf b both.0, quiet_no_cr b both.0), quiet_parts text both.1)

no_brace : (text : List ℕ) (front more : List Part) → list_all is_quiet_byte text ≡ true → bytes text ≡ front ++ Byte 123 ∷ more → ⊥
no_brace [] [] more h is = cc
no_brace [] (p ∷ front) more h is = cc
no_brace (b ∷ text) [] more h is = let first : b ≡ 123 = cc in
    absurd (let bad : is_quiet_byte 123 ≡ true = subst (λ (x : ℕ). is_quiet_byte x ≡ true) first
    (and_parts (is_quiet_byte b) (list_all is_quiet_byte text) h).0 in cc)
no_brace (b ∷ text) (p ∷ front) more h is = no_brace text front more (and_parts (is_quiet_byte b) (list_all is_quiet_byte text) h).1 cc

quiet_end : (text : List ℕ) → list_all is_quiet_byte text ≡ true → EndInHeader (bytes text) → ⊥
quiet_end text h ends = no_brace text ends.0 (bytes (ends.1 ++ 125 ∷ [])) h ends.3

-- behind one space there is one text
one_rest : (gap behind : List ℕ) (b : ℕ) (more : List ℕ) → (b == 32) ≡ false → AllByRecursion (λ byte. byte ≡ 32) gap →
    b ∷ more ≡ gap ++ behind → behind ≡ b ∷ more
one_rest [] behind b more other all is = sym is
one_rest (g ∷ gap) behind b more other all is =
    let first : b ≡ 32 = (let h : g ≡ 32 = all.0 in cc) in
    absurd (let bad : (32 == 32) ≡ false = subst (λ (x : ℕ). (x == 32) ≡ false) first other in cc)

gap_rest : (gap behind : List ℕ) (b : ℕ) (more : List ℕ) → (b == 32) ≡ false → gap ≢ [] → AllByRecursion (λ byte. byte ≡ 32) gap →
    32 ∷ b ∷ more ≡ gap ++ behind → behind ≡ b ∷ more
gap_rest [] behind b more other some all is = absurd (some refl)
gap_rest (g ∷ gap) behind b more other some all is = one_rest gap behind b more other all.1 (let rest : b ∷ more ≡ gap ++ behind = cc in rest)

spaced_rest : (b : ℕ) (more behind : List ℕ) → (b == 32) ≡ false → Spaced (32 ∷ b ∷ more) behind → behind ≡ b ∷ more
spaced_rest b more behind other s = gap_rest s.gap behind b more other s.spaces.0 s.spaces.1 s.whole

-- the second word of `* 0 RECENT`
abbrev first_of : List ℕ → ℕ
first_of [] = 0
first_of (b ∷ text) = b

no_exists : (word rest : List ℕ) → codes "RECENT" ≡ word ++ rest → SameWord word (codes "EXISTS") → ⊥
no_exists [] rest is same = absurd (let e : ◌≡◌ {A = ℕ} 0 101 = ap first_of same in omega arith)
no_exists (b ∷ word) rest is same =
    let first : b ≡ 82 = sym (ap first_of is) in
    let e : ◌≡◌ {A = ℕ} 114 101 = subst (λ (x : ℕ). to_ascii_lowercase x ≡ 101) first (ap first_of same) in
    absurd (omega arith)

no_fetch : (word rest : List ℕ) → codes "RECENT" ≡ word ++ rest → SameWord word (codes "FETCH") → ⊥
no_fetch [] rest is same = absurd (let e : ◌≡◌ {A = ℕ} 0 102 = ap first_of same in omega arith)
no_fetch (b ∷ word) rest is same =
    let first : b ≡ 82 = sym (ap first_of is) in
    let e : ◌≡◌ {A = ℕ} 114 102 = subst (λ (x : ℕ). to_ascii_lowercase x ≡ 102) first (ap first_of same) in
    absurd (omega arith)

not_exists : GoesOnWith (codes " RECENT") (codes "EXISTS") → ⊥
not_exists goes = no_exists goes.3.word goes.1 (sym (spaced_rest 82 (codes "ECENT") goes.0 refl goes.2) ∙ goes.3.whole) goes.3.same

not_fetch : GoesOnWith (codes " RECENT") (codes "FETCH") → ⊥
not_fetch goes = no_fetch goes.3.word goes.1 (sym (spaced_rest 82 (codes "ECENT") goes.0 refl goes.2) ∙ goes.3.whole) goes.3.same

not_digits : (b : ℕ) (more : List ℕ) → (digit_value b < 10 → ⊥) → IsNumeral 10 (b ∷ more) → ⊥
not_digits b more other numeral = other numeral.1.0

one_zero : IsNumeral 10 (48 ∷ [])
one_zero = (omega arith, (omega arith, tt))

pub other_spelled : (before : ℕ) → IsSpelled responses.Other (other_text before)
other_spelled zero = quiet_spelled responses.Other (codes "* 0 RECENT") refl (record {
  word = codes "0";
  later = codes " RECENT";
  untagged = (codes " 0 RECENT", refl, one_space (codes "0 RECENT") (begins_unspaced 48 (codes " RECENT") refl));
  is_word = is_a_word (codes "0") (λ e. cc) refl;
  ends = refl;
  strange = inl (one_zero, not_exists, not_fetch);
  quiet = quiet_parts (codes "* 0 RECENT") refl;
  closed = quiet_end (codes "* 0 RECENT") refl;
})
other_spelled (suc zero) = quiet_spelled responses.Other (codes "* FLAGS (\\Answered \\Flagged \\Deleted \\Seen \\Draft)") refl (record {
  word = codes "FLAGS";
  later = codes " (\\Answered \\Flagged \\Deleted \\Seen \\Draft)";
  untagged = (
    codes " FLAGS (\\Answered \\Flagged \\Deleted \\Seen \\Draft)",
    refl,
    one_space (codes "FLAGS (\\Answered \\Flagged \\Deleted \\Seen \\Draft)") (begins_unspaced 70 _ refl),
  );
  is_word = is_a_word (codes "FLAGS") (λ e. cc) refl;
  ends = refl;
  strange = inr (not_digits 70 (codes "LAGS") (λ h. omega arith), refl);
  quiet = quiet_parts (codes "* FLAGS (\\Answered \\Flagged \\Deleted \\Seen \\Draft)") refl;
  closed = quiet_end (codes "* FLAGS (\\Answered \\Flagged \\Deleted \\Seen \\Draft)") refl;
})
other_spelled (suc (suc before)) = quiet_spelled responses.Other (codes "* XNOTE 1") refl (record {
  word = codes "XNOTE";
  later = codes " 1";
  untagged = (codes " XNOTE 1", refl, one_space (codes "XNOTE 1") (begins_unspaced 88 (codes "NOTE 1") refl));
  is_word = is_a_word (codes "XNOTE") (λ e. cc) refl;
  ends = refl;
  strange = inr (not_digits 88 (codes "NOTE") (λ h. omega arith), refl);
  quiet = quiet_parts (codes "* XNOTE 1") refl;
  closed = quiet_end (codes "* XNOTE 1") refl;
})

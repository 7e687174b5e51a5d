-- A header at the end of a part is found in one way, from the digits that end the part (RFC 9051, section 4.3).
use Rattle.std.proofs.Common.{◌≡◌, ◌≢◌, ℕ, zero, suc, ◌+◌, ◌-◌, ◌<◌, ◌≤◌, List, [], ◌∷◌, ◌++◌, inl, inr, length, take, drop, sym, ◌∙◌, ap}
use Rattle.std.proofs.Common.{subst, arith, get_or, drop-cons, length-append, take-append-drop}
use Rattle.std.proofs.lemmas.List.{same_from_push, drop-append-le, get_or-append-add}
use Rattle.std.proofs.lemmas.Str.Parse.{digit_at}
use Rattle.std.proofs.lemmas.Bool.{cases_lt}
use Rattle.std.specs.Prelude.{slice_index}
use Rattle.std.specs.Char.{digit_value, IsAsciiDigit}
use Rattle.std.specs.Str.Parse.{AllDigits, IsNumeral}
use Rattle.mail_base.specs.Frames.{header}
use Rattle.mail_base.proofs.Headers.{no_brace, open_brace}

-- one digit more in front
pub digits-front : (text : List ℕ) (from : ℕ) → 0 < from → from ≤ length text → AllDigits 10 (drop from text) →
    digit_value (slice_index text (from - 1)) < 10 → AllDigits 10 (drop (from - 1) text)
digits-front text zero some within all digit = absurd (omega arith)
digits-front text (suc from) some within all digit =
    let at : suc from - 1 ≡ from = omega arith in
    let d : digit_value (get_or text from 0) < 10 = subst (λ k. digit_value (get_or text k 0) < 10) at digit in
    rw (at, drop-cons text from 0) (d, all)

-- the digits at the end of a text begin behind its last `{`
module _ (text front digits : List ℕ) (from : ℕ) (is : text ≡ front ++ 123 ∷ digits) (numeral : AllDigits 10 digits)
    (within : from ≤ length text) (all : AllDigits 10 (drop from text)) (other : 0 < from → IsAsciiDigit (slice_index text (from - 1)) → ⊥) where
  size : length text ≡ length front + (length digits + 1)
  size = omega (arith, ap length is, length-append front (123 ∷ digits))

  not_before : from ≤ length front → ⊥
  not_before le = no_brace (drop from front) (drop from text) digits all (ap (drop from) is ∙ drop-append-le from front (123 ∷ digits) le)

  not_behind : length front + 1 < from → ⊥
  not_behind lt =
      let k : ℕ = from - 1 - (length front + 1) in
      let digit = digit_at digits k numeral (omega (arith, size, within, lt)) in
      let there : from - 1 ≡ length front + suc k = omega (arith, lt) in
      other (omega (arith, lt)) (subst IsAsciiDigit (sym (ap (λ (t : List ℕ). get_or t (from - 1) 0) is
      ∙ ap (λ (i : ℕ). get_or (front ++ 123 ∷ digits) i 0) there ∙ get_or-append-add front (123 ∷ digits) (suc k) 0)) digit)

  pub place : from ≡ length front + 1
  place = elim (cases_lt from (length front + 1)) [
    | inl lt ↦ absurd (not_before (omega (arith, lt)))
    | inr le ↦ elim (cases_lt (length front + 1) from) [ inl lt ↦ absurd (not_behind lt) | inr le' ↦ omega (arith, le, le') ]
  ]

  pub brace_there : slice_index text (from - 1) ≡ 123
  brace_there =
      let at : from - 1 ≡ length front + 0 = omega (arith, place) in
      ap (λ (t : List ℕ). get_or t (from - 1) 0) is ∙ ap (λ (i : ℕ). get_or (front ++ 123 ∷ digits) i 0) at ∙ get_or-append-add front (123 ∷ digits) 0 0

-- where the last byte is no `}`, or no `{` stands before digits at the end, there is no header
pub none_without_close : (part text : List ℕ) (close : ℕ) → part ≡ text ++ close ∷ [] → close ≢ 125 → (front digits : List ℕ) →
    IsNumeral 10 digits → part ≡ front ++ header digits → ⊥
none_without_close part text close is other front digits numeral e =
    other (same_from_push text (front ++ 123 ∷ digits) close 125 (sym is ∙ e ∙ open_brace front digits)).1

pub none_without_brace : (part text : List ℕ) (close from : ℕ) → part ≡ text ++ close ∷ [] → from ≤ length text →
    AllDigits 10 (drop from text) → (0 < from → IsAsciiDigit (slice_index text (from - 1)) → ⊥) →
    (0 < from → from < length text → slice_index text (from - 1) ≡ 123 → ⊥) → (front digits : List ℕ) → IsNumeral 10 digits →
    part ≡ front ++ header digits → ⊥
none_without_brace part text close from is within all other none front digits numeral e =
    let same : text ≡ front ++ 123 ∷ digits = (same_from_push text (front ++ 123 ∷ digits) close 125 (sym is ∙ e ∙ open_brace front digits)).0 in
    let at = place text front digits from same numeral.1 within all other in
    none (omega (arith, at)) (omega (arith, at, size text front digits from same numeral.1 within all other, numeral.0))
    (brace_there text front digits from same numeral.1 within all other)

-- and else there is one
pub some_header : (part text : List ℕ) (close from : ℕ) → part ≡ text ++ close ∷ [] → close ≡ 125 → 0 < from → from ≤ length text →
    slice_index text (from - 1) ≡ 123 → part ≡ take (from - 1) text ++ header (drop from text)
some_header part text close zero is closes some within brace = absurd (omega (arith, some))
some_header part text close (suc from) is closes some within brace =
    let at : suc from - 1 ≡ from = omega arith in
    let b : get_or text from 0 ≡ 123 = subst (λ (i : ℕ). get_or text i 0 ≡ 123) at brace in
    let cut : text ≡ take from text ++ 123 ∷ drop (suc from) text =
    sym (take-append-drop from text) ∙ ap (λ (t : List ℕ). take from text ++ t) (drop-cons text from 0 within ∙ ap (λ (x : ℕ). x ∷ drop (suc from) text) b) in
    is ∙ ap (λ (x : ℕ). text ++ x ∷ []) closes ∙ ap (λ (t : List ℕ). t ++ 125 ∷ []) cut
    ∙ sym (open_brace (take from text) (drop (suc from) text)) ∙ ap (λ (i : ℕ). take i text ++ header (drop (suc from) text)) (sym at)

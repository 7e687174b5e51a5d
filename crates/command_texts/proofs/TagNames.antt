-- The tag that a word names: a letter, a number, and for a later try R2 or R3.
use Rattle.std.proofs.Common.{◌≡◌, ◌≢◌, ◌<◌, ◌≤◌, ℕ, zero, suc, List, [], ◌∷◌, ◌++◌, codes, decimal, Option, Some, None, refl, ap, sym, ◌∙◌, subst, arith}
use Rattle.std.specs.Prelude.{IfNone, IfSome}
use Rattle.std.proofs.lemmas.List.{append_cancel_right}
use Rattle.imap_model.specs.Tagged.{IsLettered, IsTried, NamesTag}
use Rattle.mail_base.specs.declared.tag.Tag.TheVariants.{Strange}
use Rattle.command_texts.specs.FirstWord.{IsNumberBefore}
use Rattle.command_texts.proofs.Cuts.{three_is, two_is}

-- no other letter names a tag
pub strange_letter : (letter : ℕ) (text : List ℕ) → letter ≢ 80 → letter ≢ 67 → NamesTag (letter ∷ text) Strange
strange_letter letter text p c = λ number. (
  λ l. let e : letter ∷ text ≡ 80 ∷ decimal number = l.whole in p (cc),
  λ l. let e : letter ∷ text ≡ 67 ∷ decimal number = l.whole in c (cc),
  λ turn l. let e : letter ∷ text ≡ 80 ∷ (decimal number ++ 82 ∷ decimal turn) = l.whole in p (cc),
)

pub strange_empty : NamesTag [] Strange
strange_empty = λ number. (
  λ l. let e : [] ≡ 80 ∷ decimal number = l.whole in cc,
  λ l. let e : [] ≡ 67 ∷ decimal number = l.whole in cc,
  λ turn l. let e : [] ≡ 80 ∷ (decimal number ++ 82 ∷ decimal turn) = l.whole in cc,
)

-- a count that is none
pub strange_count : (text : List ℕ) → ((letter number : ℕ) → IsLettered letter number (letter ∷ text) → ⊥) → NamesTag (67 ∷ text) Strange
strange_count text none = λ number. (
  λ l. let e : 67 ∷ text ≡ 80 ∷ decimal number = l.whole in let f : ◌≡◌ {A = ℕ} 67 80 = cc in omega (arith, f),
  λ l. none 67 number l,
  λ turn l. let e : 67 ∷ text ≡ 80 ∷ (decimal number ++ 82 ∷ decimal turn) = l.whole in let f : ◌≡◌ {A = ℕ} 67 80 = cc in omega (arith, f),
)

-- a later try
tried_of : (number turn : ℕ) (text : List ℕ) → 2 ≤ turn → turn ≤ 3 → IsNumberBefore number (82 ∷ decimal turn) text → IsTried 80 number turn (80 ∷ text)
tried_of number turn text low high is = record {
  nonzero = is.nonzero;
  fits = is.fits;
  second = low;
  third = high;
  whole = ap (λ x. 80 ∷ x) is.whole;
}

before_of : (number turn : ℕ) (text : List ℕ) → IsTried 80 number turn (80 ∷ text) → IsNumberBefore number (82 ∷ decimal turn) text
before_of number turn text is =
    let e : 80 ∷ text ≡ 80 ∷ (decimal number ++ 82 ∷ decimal turn) = is.whole in
    record { nonzero = is.nonzero; fits = is.fits; whole = cc }

pub second_of : (number : ℕ) (text : List ℕ) → IsNumberBefore number (codes "R2") text → IsTried 80 number 2 (80 ∷ text)
second_of number text is =
    tried_of number 2 text (omega arith) (omega arith) (subst (λ (d : List ℕ). IsNumberBefore number (82 ∷ d) text) (sym two_is) is)

pub third_of : (number : ℕ) (text : List ℕ) → IsNumberBefore number (codes "R3") text → IsTried 80 number 3 (80 ∷ text)
third_of number text is =
    tried_of number 3 text (omega arith) (omega arith) (subst (λ (d : List ℕ). IsNumberBefore number (82 ∷ d) text) (sym three_is) is)

-- a number before an ending
pub before_some : (digits ending text : List ℕ) (found : Option ℕ) → text ≡ digits ++ ending
    → IfSome found (λ number. (letter : ℕ) → IsLettered letter number (letter ∷ digits)) → IfSome found (λ number. IsNumberBefore number ending text)
before_some digits ending text None cut is = tt
before_some digits ending text (Some number) cut is =
    let l = is 80 in
    let same : 80 ∷ digits ≡ 80 ∷ decimal number = l.whole in
    let these : digits ≡ decimal number = cc in
    record { nonzero = l.nonzero; fits = l.fits; whole = cut ∙ ap (λ x. x ++ ending) these }

pub before_none : (digits ending text : List ℕ) (found : Option ℕ) → text ≡ digits ++ ending
    → IfNone found ((letter number : ℕ) → IsLettered letter number (letter ∷ digits) → ⊥) → IfNone found ((number : ℕ) → IsNumberBefore number ending text → ⊥)
before_none digits ending text (Some number) cut none = tt
before_none digits ending text None cut none = λ number is.
    let these : digits ≡ decimal number = append_cancel_right digits (decimal number) ending (sym cut ∙ is.whole) in
    none 80 number (record { nonzero = is.nonzero; fits = is.fits; whole = ap (λ x. 80 ∷ x) these })

-- neither an action's number nor a later try
pub strange_action : (text : List ℕ) → ((letter number : ℕ) → IsLettered letter number (letter ∷ text) → ⊥) →
    ((number : ℕ) → IsNumberBefore number (codes "R2") text → ⊥) → ((number : ℕ) → IsNumberBefore number (codes "R3") text → ⊥) → NamesTag (80 ∷ text) Strange
strange_action text first second third = λ number. (
  λ l. first 80 number l,
  λ l. let e : 80 ∷ text ≡ 67 ∷ decimal number = l.whole in let f : ◌≡◌ {A = ℕ} 80 67 = cc in omega (arith, f),
  λ turn l. later number turn l.second l.third (before_of number turn text l),
)
  where
    later : (number turn : ℕ) → 2 ≤ turn → turn ≤ 3 → IsNumberBefore number (82 ∷ decimal turn) text → ⊥
    later number zero low high is = omega (arith, low)
    later number (suc zero) low high is = omega (arith, low)
    later number (suc (suc zero)) low high is = second number (subst (λ (d : List ℕ). IsNumberBefore number (82 ∷ d) text) two_is is)
    later number (suc (suc (suc zero))) low high is = third number (subst (λ (d : List ℕ). IsNumberBefore number (82 ∷ d) text) three_is is)
    later number (suc (suc (suc (suc k)))) low high is = omega (arith, high)

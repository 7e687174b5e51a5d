-- The header of a literal at the end of a part is one (RFC 9051, section 4.3).
use Rattle.std.proofs.Common.{◌≡◌, List, [], ◌∷◌, ◌++◌, ℕ, refl, sym, ◌∙◌, subst, arith, append_assoc, ◌<◌}
use Rattle.std.proofs.lemmas.List.{same_from_push}
use Rattle.std.specs.Char.{digit_value}
use Rattle.std.specs.Str.Parse.{AllDigits}
use Rattle.mail_base.specs.Frames.{header}

-- no digit is a `{`
not_brace : digit_value 123 < 10 → ⊥
not_brace h = omega (arith, h)

pub no_brace : (front digits more : List ℕ) → AllDigits 10 digits → digits ≡ front ++ 123 ∷ more → ⊥
no_brace [] [] more all e = cc
no_brace [] (d ∷ ds) more all e = let b : d ≡ 123 = cc in not_brace (subst (λ k. digit_value k < 10) b all.0)
no_brace (f ∷ fs) [] more all e = cc
no_brace (f ∷ fs) (d ∷ ds) more all e = no_brace fs ds more all.1 cc

-- a header's parts before its `}`
pub open_brace : (front digits : List ℕ) → front ++ header digits ≡ (front ++ 123 ∷ digits) ++ 125 ∷ []
open_brace front digits = sym (append_assoc front (123 ∷ digits) (125 ∷ []))

-- one way
pub one_header : (f d g e : List ℕ) → AllDigits 10 d → AllDigits 10 e → f ++ header d ≡ g ++ header e → (f ≡ g) × (d ≡ e)
one_header f d g e da ea same = inside f d g e da ea (same_from_push (f ++ 123 ∷ d) (g ++ 123 ∷ e) 125 125 (sym (open_brace f d) ∙ same ∙ open_brace g e)).0
  where
    inside : (f d g e : List ℕ) → AllDigits 10 d → AllDigits 10 e → f ++ 123 ∷ d ≡ g ++ 123 ∷ e → (f ≡ g) × (d ≡ e)
    inside [] d [] e da ea s = (refl, cc)
    inside [] d (c ∷ g) e da ea s = absurd (no_brace g d e da cc)
    inside (c ∷ f) d [] e da ea s = absurd (no_brace f e d ea cc)
    inside (c ∷ f) d (c' ∷ g) e da ea s =
        let head : c ≡ c' = cc in
        let rest = inside f d g e da ea cc in
        ((λ i. head i ∷ rest.0 i), rest.1)

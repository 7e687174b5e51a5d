-- Where no LF stands.
use Rattle.std.proofs.Common.{◌≡◌, ◌≢◌, ℕ, zero, suc, ◌<◌, List, [], ◌∷◌, ◌++◌, length, refl, subst, arith, get_or}
use Rattle.std.specs.List.{AllByRecursion-prop}
use Rattle.std.specs.Str.Parse.{AllDigits}
use Rattle.std.specs.Char.{digit_value}
use Rattle.mail_base.specs.Frames.{NoLf, header}

pub no_lf-append : (xs ys : List ℕ) → NoLf xs → NoLf ys → NoLf (xs ++ ys)
no_lf-append [] ys a b = b
no_lf-append (x ∷ xs) ys a b = (a.0, no_lf-append xs ys a.1 b)

pub no_lf-front : (xs ys : List ℕ) → NoLf (xs ++ ys) → NoLf xs
no_lf-front [] ys a = tt
no_lf-front (x ∷ xs) ys a = (a.0, no_lf-front xs ys a.1)

pub no_lf-back : (xs ys : List ℕ) → NoLf (xs ++ ys) → NoLf ys
no_lf-back [] ys a = a
no_lf-back (x ∷ xs) ys a = no_lf-back xs ys a.1

pub no_lf-here : (xs ys : List ℕ) → NoLf (xs ++ 10 ∷ ys) → ⊥
no_lf-here [] ys a = a.0 refl
no_lf-here (x ∷ xs) ys a = no_lf-here xs ys a.1

pub no_lf-index : (xs : List ℕ) → ((k : ℕ) → k < length xs → get_or xs k 0 ≢ 10) → NoLf xs
no_lf-index [] h = tt
no_lf-index (x ∷ xs) h = (h zero (omega arith), no_lf-index xs (λ k lt. h (suc k) (omega (arith, lt))))

not_lf : digit_value 10 < 10 → ⊥
not_lf h = omega (arith, h)

pub no_lf-digits : (ds : List ℕ) → AllDigits 10 ds → NoLf ds
no_lf-digits [] all = tt
no_lf-digits (d ∷ ds) all = ((λ e. not_lf (subst (λ k. digit_value k < 10) e all.0)), no_lf-digits ds all.1)

pub no_lf-header : (ds : List ℕ) → AllDigits 10 ds → NoLf (header ds)
no_lf-header ds all = ((λ e. absurd (omega (arith, e))), no_lf-append ds (125 ∷ []) (no_lf-digits ds all) ((λ e. absurd (omega (arith, e))), tt))

-- the first LF stands at one place
pub one_lf : (p q x y : List ℕ) → NoLf p → NoLf q → p ++ 10 ∷ x ≡ q ++ 10 ∷ y → (p ≡ q) × (x ≡ y)
one_lf [] [] x y a b e = (refl, cc)
one_lf [] (c ∷ q) x y a b e = absurd (b.0 cc)
one_lf (c ∷ p) [] x y a b e = absurd (a.0 cc)
one_lf (c ∷ p) (d ∷ q) x y a b e =
    let same : c ≡ d = cc in
    let rest = one_lf p q x y a.1 b.1 cc in
    ((λ i. same i ∷ rest.0 i), rest.1)

pub no_lf-prop : (xs : List ℕ) → IsProp (NoLf xs)
no_lf-prop xs = AllByRecursion-prop (λ b. b ≢ 10) (λ b. (hlevel)) xs

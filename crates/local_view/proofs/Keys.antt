-- When two keys of a map are one.
use Rattle.std.proofs.Common.{◌≡◌, ℕ, ◌&&◌, refl, ◌∙◌, ap, arith}
use Rattle.std.specs.Prelude.{◌==◌}
use Rattle.std.specs.Ordering.{nat_cmp, ordering_then, is_eq}
use Rattle.std.specs.BTreeMap.{is_at}
use Rattle.std.specs.declared.cmp.Ordering.{Ordering}
use Rattle.std.specs.declared.cmp.Ordering.TheVariants.{Less, Equal, Greater}
use Rattle.local_view.specs.Touching.{key_order}

then_equal : (first second : Ordering) → is_eq (ordering_then first second) ≡ (is_eq first && is_eq second)
then_equal Less second = refl
then_equal Equal second = refl
then_equal Greater second = refl

-- numbers are their own keys
pub numbers_equal : (a b : ℕ) → is_eq (nat_cmp a b) ≡ (a == b)
numbers_equal a b = grind arith

-- a place and a UID are found where both are the same
pub key_is_at : (a b : ℕ × ℕ) → is_at (key_order a) b ≡ ((a.0 == b.0) && (a.1 == b.1))
key_is_at a b =
    then_equal (nat_cmp a.0 b.0) (nat_cmp a.1 b.1)
    ∙ ap (λ x. x && is_eq (nat_cmp a.1 b.1)) (numbers_equal a.0 b.0) ∙ ap (λ x. (a.0 == b.0) && x) (numbers_equal a.1 b.1)

-- Faults of a stream are alike or not, so that what is known to be alike is alike (RFC 9051, sections 2.2 and 4.3).
use Rattle.std.proofs.Common.{◌≡◌, ◌⊎◌, inl, inr, ℕ, refl, ap, arith}
use Rattle.std.proofs.Math.Logic.{∥∥₁_elim}
use Rattle.std.proofs.lemmas.Bool.{cases_lt}
use Rattle.mail_base.specs.declared.frame.FeedFault.{FeedFault}
use Rattle.mail_base.specs.declared.frame.FeedFault.TheVariants as faults

same_number : (m n : ℕ) → (m ≡ n) ⊎ (m ≡ n → ⊥)
same_number m n = elim (cases_lt m n) [
  | inl lt ↦ inr (λ e. omega (arith, e, lt))
  | inr le ↦ elim (cases_lt n m) [ inl lt ↦ inr (λ e. omega (arith, e, lt)) | inr le' ↦ inl (omega (arith, le, le')) ]
]

place_of : FeedFault → ℕ
place_of (faults.BareLf p) = p
place_of (faults.LiteralTooLarge p x) = p
place_of (faults.LineTooLong p) = p
place_of faults.Memory = 0

asked_of : FeedFault → ℕ
asked_of (faults.BareLf p) = 0
asked_of (faults.LiteralTooLarge p x) = x
asked_of (faults.LineTooLong p) = 0
asked_of faults.Memory = 0

either : (A : Type 0) {B : Type 0} → A ⊎ (A → ⊥) → (A → B) → (B → A) → B ⊎ (B → ⊥)
either A (inl a) f g = inl (f a)
either A (inr other) f g = inr (λ b. other (g b))

pub same_fault : (f g : FeedFault) → (f ≡ g) ⊎ (f ≡ g → ⊥)
unfolding place_of asked_of
same_fault (faults.BareLf p) (faults.BareLf q) = either (p ≡ q) (same_number p q) (λ e. ap (λ (k : ℕ). faults.BareLf k) e) (λ e. ap place_of e)
same_fault (faults.BareLf p) (faults.LiteralTooLarge q y) = inr (λ e. cc)
same_fault (faults.BareLf p) (faults.LineTooLong q) = inr (λ e. cc)
same_fault (faults.BareLf p) faults.Memory = inr (λ e. cc)
same_fault (faults.LiteralTooLarge p x) (faults.BareLf q) = inr (λ e. cc)
same_fault (faults.LiteralTooLarge p x) (faults.LiteralTooLarge q y) = elim (same_number p q) [
  | inr other ↦ inr (λ e. other (ap place_of e))
  | inl same ↦ either (x ≡ y) (same_number x y) (λ e i. faults.LiteralTooLarge (same i) (e i)) (λ e. ap asked_of e)
]
same_fault (faults.LiteralTooLarge p x) (faults.LineTooLong q) = inr (λ e. cc)
same_fault (faults.LiteralTooLarge p x) faults.Memory = inr (λ e. cc)
same_fault (faults.LineTooLong p) (faults.BareLf q) = inr (λ e. cc)
same_fault (faults.LineTooLong p) (faults.LiteralTooLarge q y) = inr (λ e. cc)
same_fault (faults.LineTooLong p) (faults.LineTooLong q) = either (p ≡ q) (same_number p q) (λ e. ap (λ (k : ℕ). faults.LineTooLong k) e) (λ e. ap place_of e)
same_fault (faults.LineTooLong p) faults.Memory = inr (λ e. cc)
same_fault faults.Memory (faults.BareLf q) = inr (λ e. cc)
same_fault faults.Memory (faults.LiteralTooLarge q y) = inr (λ e. cc)
same_fault faults.Memory (faults.LineTooLong q) = inr (λ e. cc)
same_fault faults.Memory faults.Memory = inl refl

-- what follows from something that is known to hold
pub sure_fault : {A : Type 0} (f g : FeedFault) → ∥ A ∥₁ → (A → f ≡ g) → f ≡ g
sure_fault f g h same = elim (same_fault f g) [ inl is ↦ is | inr other ↦ absurd (∥∥₁_elim h (λ x y. absurd x) (λ a. other (same a))) ]

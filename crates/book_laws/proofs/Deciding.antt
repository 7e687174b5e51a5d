-- How tests are put together.
use Rattle.std.proofs.Common.{◌≡◌, ◌≤◌, ℕ, Bool, true, false, leb, not, List, [], ◌∷◌, refl, sym, subst}
use Rattle.std.specs.Prelude.{◌&&◌, ◌||◌, IfOk, Result, Ok, Err}
use Rattle.std.specs.Bool.{Decides}
use Rattle.std.specs.Str.{bytes_eq}
use Rattle.std.specs.Cmp.Lexicographic.{pointwise}
use Rattle.std.proofs.lemmas.Bool.{and_parts, leb-true, le-leb}
use Rattle.std.proofs.lemmas.Slice.Eq.{bytes_eq-Decides, slice_eq-Decides}
use Rattle.book_laws.specs.PlainOnce.{is_none}

pub yes : {P : Type 0} → P → Decides true P
yes p = (λ e. p, λ h. refl)

pub no : {P : Type 0} → ¬ P → Decides false P
no n = (λ e. absurd (cc), λ h. absurd (n h))

and_true : (a b : Bool) → a ≡ true → b ≡ true → (a && b) ≡ true
and_true true b = λ s t. t
and_true false b = λ s t. absurd (cc)

pub both : {P Q : Type 0} → (a b : Bool) → Decides a P → Decides b Q → Decides (a && b) (P × Q)
both a b p q = (λ e. let parts = and_parts a b e in (p.0 parts.0, q.0 parts.1), λ h. and_true a b (p.1 h.0) (q.1 h.1))

or_then : {P Q : Type 0} → (a b : Bool) → Decides a P → Decides b Q → (a || b) ≡ true → ¬ P → Q
or_then true b p q = λ e n. absurd (n (p.0 refl))
or_then false b p q = λ e n. q.0 e

then_or : {P Q : Type 0} → (a b : Bool) → Decides a P → Decides b Q → (¬ P → Q) → (a || b) ≡ true
then_or true b p q f = refl
then_or false b p q f = q.1 (f (λ h. let e : false ≡ true = p.1 h in absurd (cc)))

-- the one, or else the other
pub unless : {P Q : Type 0} → (a b : Bool) → Decides a P → Decides b Q → Decides (a || b) (¬ P → Q)
unless a b p q = (or_then a b p q, then_or a b p q)

implies_to : {P Q : Type 0} → (a b : Bool) → Decides a P → Decides b Q → (not a || b) ≡ true → P → Q
implies_to true b p q = λ e h. q.0 e
implies_to false b p q = λ e h. let t : false ≡ true = p.1 h in absurd (cc)

implies_from : {P Q : Type 0} → (a b : Bool) → Decides a P → Decides b Q → (P → Q) → (not a || b) ≡ true
implies_from true b p q f = q.1 (f (p.0 refl))
implies_from false b p q f = refl

-- the one only with the other
pub implies : {P Q : Type 0} → (a b : Bool) → Decides a P → Decides b Q → Decides (not a || b) (P → Q)
implies a b p q = (implies_to a b p q, implies_from a b p q)

pub at_most : (a b : ℕ) → Decides (leb a b) (a ≤ b)
at_most a b = (leb-true a b, le-leb a b)

pub same_flags : (xs ys : List (List ℕ)) → Decides (pointwise bytes_eq xs ys) (xs ≡ ys)
same_flags xs ys = slice_eq-Decides bytes_eq-Decides xs ys (pointwise bytes_eq xs ys) refl

pub none_is : {A : Type 0} (xs : List A) → Decides (is_none xs) (xs ≡ [])
none_is [] = yes refl
none_is (x ∷ xs) = no (λ e. absurd (cc))

-- a test of what means the same
pub means : {P Q : Type 0} → (a : Bool) → (P → Q) → (Q → P) → Decides a P → Decides a Q
means a f g p = (λ e. f (p.0 e), λ h. p.1 (g h))

-- what a test decides is decided by a result that has its value
pub decides_ok : {E P : Type 0} → (r : Result Bool E) (t : Bool) → IfOk r (λ a. a ≡ t) → Decides t P → IfOk r (λ a. Decides a P)
decides_ok {P = P} (Ok a) t e d = subst (λ (b : Bool). Decides b P) (sym e) d
decides_ok (Err x) t e d = tt

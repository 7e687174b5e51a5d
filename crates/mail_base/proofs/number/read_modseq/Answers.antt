use Rattle.std.proofs.Common.{◌≡◌, ◌<◌, ◌≤◌, ◌⊎◌, ℕ, List, inl, inr, sym, subst, arith, refl}
use Rattle.std.proofs.lemmas.Bool.{cases_lt}
use Rattle.mail_base.specs.Number.{IsNumberUpTo}
use Rattle.mail_base.proofs.Stopping.{exactly_zero, exactly_number, exactly_fault}
use Rattle.mail_base.proofs.number.read_modseq.Goals as goal

above_zero : (n : ℕ) → (n ≡ 0 → ⊥) → 0 < n
above_zero n some = elim (cases_lt 0 n) [ inl lt ↦ lt | inr le ↦ absurd (some (omega arith)) ]

zero_left : (text : List ℕ) (n : ℕ) → IsNumberUpTo 9223372036854775807 text n → (n ≡ 0) ⊎ (9223372036854775808 ≤ n) → IsNumberUpTo 9223372036854775807 text 0
zero_left text n is (inl zero) = subst (IsNumberUpTo 9223372036854775807 text) zero is
zero_left text n is (inr big) = absurd (omega (arith, is.fits, big))

pub returns-in-Some : goal.returns-in-Some
returns-in-Some c =
    let some = c.in-Some.ensures in
    let nonzero = above_zero c.in-Ok.number (λ zero. cc (some.outside.1 (inl zero))) in
    let e = exactly_number 9223372036854775807 c.args.text.now c.in-Some.modseq (omega (arith, some.value, nonzero))
    (subst (IsNumberUpTo 9223372036854775807 c.args.text.now) (sym some.value) c.in-Ok.ensures) in
    record { value = e.value; empty = e.empty; not_digit = e.not_digit; too_big = e.too_big; zero = e.zero }

pub returns-in-None : goal.returns-in-None
returns-in-None c =
    let e = exactly_zero 9223372036854775807 c.args.text.now (zero_left c.args.text.now c.in-Ok.number c.in-Ok.ensures (c.in-None.ensures.outside.0 refl)) in
    record { value = e.value; empty = e.empty; not_digit = e.not_digit; too_big = e.too_big; zero = e.zero }

pub returns-in-Err : goal.returns-in-Err
returns-in-Err c = let e = exactly_fault 9223372036854775807 c.args.text.now c.in-Err.fault c.in-Err.ensures in
    record { value = e.value; empty = e.empty; not_digit = e.not_digit; too_big = e.too_big; zero = e.zero }

-- The text of a set, a range more at a time, and read again.
use Rattle.std.proofs.Common.{◌≡◌, ℕ, ◌+◌, ◌<◌, List, [], ◌∷◌, ◌++◌, length, get_or, take, refl, arith, ap, sym, ◌∙◌, append_assoc, add-one, zero, suc}
use Rattle.std.proofs.Math.Seq.{take-suc}
use Rattle.uid_sets.specs.Spelling.{range_text, set_text}
use Rattle.uid_sets.specs.declared.uid.UidRange.{UidRange}

-- a comma, and a range more
pub set_text-push : (ranges : List UidRange) (range : UidRange) → 0 < length ranges →
    set_text (ranges ++ range ∷ []) ≡ (set_text ranges ++ 44 ∷ []) ++ range_text range
set_text-push [] range some = absurd (omega arith)
set_text-push (first ∷ []) range some = sym (append_assoc (range_text first) (44 ∷ []) (range_text range))
set_text-push (first ∷ next ∷ ranges) range some =
    ap (λ more. range_text first ++ (44 ∷ more)) (set_text-push (next ∷ ranges) range (omega arith))
    ∙ sym (append_assoc (range_text first) (44 ∷ (set_text (next ∷ ranges) ++ 44 ∷ [])) (range_text range))
    ∙ ap (λ more. more ++ range_text range) (sym (append_assoc (range_text first) (44 ∷ set_text (next ∷ ranges)) (44 ∷ [])))

pub take_here : (ranges : List UidRange) (i : ℕ) (other : UidRange) → i < length ranges → take (i + 1) ranges ≡ take i ranges ++ get_or ranges i other ∷ []
take_here ranges i other within = rw (add-one, take-suc ranges i other within) refl

pub set_text-first : (ranges : List UidRange) (i : ℕ) (text : List ℕ) (range : UidRange) → i ≡ 0 → text ≡ set_text (take i ranges) →
    text ++ range_text range ≡ set_text (take i ranges ++ range ∷ [])
set_text-first ranges zero text range first is = rw is refl
set_text-first ranges (suc i) text range first is = absurd (omega arith)

-- Where each action is settled, and its changes fit its outcome, all counts are known.
use Rattle.std.proofs.Common.{◌≡◌, ℕ, zero, suc, ◌+◌, Bool, false, List, [], ◌∷◌, length, Some, refl, sym, ◌∙◌, ap, subst, arith}
use Rattle.std.specs.Prelude.{is_some, slice_get}
use Rattle.std.proofs.lemmas.Bool.{cond-true, cond-false}
use Rattle.action_queue.specs.Queues.{AllSettled}
use Rattle.action_queue.specs.declared.queued.Queued.{Queued}
use Rattle.mail_drill.specs.Counted.{how_many, is_settled, settled_in}

settled_from : (place : ℕ) (queue : List Queued) → AllSettled queue → how_many is_settled place queue ≡ length queue
settled_from place [] s = refl
settled_from place (q ∷ qs) s =
    cond-true (is_some q.outcome) (suc (how_many is_settled (suc place) qs)) (how_many is_settled (suc place) qs) s.0
    ∙ ap suc (settled_from (suc place) qs s.1)

-- all are settled
pub all_settled : (queue : List Queued) → AllSettled queue → settled_in queue ≡ length queue
all_settled queue s = settled_from 0 queue s

one_on : (i place : ℕ) → suc i + place ≡ i + suc place
one_on i place = omega arith

none_on : (place : ℕ) → 0 + place ≡ place
none_on place = omega arith

none_from : (has : ℕ → Queued → Bool) (place : ℕ) (queue : List Queued) →
    ((i : ℕ) (q : Queued) → slice_get queue i ≡ Some q → has (i + place) q ≡ false) → how_many has place queue ≡ 0
none_from has place [] each = refl
none_from has place (q ∷ qs) each =
    cond-false (has place q) (suc (how_many has (suc place) qs)) (how_many has (suc place) qs) (subst (λ (n : ℕ). has n q ≡ false) (none_on place) (each zero q refl))
    ∙ none_from has (suc place) qs (λ i x there. subst (λ (n : ℕ). has n x ≡ false) (one_on i place) (each (suc i) x there))

no_more : (i : ℕ) → i + 0 ≡ i
no_more i = omega arith

-- none is so
pub none_so : (has : ℕ → Queued → Bool) (queue : List Queued) → ((i : ℕ) (q : Queued) → slice_get queue i ≡ Some q → has i q ≡ false) →
    how_many has 0 queue ≡ 0
none_so has queue each = none_from has 0 queue (λ i q there. subst (λ (n : ℕ). has n q ≡ false) (sym (no_more i)) (each i q there))

-- The two ways to say how many deeds an action has.
use Rattle.std.proofs.Common.{◌≡◌, ◌⊎◌, inl, inr, ℕ, zero, suc, ◌<◌, ◌≤◌, false, eqb, List, [], ◌∷◌, length, Option, Some, None, refl, sym}
use Rattle.std.proofs.Common.{◌∙◌, ap, subst, arith}
use Rattle.std.specs.Prelude.{slice_get}
use Rattle.std.proofs.lemmas.Bool.{cond-true, cond-false, eq-eqb, ne_eqb, cases_order}
use Rattle.std.proofs.lemmas.Option.{same_Some}
use Rattle.imap_model.specs.Ours.{is_ours, ours}
use Rattle.imap_model.specs.declared.deed.Deed.{Deed}
use Rattle.imap_model.specs.declared.deed.Author.{Author}
use Rattle.imap_model.specs.declared.deed.Author.TheVariants.{Ours, Other}
use Rattle.action_queue.specs.Queues.{settled_then, due}
use Rattle.book_laws.specs.Sound.{IsSound}
use Rattle.action_queue.specs.declared.intent.Intent.{Intent}
use Rattle.action_queue.specs.declared.outcome.Outcome.{Outcome}
use Rattle.action_queue.specs.declared.queued.Queued.{Queued}
use Rattle.action_queue.specs.Book.{Meaning}
use Rattle.book_laws.specs.Once.{IsOwned, AllOwned, Once}
use Rattle.book_laws.specs.Table.{intent_of, RowFits, OnceByAction}
use Rattle.book_laws.proofs.Carrying.{try_apart}

-- no deed has the tag of an action that isn't there
not_there : (queue : List Queued) (i : ℕ) (d : Deed) (author : Author) → slice_get queue i ≡ None → IsOwned queue d author → is_ours (suc i) author ≡ false
not_there queue i d Other e o = refl
not_there queue i d (Ours tag) e o =
    try_apart (suc i) (suc o.place) tag
    (λ s. let p : i ≡ o.place = omega arith in let h : slice_get queue i ≡ Some o.queued = subst (λ (k : ℕ). slice_get queue k ≡ Some o.queued)
    (sym p) o.there in absurd (cc)) o.tagged

pub none_absent : (queue : List Queued) (i : ℕ) (h : List Deed) → slice_get queue i ≡ None → AllOwned queue h → ours (suc i) h ≡ []
none_absent queue i [] e o = refl
none_absent queue i (d ∷ ds) e o =
    cond-false (is_ours (suc i) d.author) (d ∷ ours (suc i) ds) (ours (suc i) ds) (not_there queue i d d.author e o.0) ∙ none_absent queue i ds e o.1

step_at_most : (o : Option Outcome) (k i : ℕ) → k ≤ i → settled_then o k ≤ suc i
step_at_most None k i l = omega arith
step_at_most (Some o) k i l = omega arith

-- an unsettled action stands at the due place or behind it
pub due_before : (queue : List Queued) (i : ℕ) (q : Queued) → q.outcome ≡ None → slice_get queue i ≡ Some q → due queue ≤ i
due_before [] i q n = λ e. absurd (cc)
due_before (x ∷ xs) zero q n = λ e.
    let o : x.outcome ≡ None = ap (λ (y : Queued). y.outcome) (same_Some x q e) ∙ n in
    let z : due (x ∷ xs) ≡ 0 = ap (λ (p : Option Outcome). settled_then p (due xs)) o in omega arith
due_before (x ∷ xs) (suc i) q n = λ e. step_at_most x.outcome (due xs) i (due_before xs i q n e)

intent_due : (b : Meaning) → intent_of b (due b.queue) ≡ b.pending
intent_due b = cond-true (eqb (due b.queue) (due b.queue)) b.pending None (eq-eqb (due b.queue) (due b.queue) refl)

intent_other : (b : Meaning) (i : ℕ) → (i ≡ due b.queue → ⊥) → intent_of b i ≡ None
intent_other b i n = cond-false (eqb i (due b.queue)) b.pending None (ne_eqb i (due b.queue) n)

at_most_one : (intent : Option Intent) (mine : List Deed) → RowFits intent None mine → length mine ≤ 1
at_most_one None mine r = subst (λ (l : List Deed). length l ≤ 1) (sym r) (omega arith)
at_most_one (Some i) mine r = r

module _ (b : Meaning) (h : List Deed) (sound : IsSound b) (t : OnceByAction b h) where
  open_row : (i : ℕ) (q : Queued) → slice_get b.queue i ≡ Some q → due b.queue ≤ i → RowFits (intent_of b i) None (ours (suc i) h)
  open_row i q e l = subst (λ (o : Option Outcome). RowFits (intent_of b i) o (ours (suc i) h)) (sound.rest i q e l) (t.each i q e)

  once_at : (o : Option Queued) → slice_get b.queue (due b.queue) ≡ o → length (ours (suc (due b.queue)) h) ≤ 1
  once_at None e = subst (λ (l : List Deed). length l ≤ 1) (sym (none_absent b.queue (due b.queue) h e t.owned)) (omega arith)
  once_at (Some q) e = at_most_one (intent_of b (due b.queue)) (ours (suc (due b.queue)) h) (open_row (due b.queue) q e (omega arith))

  idle_at : (o : Option Queued) → slice_get b.queue (due b.queue) ≡ o → b.pending ≡ None → ours (suc (due b.queue)) h ≡ []
  idle_at None e p = none_absent b.queue (due b.queue) h e t.owned
  idle_at (Some q) e p =
      subst (λ (x : Option Intent). RowFits x None (ours (suc (due b.queue)) h)) (intent_due b ∙ p) (open_row (due b.queue) q e (omega arith))

  later_at : (i : ℕ) (o : Option Queued) → slice_get b.queue i ≡ o → due b.queue < i → ours (suc i) h ≡ []
  later_at i None e l = none_absent b.queue i h e t.owned
  later_at i (Some q) e l =
      subst (λ (x : Option Intent). RowFits x None (ours (suc i) h)) (intent_other b i (λ s. absurd (omega arith))) (open_row i q e (omega arith))

  pub from_table : Once b h
  from_table = record {
    owned = t.owned;
    settled = λ i q outcome e o. subst (λ (x : Option Outcome). RowFits (intent_of b i) x (ours (suc i) h)) o (t.each i q e);
    once = once_at (slice_get b.queue (due b.queue)) refl;
    idle = idle_at (slice_get b.queue (due b.queue)) refl;
    later = λ i l. later_at i (slice_get b.queue i) refl l;
  }

module _ (b : Meaning) (h : List Deed) (k : Once b h) where
  due_row : (p : Option Intent) → b.pending ≡ p → RowFits p None (ours (suc (due b.queue)) h)
  due_row None e = k.idle e
  due_row (Some i) e = k.once

  row_of_open : (i : ℕ) → due b.queue ≤ i → (i ≡ due b.queue) ⊎ ((i < due b.queue) ⊎ (due b.queue < i)) → RowFits (intent_of b i) None (ours (suc i) h)
  row_of_open i l (inl e) =
      subst (λ (j : ℕ). RowFits (intent_of b j) None (ours (suc j) h)) (sym e)
      (subst (λ (p : Option Intent). RowFits p None (ours (suc (due b.queue)) h)) (sym (intent_due b)) (due_row b.pending refl))
  row_of_open i l (inr (inl a)) = absurd (omega arith)
  row_of_open i l (inr (inr a)) =
      subst (λ (p : Option Intent). RowFits p None (ours (suc i) h)) (sym (intent_other b i (λ s. absurd (omega arith)))) (k.later i a)

  row_by : (i : ℕ) (q : Queued) (o : Option Outcome) → q.outcome ≡ o → slice_get b.queue i ≡ Some q → RowFits (intent_of b i) o (ours (suc i) h)
  row_by i q (Some o) n e = k.settled i q o e n
  row_by i q None n e = row_of_open i (due_before b.queue i q n e) (cases_order i (due b.queue))

  pub to_table : OnceByAction b h
  to_table = record { owned = k.owned; each = λ i q e. row_by i q q.outcome refl e }

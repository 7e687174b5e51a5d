-- A try that is taken back: when it is, and that this may come next in the book.
use Rattle.action_queue.proofs.Queueing.{due_tried}
use Rattle.action_queue.specs.Book.{Meaning}
use Rattle.action_queue.specs.Queues.{change_first, due_action, tried, tries_due, tries_of}
use Rattle.action_queue.specs.Rules.{is_early_in}
use Rattle.action_queue.specs.declared.outcome.Kind.{Kind}
use Rattle.action_queue.specs.declared.outcome.Outcome.{Outcome}
use Rattle.action_queue.specs.declared.queued.Queued.{Queued}
use Rattle.playback.specs.Needs.{IsLawfulNeed, IsReadyEvent, again, again_as, due_id, end_due, end_of, need_end}
use Rattle.playback.specs.declared.need.Need.{Need}
use Rattle.playback.specs.declared.need.Need.TheVariants as needs
use Rattle.playback.specs.declared.player.Player.{Player}
use Rattle.std.proofs.Common.{List, None, Option, Some, ap, arith, false, not, refl, subst, suc, sym, zero, ℕ, ◌+◌, ◌<◌, ◌≡◌, ◌≤◌, ◌||◌}
use Rattle.std.proofs.lemmas.Bool.{cond_both, eq-eqb, ltb-false, ltb-true}
use Rattle.std.proofs.lemmas.Option.{none-some, same_Some}
use Rattle.std.specs.Prelude.{nat_lt, ◌==◌}
use Rattle.action_queue.specs.declared.event.Event.TheVariants as events
use Rattle.action_queue.specs.declared.outcome.Kind.TheVariants as kinds
use Rattle.action_queue.specs.declared.outcome.Outcome.TheVariants as outcomes

-- another changed the message before the try's STORE, and fewer than two tries were taken back before
pub record IsAgain (tries : ℕ) (outcome : Outcome) (next : ℕ) : Type 0 where
  pub mark : ℕ
  pub is : outcome ≡ outcomes.Conflict (kinds.FlagsChanged mark)
  pub fewer : tries < 2
  pub more : next ≡ tries + 1

changed_again : (tries m next : ℕ) → again_as tries (kinds.FlagsChanged m) ≡ Some next → IsAgain tries (outcomes.Conflict (kinds.FlagsChanged m)) next
changed_again tries m next =
    cond_both (nat_lt tries 2) (Some (tries + 1)) None
    (λ (o : Option ℕ). o ≡ Some next → IsAgain tries (outcomes.Conflict (kinds.FlagsChanged m)) next)
    (λ t e. record { mark = m; is = refl; fewer = ltb-true tries 2 t; more = sym (same_Some (tries + 1) next e) })
    (λ f e. absurd (none-some next e))

kind_again : (tries : ℕ) (kind : Kind) (next : ℕ) → again_as tries kind ≡ Some next → IsAgain tries (outcomes.Conflict kind) next
kind_again tries (kinds.FlagsChanged m) next e = changed_again tries m next e
kind_again tries kind next e = absurd (none-some next e)

pub again_is : (tries : ℕ) (outcome : Outcome) (next : ℕ) → again tries outcome ≡ Some next → IsAgain tries outcome next
again_is tries (outcomes.Done place) next e = absurd (none-some next e)
again_is tries (outcomes.Conflict kind) next e = kind_again tries kind next e

-- where it isn't, a second version lets the action end so
two_are : (tries : ℕ) → tries ≤ 2 → (nat_lt tries 2 ≡ false) → not (tries == 2) ≡ false
two_are tries few f = let more : 2 ≤ tries = ltb-false tries 2 f in ap not (eq-eqb tries 2 (omega (arith, few, more)))

changed_last : (tries m : ℕ) → tries ≤ 2 → again_as tries (kinds.FlagsChanged m) ≡ None → not (tries == 2) ≡ false
changed_last tries m few =
    cond_both (nat_lt tries 2) (Some (tries + 1)) None (λ (o : Option ℕ). o ≡ None → not (tries == 2) ≡ false)
    (λ t e. absurd (none-some (tries + 1) (sym e))) (λ f e. two_are tries few f)

kind_last : (tries : ℕ) (kind : Kind) → tries ≤ 2 → again_as tries kind ≡ None → is_early_in tries (outcomes.Conflict kind) ≡ false
kind_last tries (kinds.FlagsChanged m) few e = changed_last tries m few e
kind_last tries kind few e = refl

pub not_early : (tries : ℕ) (outcome : Outcome) → tries ≤ 2 → again tries outcome ≡ None → is_early_in tries outcome ≡ false
not_early tries (outcomes.Done place) few e = refl
not_early tries (outcomes.Conflict kind) few e = kind_last tries kind few e

-- behind it so many tries were taken back of the action, which is due still
pub tries_tried : (tries : ℕ) (queue : List Queued) (q : Queued) → due_action queue ≡ Some q → tries_due (change_first (tried tries) queue) ≡ tries
tries_tried tries queue q e = ap tries_of (due_tried tries queue q e)

-- the next number is one of them
pub first_or_second : (tries : ℕ) → tries < 2 → not ((tries + 1 == 1) || (tries + 1 == 2)) ≡ false
first_or_second zero less = refl
first_or_second (suc zero) less = refl
first_or_second (suc (suc k)) less = absurd (omega (arith, less))

-- what ended is needed to be recorded, as it may be
pub end_lawful : (p : Player) (b : Meaning) (outcome : Outcome) (o : Option ℕ) → IsReadyEvent b (end_of (due_id b) outcome o) →
    IsLawfulNeed (need_end (due_id b) outcome o) p b
end_lawful p b outcome None ready = ready
end_lawful p b outcome (Some tries) ready = ready

-- where no try is taken back, the action ends
pub ends_plain : (p : Player) (b : Meaning) (outcome : Outcome) → again (tries_due b.queue) outcome ≡ None →
    IsReadyEvent b (events.Settle (due_id b) outcome) → IsLawfulNeed (need_end (due_id b) outcome (again (tries_due b.queue) outcome)) p b
ends_plain p b outcome last ready = subst (λ (o : Option ℕ). IsLawfulNeed (need_end (due_id b) outcome o) p b) (sym last) ready

pub end_plain : (b : Meaning) (outcome : Outcome) → again (tries_due b.queue) outcome ≡ None → IsReadyEvent b (events.Settle (due_id b) outcome) →
    IsReadyEvent b (end_due b outcome)
end_plain b outcome last ready = subst (λ (o : Option ℕ). IsReadyEvent b (end_of (due_id b) outcome o)) (sym last) ready

-- what is so of each need that an end has is so of the one that it has
pub end_any : (P : Need → Type 0) → ((n : ℕ) (outcome : Outcome) → P (needs.Settle n outcome)) → ((n tries : ℕ) → P (needs.Withdraw n tries)) →
    (n : ℕ) (outcome : Outcome) (o : Option ℕ) → P (need_end n outcome o)
end_any P settles withdraws n outcome None = settles n outcome
end_any P settles withdraws n outcome (Some tries) = withdraws n tries

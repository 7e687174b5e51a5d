-- What the target of the action that is due resolves to.
use Rattle.std.proofs.Common.{◌≡◌, inl, inr, ℕ, ◌-◌, ◌<◌, ◌≤◌, Bool, false, List, Option, Some, None, refl, subst, arith}
use Rattle.action_queue.specs.Queues.{due, due_action}
use Rattle.action_queue.specs.Rules.{is_unknown, is_unknown_target, is_unknown_action}
use Rattle.action_queue.specs.Targets.{resolved}
use Rattle.action_queue.specs.Book.{Meaning}
use Rattle.action_queue.specs.declared.target.Target.{Target}
use Rattle.action_queue.specs.declared.target.Target.TheVariants as targets
use Rattle.action_queue.specs.declared.action.Action.{Action}
use Rattle.action_queue.specs.declared.action.Action.TheVariants as actions
use Rattle.action_queue.specs.declared.outcome.Outcome.{Outcome}
use Rattle.action_queue.specs.declared.outcome.Outcome.TheVariants as outcomes
use Rattle.action_queue.specs.declared.queued.Queued.{Queued}
use Rattle.dummy_ids.specs.Makers.{HasPlace, IsMaker}
use Rattle.dummy_ids.proofs.Fates.{landed_there, never_comes}
use Rattle.book_laws.specs.Sound.{IsRealOrEarlier, IsTargetGood, IsSound}
use Rattle.book_laws.specs.Resolved.{Resolves}
use Rattle.book_laws.proofs.Counting.{due_before}
use Rattle.book_laws.proofs.Making.{or_both, to_known}

module _ (b : Meaning) (sound : IsSound b) where
  -- the dummy of a maker that has ended
  dummy_resolves : (n : ℕ) (m : IsMaker b.queue n) (o : Option Outcome) → m.queued.outcome ≡ o → HasPlace o → (o ≡ None → ⊥) →
      Resolves b (targets.Dummy n)
  dummy_resolves n m None is placed ended = absurd (ended refl)
  dummy_resolves n m (Some (outcomes.Conflict kind)) is placed ended =
      inr (record {
        by = n;
        is = (never_comes b.queue (targets.Dummy n) (resolved b.queue (targets.Dummy n)) n refl refl m n).1
            (refl, record { queued = m.queued; is = m.is; kind = kind; conflict = is });
      })
  dummy_resolves n m (Some (outcomes.Done None)) is placed ended = absurd placed
  dummy_resolves n m (Some (outcomes.Done (Some place))) is placed ended =
      inl (record {
        name = m.to;
        validity = place.validity;
        uid = place.uid;
        is = (landed_there b.queue (targets.Dummy n) (resolved b.queue (targets.Dummy n)) n refl refl m m.to place.validity place.uid).1
            (record { queued = m.queued; is = m.is; into = m.into; place = place; under = refl; at = refl; done = is });
        known = to_known b.boxes m.queued.action m.to m.into (sound.boxes (n - 1) m.queued m.is);
      })

  -- each action in front of the one that is due has ended
  target_resolves : (target : Target) → is_unknown_target b.boxes target ≡ false → IsRealOrEarlier b.queue (due b.queue) target →
      Resolves b target
  target_resolves (targets.Real name validity uid) known good =
      inl (record { name = name; validity = validity; uid = uid; is = refl; known = known })
  target_resolves (targets.Dummy n) known good =
      let m : IsMaker b.queue n = good.maker in
      let front : n - 1 < due b.queue = good.earlier in
      dummy_resolves n m m.queued.outcome refl m.place
      (λ e. let behind : due b.queue ≤ n - 1 = due_before b.queue (n - 1) m.queued e m.is in absurd (omega arith))

  module _ (q : Queued) (there : due_action b.queue ≡ Some q) (target : Target) where
    pub of_flag : (add : Bool) (flags : List (List ℕ)) → q.action ≡ actions.Flag target add flags → Resolves b target
    of_flag add flags is =
        target_resolves target (subst (λ (a : Action). is_unknown_action b.boxes a ≡ false) is (sound.boxes (due b.queue) q there))
        (subst (λ (a : Action). IsTargetGood b.queue (due b.queue) a) is (sound.targets (due b.queue) q there))

    pub of_move : (to : List ℕ) → q.action ≡ actions.Move target to → Resolves b target
    of_move to is =
        target_resolves target
        (or_both (is_unknown_target b.boxes target) (is_unknown b.boxes to)
        (subst (λ (a : Action). is_unknown_action b.boxes a ≡ false) is (sound.boxes (due b.queue) q there))).0
        (subst (λ (a : Action). IsTargetGood b.queue (due b.queue) a) is (sound.targets (due b.queue) q there))

use Rattle.std.proofs.Common.{rules, ◌≡◌, ◌∙◌, ap, subst, sym, Err}
use Rattle.journal_core.specs.Standing.{Standing}
use Rattle.action_queue.specs.Book.{meaning, after}
use Rattle.action_queue.specs.Restating.{IsWellBook}
use Rattle.store_core.proofs.Folds.{well_recorded, well_still}
use Rattle.store_core.proofs.Unless.{append_failed}
use Rattle.store_core.specs.Mail.{mail, rules_of}
use Rattle.store_core.specs.Holding.{Holding}
use Rattle.store_core.proofs.Phases.{took, left_after}
use Rattle.store_core.proofs.Moments.{records_none, records_event}
use Rattle.store_core.proofs.store.Store.commit.Goals as goal

pub returns-in-Ok-clause-done : goal.returns-in-Ok-clause-done
returns-in-Ok-clause-done g c tells =
    let becomes : meaning c.enter.new.self ≡ after c.args.self.now.book c.args.event = search rules in
    left_after mail c.args.self.now c.args.event c.requires.lawful _ c.in_ok-frame.ensures.spelled c.in_ok-frame.ensures.body _ _ _ _
    (c.requires.still tells) _ c.self.view_is
    _ _ (c.deref.ensures.value ∙ c.in_ok-frame.ensures.frame) _ (c.append.ensures.told tells) _ c.in-Ok.is
    (ap (λ (j : Standing). j.version) c.in-Ok.ensures.done ∙ ap (λ (s : Holding mail). s.journal.version) c.self.view_is)
    (ap (λ (j : Standing). j.all_read) c.in-Ok.ensures.done ∙ c.self.invariant.0) _ becomes

pub returns-in_err-room_for-clause-moments : goal.returns-in_err-room_for-clause-moments
returns-in_err-room_for-clause-moments g c tells = records_none c.args.self.now c.args.event _ _ (c.requires.still tells)

pub returns-in_err-frame-clause-moments : goal.returns-in_err-frame-clause-moments
returns-in_err-frame-clause-moments g c tells = records_none c.args.self.now c.args.event _ _ (c.requires.still tells)

pub returns-in_err-ready-clause-moments : goal.returns-in_err-ready-clause-moments
returns-in_err-ready-clause-moments g c tells = records_none c.args.self.now c.args.event _ _ (c.requires.still tells)

pub returns-clause-moments : goal.returns-clause-moments
returns-clause-moments g c tells =
    records_event c.args.self.now c.args.event _ _ (c.requires.still tells) c.requires.lawful c.self.inside.journal.side _
    (took mail c.args.self.now c.args.event c.requires.lawful _ c.in_ok-frame.ensures.spelled c.in_ok-frame.ensures.body _ _ _ _
    (c.requires.still tells) _ c.self.view_is
    _ _ (c.deref.ensures.value ∙ c.in_ok-frame.ensures.frame) _ (c.append.ensures.told tells))
    (c.append.ensures.aside tells)

pub returns-in-Ok-clause-moments : goal.returns-in-Ok-clause-moments
returns-in-Ok-clause-moments g c tells =
    records_event c.args.self.now c.args.event _ _ (c.requires.still tells) c.requires.lawful c.self.inside.journal.side _
    (took mail c.args.self.now c.args.event c.requires.lawful _ c.in_ok-frame.ensures.spelled c.in_ok-frame.ensures.body _ _ _ _
    (c.requires.still tells) _ c.self.view_is
    _ _ (c.deref.ensures.value ∙ c.in_ok-frame.ensures.frame) _ (c.append.ensures.told tells))
    (c.append.ensures.aside tells)

-- what the store keeps, where the event wasn't made ready, wasn't written, and was
pub invariant_of-self : goal.invariant_of-self
invariant_of-self g c = (
  c.self.invariant.0,
  subst (IsWellBook (rules_of c.self.inside.journal.version)) (sym c.prepare.ensures.same) c.self.invariant.1,
)

pub invariant_of-self-in-Err : goal.invariant_of-self-in-Err
invariant_of-self-in-Err g c =
    let same = append_failed c.in-Err.fault _ _ (λ is. c.in-Err.ensures.broken (ap Err is))
    (λ end wanted is. (c.in-Err.ensures.kept end wanted (ap Err is)).0) in (
      same.1 ∙ c.self.invariant.0,
      well_still _ _ _ same.0
          (subst (IsWellBook (rules_of c.self.inside.journal.version)) (sym c.in_ok-ready.ensures.same) c.self.invariant.1),
    )

pub invariant_of-self-in-Ok : goal.invariant_of-self-in-Ok
invariant_of-self-in-Ok g c =
    let becomes : meaning c.enter.new.self ≡ after c.args.self.now.book c.args.event = search rules in (
      ap (λ (j : Standing). j.all_read) c.in-Ok.ensures.done ∙ c.self.invariant.0,
      well_recorded _ c.args.self.now c.self.view_is c.args.event c.requires.lawful c.requires.writable c.self.invariant.1 _
          (ap (λ (j : Standing). j.version) c.in-Ok.ensures.done) _ becomes,
    )

use Rattle.std.proofs.Common.{rules, ◌≡◌, ◌∙◌, ap, Err}
use Rattle.journal_core.specs.Standing.{Standing}
use Rattle.action_queue.specs.Book.{meaning, after}
use Rattle.action_queue.specs.declared.event.Event.TheVariants as events
use Rattle.store_core.proofs.Folds.{well_recorded, well_still}
use Rattle.store_core.proofs.Unless.{append_failed}
use Rattle.store_core.specs.Mail.{mail}
use Rattle.store_core.specs.Holding.{Holding}
use Rattle.store_core.proofs.Phases.{took, left_after}
use Rattle.store_core.proofs.Moments.{records_event}
use Rattle.store_core.proofs.store.Store.settle.Goals as goal

pub returns-clause-done : goal.returns-clause-done
returns-clause-done g c tells =
    let becomes : meaning c.settle.new.self ≡ after c.args.self.now.book (events.Settle c.args.id c.args.outcome) = search rules in
    left_after mail c.args.self.now (events.Settle c.args.id c.args.outcome) c.requires.lawful _ c.encode_outcome-frame.ensures.spelled
    c.encode_outcome-frame.ensures.body _ _ _ _ (c.requires.still tells) _ c.self.view_is
    _ _ (c.deref.ensures.0 ∙ c.encode_outcome-frame.ensures.frame) _ (c.append.ensures.told tells) _ c.in_ok-append.was
    (ap (λ (j : Standing). j.version) c.in_ok-append.ensures.done ∙ ap (λ (s : Holding mail). s.journal.version) c.self.view_is)
    (ap (λ (j : Standing). j.all_read) c.in_ok-append.ensures.done ∙ c.self.invariant.0) _ becomes

pub returns-in_err-append-clause-moments : goal.returns-in_err-append-clause-moments
returns-in_err-append-clause-moments g c tells =
    records_event c.args.self.now (events.Settle c.args.id c.args.outcome) _ _ (c.requires.still tells) c.requires.lawful c.self.inside.journal.side _
    (took mail c.args.self.now (events.Settle c.args.id c.args.outcome) c.requires.lawful _ c.encode_outcome-frame.ensures.spelled
    c.encode_outcome-frame.ensures.body _ _ _ _ (c.requires.still tells) _ c.self.view_is
    _ _ (c.deref.ensures.0 ∙ c.encode_outcome-frame.ensures.frame) _ (c.append.ensures.told tells))
    (c.append.ensures.aside tells)

pub returns-clause-moments : goal.returns-clause-moments
returns-clause-moments g c tells =
    records_event c.args.self.now (events.Settle c.args.id c.args.outcome) _ _ (c.requires.still tells) c.requires.lawful c.self.inside.journal.side _
    (took mail c.args.self.now (events.Settle c.args.id c.args.outcome) c.requires.lawful _ c.encode_outcome-frame.ensures.spelled
    c.encode_outcome-frame.ensures.body _ _ _ _ (c.requires.still tells) _ c.self.view_is
    _ _ (c.deref.ensures.0 ∙ c.encode_outcome-frame.ensures.frame) _ (c.append.ensures.told tells))
    (c.append.ensures.aside tells)

-- what the store keeps, where the outcome wasn't written, and where it was
pub invariant_of-self : goal.invariant_of-self
invariant_of-self g c =
    let same = append_failed c.in_err-append.field-0.0 _ _ (λ is. c.in_err-append.ensures.broken (ap Err is))
    (λ end wanted is. (c.in_err-append.ensures.kept end wanted (ap Err is)).0) in (
      same.1 ∙ c.self.invariant.0,
      well_still _ _ _ same.0 c.self.invariant.1,
    )

pub invariant_of-self-2 : goal.invariant_of-self-2
invariant_of-self-2 g c =
    let becomes : meaning c.settle.new.self ≡ after c.args.self.now.book (events.Settle c.args.id c.args.outcome) = search rules in (
      ap (λ (j : Standing). j.all_read) c.in_ok-append.ensures.done ∙ c.self.invariant.0,
      well_recorded _ c.args.self.now c.self.view_is (events.Settle c.args.id c.args.outcome) c.requires.lawful tt c.self.invariant.1 _
          (ap (λ (j : Standing). j.version) c.in_ok-append.ensures.done) _ becomes,
    )

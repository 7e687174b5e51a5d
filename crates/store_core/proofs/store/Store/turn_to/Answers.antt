use Rattle.std.proofs.Common.{◌∙◌, ap, rules, Err}
use Rattle.journal_core.specs.Standing.{Standing}
use Rattle.action_queue.specs.Telling.{pieces}
use Rattle.store_core.specs.Mail.{mail}
use Rattle.store_core.specs.Holding.{Holding}
use Rattle.store_core.proofs.Anew.{book_stays, fails_for_disk, left_told, makes_now, stays_held, stays_steps, turned_on, well_second}
use Rattle.store_core.proofs.Folds.{well_still}
use Rattle.journal_core.specs.Sides.{version_written}
use Rattle.store_core.proofs.Moments.{tells_anew}
use Rattle.store_core.proofs.Restated.{restated_first, restated_some}
use Rattle.store_core.proofs.Unless.{turn_failed, turn_stopped}
use Rattle.store_core.proofs.store.Store.turn_to.Goals as goal

pub turn-requires : goal.turn-requires
turn-requires g c = record {
  all_read = c.self.invariant.0;
  sound = search rules;
  some = restated_first c.args.self.now.book c.args.bodies.now c.requires.tells;
  sizes = restated_some (pieces c.args.self.now.book) c.args.bodies.now c.requires.tells;
  later = search rules;
}

pub returns-in_err-turn-clause-moments : goal.returns-in_err-turn-clause-moments
returns-in_err-turn-clause-moments g c tells =
    let still = c.requires.still tells in
    let make = makes_now _ c.args.self.now c.self.view_is (well_second c.self.inside.journal.version _ c.self.invariant.1) c.args.bodies.now c.requires.tells in
    tells_anew c.args.self.now.book c.self.inside.journal.side _ _ _ still.still.rests
    (stays_steps mail c.args.self.now c.args.bodies.now make _ _ _ _ still _ c.self.view_is _ _ (c.turn.ensures.told tells))
    (stays_held c.args.self.now.book _ _
    (book_stays mail c.args.self.now c.args.bodies.now make _ _ _ _ still _ c.self.view_is _ _ (c.turn.ensures.told tells)))
    (c.turn.ensures.beside tells) (c.turn.ensures.each_one_side tells)

pub returns-in_err-turn-clause-only : goal.returns-in_err-turn-clause-only
returns-in_err-turn-clause-only g c fault is =
    fails_for_disk c.args.self.now.book c.args.bodies.now c.in_err-turn.field-0.0 fault c.requires.tells c.requires.fits
    (λ end wanted full. (c.in_err-turn.ensures.full end wanted (ap Err full)).0) (search rules)

pub returns-in_err-turn-clause-stopped : goal.returns-in_err-turn-clause-stopped
returns-in_err-turn-clause-stopped g c failed =
    turn_stopped c.in_err-turn.field-0.0 _ (λ is. ap (λ (j : Standing). j.failed) (c.in_err-turn.ensures.broken (ap Err is))) (search rules)

pub returns-clause-moments : goal.returns-clause-moments
returns-clause-moments g c tells =
    let still = c.requires.still tells in
    let make = makes_now _ c.args.self.now c.self.view_is (well_second c.self.inside.journal.version _ c.self.invariant.1) c.args.bodies.now c.requires.tells in
    tells_anew c.args.self.now.book c.self.inside.journal.side _ _ _ still.still.rests
    (stays_steps mail c.args.self.now c.args.bodies.now make _ _ _ _ still _ c.self.view_is _ _ (c.turn.ensures.told tells))
    (stays_held c.args.self.now.book _ _
    (book_stays mail c.args.self.now c.args.bodies.now make _ _ _ _ still _ c.self.view_is _ _ (c.turn.ensures.told tells)))
    (c.turn.ensures.beside tells) (c.turn.ensures.each_one_side tells)

pub returns-clause-done : goal.returns-clause-done
returns-clause-done g c tells =
    let make = makes_now _ c.args.self.now c.self.view_is (well_second c.self.inside.journal.version _ c.self.invariant.1) c.args.bodies.now c.requires.tells in
    left_told mail c.args.self.now c.args.bodies.now make _ _ _ _ (c.requires.still tells) _ c.self.view_is _ _ (c.turn.ensures.told tells) _ c.in_ok-turn.was
    _ (ap (λ (s : Holding mail). s.book) c.self.view_is)
    (ap (λ (j : Standing). j.version) c.in_ok-turn.ensures.done) (ap (λ (j : Standing). j.all_read) c.in_ok-turn.ensures.done)

pub returns-clause-moved : goal.returns-clause-moved
returns-clause-moved g c =
    c.in_ok-turn.ensures.done ∙ turned_on c.args.self.now.book c.args.bodies.now _ _ (ap (λ (s : Holding mail). s.journal) c.self.view_is) c.requires.tells

-- what the store keeps, where the book wasn't told anew, and where it was
pub invariant_of-self : goal.invariant_of-self
invariant_of-self g c =
    let same = turn_failed c.in_err-turn.field-0.0 _ _ (λ is. c.in_err-turn.ensures.broken (ap Err is))
    (λ end wanted is. (c.in_err-turn.ensures.kept end wanted (ap Err is)).0) in (
      same.1 ∙ c.self.invariant.0,
      well_still _ _ _ same.0 c.self.invariant.1,
    )

pub invariant_of-self-2 : goal.invariant_of-self-2
invariant_of-self-2 g c = (
  ap (λ (j : Standing). j.all_read) c.in_ok-turn.ensures.done,
  well_still version_written _ _ (ap (λ (j : Standing). j.version) c.in_ok-turn.ensures.done)
      (well_second c.self.inside.journal.version _ c.self.invariant.1),
)

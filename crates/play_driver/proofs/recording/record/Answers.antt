use Rattle.std.proofs.Common.{rules, ap, refl, subst, ◌<◌, ◌≡◌, ◌∙◌}
use Rattle.action_queue.specs.Book.{Meaning, after}
use Rattle.playback.specs.Choosing.{IsEntered, committed}
use Rattle.playback.specs.Left.{left}
use Rattle.store_core.specs.Holding.{Holding}
use Rattle.store_core.specs.Mail.{mail}
use Rattle.store_core.specs.declared.fault.CommitFault.TheVariants as commits
use Rattle.play_driver.proofs.Faulting.{raised_as, same_err}
use Rattle.play_driver.proofs.Folds.{fold_sound}
use Rattle.play_driver.proofs.Reasons.{may_come, never_old, ready}
use Rattle.play_driver.proofs.RecordedTurn.{enters_needed, stops_needed}
use Rattle.play_driver.specs.Faults.{of_commit}
use Rattle.play_driver.proofs.recording.record.Goals as goal

pub enter_event-requires-clause-lawful : goal.enter_event-requires-clause-lawful
enter_event-requires-clause-lawful g c =
    let s = c.args.store.now in
    may_come s.journal.version c.requires.ready.written c.args.player.now s.book c.args.event c.requires.ready.fold c.requires.ready.rests.beside c.requires.needed

pub enter_event-requires-clause-writable : goal.enter_event-requires-clause-writable
enter_event-requires-clause-writable g c =
    (ready c.args.player.now c.args.store.now.book c.args.event c.requires.ready.fold c.requires.ready.rests.beside c.requires.needed).writable

pub enter_event-requires-clause-fresh : goal.enter_event-requires-clause-fresh
enter_event-requires-clause-fresh g c =
    never_old c.args.player.now c.args.store.now.book c.args.event c.requires.needed

-- it isn't recorded
pub returns-in_err-enter_event : goal.returns-in_err-enter_event
returns-in_err-enter_event g c =
    let f = c.in_err-enter_event.field-0.0 in
    stops_needed g.W.Clocked g.W.Disk.seen c.args.world.now c.enter_event.new.disk c.args.session c.args.player.now c.args.player.now c.args.store.now
    c.enter_event.new.store c.args.event c.requires.ready c.requires.resting c.requires.needed c.enter_event.ensures.takes c.enter_event.ensures.accuses.link
    c.enter_event.ensures.each_one_side c.from_residual.result (of_commit f) (raised_as c.from_residual.result (of_commit f) c.from_residual.ensures.1)
    (c.enter_event.ensures.why f c.in_err-enter_event.was) (λ none. refl) (c.enter_event.ensures.stays (search rules))
    (λ no. c.enter_event.ensures.kept (search rules)
    (λ is. no (ap of_commit (same_err c.enter_event.result f commits.Disk c.in_err-enter_event.was is)))) (search rules)

-- it is recorded
pub returns : goal.returns
returns g c =
    let p = c.args.player.now in
    let b = c.args.store.now.book in
    let t = c.enter_event.new.store in
    let is : t.book ≡ after b c.args.event = ap (λ (u : Holding mail). u.book) c.in_ok-enter_event.ensures.value in
    enters_needed g.W.Clocked g.W.Disk.seen c.args.world.now c.enter_event.new.disk c.args.session p c.committed.new.self c.args.store.now t c.args.event
    c.requires.ready c.requires.resting c.requires.needed c.enter_event.ensures.takes c.enter_event.ensures.accuses.link
    c.enter_event.ensures.each_one_side c.in_ok-enter_event.ensures.value (c.committed.ensures.value ∙ ap (committed p) c.book.ensures)
    c.in_ok-enter_event.ensures.left (search rules) (search rules) (search rules)
    (λ entry entered. subst (λ (x : Meaning). IsEntered entry c.committed.new.self x) c.book.ensures
    (c.committed.ensures.entered entry b c.args.event (c.book.ensures ∙ is) c.requires.needed (fold_sound b c.requires.ready.fold) entered))
    (subst (λ (x : Meaning). left c.committed.new.self x < left p b) c.book.ensures
    (c.committed.ensures.falls b c.args.event (c.book.ensures ∙ is) c.requires.needed (fold_sound b c.requires.ready.fold) c.requires.ready.rests.beside))

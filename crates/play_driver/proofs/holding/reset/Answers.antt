use Rattle.std.proofs.Common.{Err, Ok, Some, ap, refl, rules, subst, sym, ◌≡◌, ◌∙◌}
use Rattle.action_queue.specs.Book.{Meaning, after}
use Rattle.store_core.specs.Holding.{Holding}
use Rattle.store_core.specs.Mail.{mail}
use Rattle.store_core.specs.declared.fault.CommitFault.TheVariants as commits
use Rattle.play_driver.proofs.Faulting.{same_err}
use Rattle.play_driver.proofs.GatheredTaken.{selects_none}
use Rattle.play_driver.proofs.HeldTurn.{resets_turn}
use Rattle.play_driver.proofs.Reasons.{may_come_ready, play_new}
use Rattle.play_driver.proofs.RecordedTurn.{enters_turn, stops_turn}
use Rattle.play_driver.proofs.ResetHeld.{fits_behind, left_behind, stays_beside, stays_entered}
use Rattle.play_driver.proofs.ResetTurn.{goes_reset, of_reset, reset_comes, reset_plays, truly_reset}
use Rattle.play_driver.proofs.SyncedOn.{synced_reset}
use Rattle.play_driver.specs.Faults.{of_commit}
use Rattle.play_driver.specs.KnownAt.{KnownAt}
use Rattle.play_driver.specs.Recording.{NotRecorded}
use Rattle.play_driver.specs.Settled.{IsSyncedSoFar}
use Rattle.play_driver.specs.Turning.TurnFails.{not_reset}
use Rattle.play_driver.specs.declared.session.Session.TheVariants as sessions
use Rattle.play_driver.proofs.holding.reset.Goals as goal

pub enter_event-requires-clause-lawful : goal.enter_event-requires-clause-lawful
enter_event-requires-clause-lawful g c =
    let s = c.args.store.now in
    may_come_ready s.journal.version c.requires.ready.written s.book c.args.event (reset_comes c.args.held s.book c.args.event c.requires.due)

pub enter_event-requires-clause-writable : goal.enter_event-requires-clause-writable
enter_event-requires-clause-writable g c = (reset_comes c.args.held c.args.store.now.book c.args.event c.requires.due).writable

pub enter_event-requires-clause-fresh : goal.enter_event-requires-clause-fresh
enter_event-requires-clause-fresh g c = play_new c.args.event (reset_plays c.args.held c.args.store.now.book c.args.event c.requires.due)

-- it isn't recorded
pub returns-in-Err : goal.returns-in-Err
returns-in-Err g c =
    let h = c.args.held in
    let s = c.args.store.now in
    let event = c.args.event in
    let f = c.in-Err.fault in
    let why = subst (NotRecorded event s) (sym c.from.ensures) (c.enter_event.ensures.why f c.in-Err.is) in
    stops_turn g.W.Clocked g.W.Disk.seen c.args.world.now c.enter_event.new.disk (sessions.Held h) c.args.player.now c.args.player.now s
    c.enter_event.new.store event c.requires.ready (reset_plays h s.book event c.requires.due) c.enter_event.ensures.takes
    c.enter_event.ensures.accuses.link
    (λ t made entry kept known entered. truly_reset g.W.Clocked c.args.world.now c.enter_event.new.disk h c.args.player.now s event _
    c.requires.ready c.requires.due c.enter_event.ensures.takes t made entry kept known)
    (Err c.from.result) c.from.result refl (record {
      goes_on = goes_reset g.W.Clocked c.args.world.now c.enter_event.new.disk h c.args.player.now s event _
          c.requires.ready c.requires.due c.enter_event.ensures.takes c.enter_event.new.store.book (Err c.from.result)
          (λ t made stands known later. tt) c.enter_event.ensures.each_one_side c.enter_event.ensures.accuses.link;
      why = why;
      fails = not_reset h event refl c.requires.ready.rests.held.needed c.requires.due c.enter_event.ensures.accuses.link why;
      same = λ none. refl;
      stays = c.enter_event.ensures.stays (search rules);
      kept = λ no. c.enter_event.ensures.kept (search rules)
          (λ is. no (c.from.ensures ∙ ap of_commit (same_err c.enter_event.result f commits.Disk c.in-Err.is is)));
      accuses = search rules;
    })

-- it is recorded
pub returns-in-Ok : goal.returns-in-Ok
returns-in-Ok g c =
    let h = c.args.held in
    let p = c.args.player.now in
    let s = c.args.store.now in
    let event = c.args.event in
    let later = c.enter_event.new.store.book in
    let needed = c.requires.ready.rests.held.needed in
    let is : later ≡ after s.book event = ap (λ (t : Holding mail). t.book) c.in-Ok.ensures.value in
    enters_turn g.W.Clocked g.W.Disk.seen c.args.world.now c.enter_event.new.disk (sessions.Held h) p p s
    c.enter_event.new.store event c.requires.ready (reset_plays h s.book event c.requires.due) c.enter_event.ensures.takes
    c.enter_event.ensures.accuses.link
    (λ t made entry kept known entered. truly_reset g.W.Clocked c.args.world.now c.enter_event.new.disk h p s event _
    c.requires.ready c.requires.due c.enter_event.ensures.takes t made entry kept known)
    (record {
      comes = reset_comes h s.book event c.requires.due;
      is = c.in-Ok.ensures.value;
      left = c.in-Ok.ensures.left;
      sound_still = search rules;
      goes_on = goes_reset g.W.Clocked c.args.world.now c.enter_event.new.disk h p s event _
          c.requires.ready c.requires.due c.enter_event.ensures.takes later (Ok (sessions.Held h))
          (λ t made stands known known_later.
          subst (λ (b : Meaning). KnownAt made (g.W.Clocked.clock c.enter_event.new.disk) h.chosen.permits (Some h) p b) (sym is) known_later)
          c.enter_event.ensures.each_one_side c.enter_event.ensures.accuses.link;
      synced = λ t made start first kept known fair so_far.
          let old = g.W.Clocked.clock c.args.world.now in
          let new = g.W.Clocked.clock c.enter_event.new.disk in
          let of = of_reset h s.book event c.requires.due in
          subst (λ (b : Meaning). IsSyncedSoFar start new (Some h) p b) (sym is)
          (synced_reset start old new p s.book h of.cache.validity event of.is (selects_none p s.book h.chosen.name needed)
          (c.enter_event.ensures.takes (g.W.Clocked.server_with_files t)) so_far);
      turns = resets_turn (g.W.Clocked.link c.args.world.now) (g.W.Clocked.link c.enter_event.new.disk) h s c.enter_event.new.store p
          needed event c.requires.due c.enter_event.ensures.accuses.link c.in-Ok.ensures.value;
      entered = λ entry entered. stays_entered h p s.book event needed c.requires.due later is entry entered;
      falls = left_behind h p s.book event needed c.requires.due later is;
      accuses = search rules;
      beside = stays_beside h p s.book event needed c.requires.due later is c.requires.ready.rests.beside;
      selected = λ none. refl;
      held = fits_behind h p s.book event needed c.requires.due later is c.requires.ready.rests.held;
    })

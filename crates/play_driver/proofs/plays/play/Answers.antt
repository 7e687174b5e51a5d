use Rattle.play_driver.proofs.CompleteRun.{comes_session, comes_turn, leaving_lacks, unrefused_leave, unrefused_turn}
use Rattle.play_driver.proofs.EntersServed.{enters_talking}
use Rattle.play_driver.proofs.GroundChains.{grounds_then, leave_grounded}
use Rattle.play_driver.proofs.Links.{left_there}
use Rattle.play_driver.proofs.SentRuns.{left_once, stayed_once, stopped_once}
use Rattle.play_driver.proofs.Surely.{run_surely}
use Rattle.play_driver.proofs.Faulting.{ok_no_err, told_as}
use Rattle.play_driver.proofs.OverOne.{enters_run, goes_behind, leave_run, once_then, talks_run}
use Rattle.play_driver.proofs.Progressing.{firm_left, linked_progress, linked_sides, progress_grows, rests_left, sides_then}
use Rattle.play_driver.proofs.WholeRun.{HasBegun, all_synced, fair_run, has_begun, has_room, leaves_asking, leaves_grow, leaves_unread, plays_so, progress_three}
use Rattle.play_driver.proofs.WholeRun.{bad_at, begins_so, faultless_two, progress_two, questions_stay}
use Rattle.play_driver.proofs.WholeRun.{run_grows, run_three, run_two, stays_on_line, stops_early, stopped_two, synced_two, true_one, true_three}
use Rattle.play_driver.proofs.WholeRun.{true_two}
use Rattle.play_driver.specs.Faults.{of_session}
use Rattle.play_driver.specs.Playing.EndsEarly.{not_entered}
use Rattle.play_driver.specs.Progress.{box_names}
use Rattle.play_driver.specs.Questioning.{RunStep, TalkStep}
use Rattle.play_driver.specs.Sessions.{held_in}
use Rattle.play_driver.specs.Settled.{IsSyncedSoFar}
use Rattle.play_driver.specs.Turning.{standing_of}
use Rattle.play_driver.specs.declared.session.Held.{Held}
use Rattle.std.proofs.Common.{Err, Option, ap, refl, subst, ◌≡◌, ◌∙◌}
use Rattle.imap_session.specs.declared.fault.SessionFault.{SessionFault}
use Rattle.play_driver.specs.declared.fault.PlayFault.TheVariants as faults
use Rattle.store_core.specs.Mail.{mail}
use Rattle.world_traits.specs.Links.{AnyStep}
use Rattle.std.proofs.Common.{rules}
use Rattle.play_driver.proofs.plays.play.Goals as goal

-- it didn't enter
pub returns-in_err-ready-clause-goes_on : goal.returns-in_err-ready-clause-goes_on
returns-in_err-ready-clause-goes_on g c = record {
  progress = λ t. linked_progress c.args.store.now.book AnyStep _ _
      (firm_left c.args.store.now (g.W.Clocked.clock c.args.world.now) _ (c.requires.left t)) (c.enter.ensures.enters.files t);
  joined = λ t kept.
      let f = g.W.Clocked.server_with_files t in
      questions_stay c.args.store.now.book _ _ (firm_left c.args.store.now (g.W.Clocked.clock c.args.world.now) _ (c.requires.left f))
      (c.enter.ensures.enters.told t) kept;
  each_one_side = λ t.
      linked_sides AnyStep _ _ (rests_left c.args.store.now (g.W.Clocked.clock c.args.world.now) _ (c.requires.left t)) (c.enter.ensures.enters.files t);
  once = λ t. enters_run _ _ (c.enter.ensures.enters.once t);
  one = c.enter.ensures.enters.one;
  sends = λ t. c.enter.ensures.enters.sends t c.in_err-ready.field-0.0 c.in_err-ready.was;
}

pub returns-in_err-ready-clause-reasons : goal.returns-in_err-ready-clause-reasons
returns-in_err-ready-clause-reasons g c = record {
  truly = λ t kept fair no_disk.
      let f = g.W.Clocked.server_with_files t in
      true_one c.args.store.now.book _ _ (firm_left c.args.store.now (g.W.Clocked.clock c.args.world.now) _ (c.requires.left f))
      (c.enter.ensures.enters.once t);
  stopped = search rules;
  stopped_truly = search rules;
}

pub returns-in_err-ready-clause-surely : goal.returns-in_err-ready-clause-surely
returns-in_err-ready-clause-surely g c = λ t kept fair.
    let reasons = returns-in_err-ready-clause-reasons g c in
    run_surely _ _ _ _ _ (λ is. reasons.stopped_truly t is kept fair) (λ other. reasons.truly t kept fair other)

pub returns-in_err-ready-clause-faultless : goal.returns-in_err-ready-clause-faultless
returns-in_err-ready-clause-faultless g c = λ t kept fair why is.
    let x = c.in_err-ready.field-0.0 in
    let bad = bad_at x why (told_as of_session c.from_residual.result x c.from_residual.ensures.1 (faults.BadReply why) is) in
    c.enter.ensures.enters.honest t bad.0 (c.in_err-ready.was ∙ ap (λ (f : SessionFault). Err f) bad.1)

pub returns-in_err-ready-clause-stored : goal.returns-in_err-ready-clause-stored
returns-in_err-ready-clause-stored g c = record {
  fold = search rules;
  later = search rules;
  left = λ t no_disk.
      left_there mail AnyStep c.args.store.now (g.W.Clocked.clock c.args.world.now) (g.W.Clocked.clock c.enter.new.link) _ _ (c.requires.left t)
      (c.enter.ensures.enters.files t) (g.met.W.Disk.seen_is c.enter.new.link t);
  sound_still = search rules;
  written = λ no_disk. c.requires.written;
}

pub returns-in_err-ready-clause-why : goal.returns-in_err-ready-clause-why
returns-in_err-ready-clause-why g c = λ t fault is.
    let x = c.in_err-ready.field-0.0 in
    not_entered x (told_as of_session c.from_residual.result x c.from_residual.ensures.1 fault is) (c.enter.ensures.enters.why t x c.in_err-ready.was) refl

pub returns-in_err-ready-clause-complete : goal.returns-in_err-ready-clause-complete
returns-in_err-ready-clause-complete g c = λ t kept fair serving boxes fault is.
    let x = c.in_err-ready.field-0.0 in
    let serves = c.enter.ensures.serves t serving in
    comes_session x (λ line e. serves.0 line (c.in_err-ready.was ∙ ap (λ (f : SessionFault). Err f) e))
    (λ item e. serves.1 item (c.in_err-ready.was ∙ ap (λ (f : SessionFault). Err f) e))
    (λ at e. c.enter.ensures.enters.honest t at (c.in_err-ready.was ∙ ap (λ (f : SessionFault). Err f) e)) fault
    (told_as of_session c.from_residual.result x c.from_residual.ensures.1 fault is)

-- it takes its turns
pub play_on-requires-clause-room : goal.play_on-requires-clause-room
play_on-requires-clause-room g c =
    let begun = begins_so c.args.alloc _ _ _ c.begin-player.ensures.value c.book-2.ensures in
    has_room c.args.alloc c.args.store.now.book c.begin-player.result begun c.requires.fold _ c.in_ok-ready.ensures.counted

pub play_on-requires-clause-left : goal.play_on-requires-clause-left
play_on-requires-clause-left g c = λ t.
    left_there mail AnyStep c.args.store.now (g.W.Clocked.clock c.args.world.now) (g.W.Clocked.clock c.enter.new.link) _ _ (c.requires.left t)
    (c.enter.ensures.enters.files t) (g.met.W.Disk.seen_is c.enter.new.link t)

-- a turn failed
pub returns-in_err-last-clause-goes_on : goal.returns-in_err-last-clause-goes_on
returns-in_err-last-clause-goes_on g c = record {
  progress = λ t.
      progress_two c.args.store.now.book _ _ _ (firm_left c.args.store.now (g.W.Clocked.clock c.args.world.now) _ (c.requires.left t))
      (c.enter.ensures.enters.files t) (c.play_on.ensures.goes_on.progress t);
  joined = λ t kept.
      let f = g.W.Clocked.server_with_files t in
      let r : HasBegun c.args.store.now.book c.begin-player.result (g.W.Clocked.clock c.args.world.now) (g.W.Clocked.clock c.enter.new.link) =
      has_begun c.args.alloc _ _ _ c.begin-player.ensures.value c.begin-player.ensures.entered c.book-2.ensures _ _
      (firm_left c.args.store.now (g.W.Clocked.clock c.args.world.now) _ (c.requires.left f)) (c.enter.ensures.enters.told t)
      (c.in_ok-ready.ensures.opened t) _ _ (c.in_ok-ready.ensures.stands t) in
      run_two _ _ _ _ r kept _ (progress_grows _ _ _ (c.play_on.ensures.goes_on.progress f)) (c.play_on.ensures.goes_on.joined t r.opened.made);
  each_one_side = λ t.
      sides_then _ _ _
      (linked_sides AnyStep _ _ (rests_left c.args.store.now (g.W.Clocked.clock c.args.world.now) _ (c.requires.left t)) (c.enter.ensures.enters.files t))
      (c.play_on.ensures.goes_on.each_one_side t);
  once = λ t. goes_behind RunStep _ _ _ (enters_run _ _ (c.enter.ensures.enters.once t)) (talks_run _ _ (c.play_on.ensures.goes_on.talks t));
  one = λ t.
      once_then (g.W.Clocked.link c.args.world.now) (g.W.Clocked.link c.enter.new.link) (g.W.Clocked.link c.play_on.new.world)
      (c.enter.ensures.enters.one t) (c.play_on.ensures.goes_on.earlier t);
  sends = λ t.
      let begun = begins_so c.args.alloc _ _ _ c.begin-player.ensures.value c.book-2.ensures in
      stopped_once c.args.account.now c.args.alloc c.args.store.now c.begin-player.result begun (g.W.Clocked.link c.enter.new.link)
      c.in_ok-ready.ready (c.in_ok-ready.ensures.entered t) (g.W.Clocked.link c.args.world.now) (g.W.Clocked.link c.play_on.new.world)
      (c.play_on.ensures.goes_on.earlier t ∙ c.in_ok-ready.ensures.made t) _ _
      (c.play_on.ensures.runs.why t c.in_err-last.field-0.0 c.in_err-last.was);
}

pub returns-in_err-last-clause-reasons : goal.returns-in_err-last-clause-reasons
returns-in_err-last-clause-reasons g c = record {
  truly = λ t kept fair no_disk.
      let f = g.W.Clocked.server_with_files t in
      let r : HasBegun c.args.store.now.book c.begin-player.result (g.W.Clocked.clock c.args.world.now) (g.W.Clocked.clock c.enter.new.link) =
      has_begun c.args.alloc _ _ _ c.begin-player.ensures.value c.begin-player.ensures.entered c.book-2.ensures _ _
      (firm_left c.args.store.now (g.W.Clocked.clock c.args.world.now) _ (c.requires.left f)) (c.enter.ensures.enters.told t)
      (c.in_ok-ready.ensures.opened t) _ _ (c.in_ok-ready.ensures.stands t) in
      true_two _ _ _ _ r kept _ (progress_grows _ _ _ (c.play_on.ensures.goes_on.progress f)) c.play_on.new.store.book fair (c.play_on.ensures.goes_on.talks t)
      (λ here knows second entered truly. c.play_on.ensures.reasons.truly t r.opened.made c.args.store.now.book here knows second entered truly
      (λ disk. no_disk (search rules)));
  stopped = search rules;
  stopped_truly = λ t is kept fair.
      let f = g.W.Clocked.server_with_files t in
      let r : HasBegun c.args.store.now.book c.begin-player.result (g.W.Clocked.clock c.args.world.now) (g.W.Clocked.clock c.enter.new.link) =
      has_begun c.args.alloc _ _ _ c.begin-player.ensures.value c.begin-player.ensures.entered c.book-2.ensures _ _
      (firm_left c.args.store.now (g.W.Clocked.clock c.args.world.now) _ (c.requires.left f)) (c.enter.ensures.enters.told t)
      (c.in_ok-ready.ensures.opened t) _ _ (c.in_ok-ready.ensures.stands t) in
      let s = c.play_on.ensures.reasons.stopped f (search rules) in
      stopped_two _ _ _ _ r kept _ (progress_grows _ _ _ (c.play_on.ensures.goes_on.progress f)) c.play_on.new.store.book s.0 fair (c.play_on.ensures.goes_on.talks t)
      (s.3 t r.opened.made c.args.store.now.book);
}

pub returns-in_err-last-clause-surely : goal.returns-in_err-last-clause-surely
returns-in_err-last-clause-surely g c = λ t kept fair.
    let reasons = returns-in_err-last-clause-reasons g c in
    run_surely _ _ _ _ _ (λ is. reasons.stopped_truly t is kept fair) (λ other. reasons.truly t kept fair other)

pub returns-in_err-last-clause-faultless : goal.returns-in_err-last-clause-faultless
returns-in_err-last-clause-faultless g c = λ t kept fair why is.
    let f = g.W.Clocked.server_with_files t in
    let r : HasBegun c.args.store.now.book c.begin-player.result (g.W.Clocked.clock c.args.world.now) (g.W.Clocked.clock c.enter.new.link) =
    has_begun c.args.alloc _ _ _ c.begin-player.ensures.value c.begin-player.ensures.entered c.book-2.ensures _ _
    (firm_left c.args.store.now (g.W.Clocked.clock c.args.world.now) _ (c.requires.left f)) (c.enter.ensures.enters.told t)
    (c.in_ok-ready.ensures.opened t) _ _ (c.in_ok-ready.ensures.stands t) in
    faultless_two _ _ _ _ r kept _ (progress_grows _ _ _ (c.play_on.ensures.goes_on.progress f)) fair
    (λ here knows second. c.play_on.ensures.excuses.faultless t r.opened.made here knows second (faults.BadReply why) (search rules) tt)

pub returns-in_err-last-clause-stored : goal.returns-in_err-last-clause-stored
returns-in_err-last-clause-stored g c = record {
  fold = search rules;
  later = search rules;
  left = λ t no_disk. c.play_on.ensures.stored.left t (λ is. no_disk (search rules));
  sound_still = search rules;
  written = λ no_disk. c.play_on.ensures.stored.written (λ is. no_disk (search rules));
}

pub returns-in_err-last-clause-why : goal.returns-in_err-last-clause-why
returns-in_err-last-clause-why g c = λ t fault is.
    let begun = begins_so c.args.alloc _ _ _ c.begin-player.ensures.value c.book-2.ensures in
    stops_early c.args.account.now c.args.alloc c.args.store.now c.begin-player.result begun (g.W.Clocked.link c.enter.new.link) c.in_ok-ready.ready
    (c.in_ok-ready.ensures.entered t) c.play_on.new.store _ _ fault (c.play_on.ensures.runs.why t fault (search rules))

pub returns-in_err-last-clause-complete : goal.returns-in_err-last-clause-complete
returns-in_err-last-clause-complete g c = λ t kept fair serving boxes fault is.
    let f = g.W.Clocked.server_with_files t in
    let r : HasBegun c.args.store.now.book c.begin-player.result (g.W.Clocked.clock c.args.world.now) (g.W.Clocked.clock c.enter.new.link) =
    has_begun c.args.alloc _ _ _ c.begin-player.ensures.value c.begin-player.ensures.entered c.book-2.ensures _ _
    (firm_left c.args.store.now (g.W.Clocked.clock c.args.world.now) _ (c.requires.left f)) (c.enter.ensures.enters.told t)
    (c.in_ok-ready.ensures.opened t) _ _ (c.in_ok-ready.ensures.stands t) in
    let more = progress_grows _ _ _ (c.play_on.ensures.goes_on.progress f) in
    let is_on : c.play_on.result ≡ Err fault = search rules in
    comes_turn fault
    (unrefused_turn (box_names c.args.store.now.book) _ _
    (goes_behind TalkStep _ _ _ (enters_talking _ _ (c.enter.ensures.enters.once t)) (c.play_on.ensures.goes_on.talks t))
    (grounds_then (box_names c.args.store.now.book) _ _ _ (c.enter.ensures.enters.grounds t (box_names c.args.store.now.book))
    (c.play_on.ensures.goes_on.grounds t)) boxes serving _ _ _ fault
    (c.play_on.ensures.runs.why f fault is_on) (g.met.W.Link.honest c.play_on.new.world t))
    (λ reply. faultless_two _ _ _ _ r kept _ more fair
    (λ here knows second. c.play_on.ensures.excuses.faultless t r.opened.made here knows second fault is_on reply))

-- it didn't leave
pub returns-in_err-leave-clause-goes_on : goal.returns-in_err-leave-clause-goes_on
returns-in_err-leave-clause-goes_on g c = record {
  progress = λ t.
      let later = c.play_on.ensures.stored.left t (ok_no_err c.play_on.result c.in_ok-last.last _ c.in_ok-last.was) in
      progress_three c.args.store.now.book _ _ _ (firm_left c.args.store.now (g.W.Clocked.clock c.args.world.now) _ (c.requires.left t))
      (c.enter.ensures.enters.files t) (c.play_on.ensures.goes_on.progress t)
      c.play_on.new.store.book _ c.play_on.ensures.stored.later (firm_left c.play_on.new.store (g.W.Clocked.clock c.play_on.new.world) _ later)
      (c.leave.ensures.talks.files t);
  joined = λ t kept.
      let f = g.W.Clocked.server_with_files t in
      let r : HasBegun c.args.store.now.book c.begin-player.result (g.W.Clocked.clock c.args.world.now) (g.W.Clocked.clock c.enter.new.link) =
      has_begun c.args.alloc _ _ _ c.begin-player.ensures.value c.begin-player.ensures.entered c.book-2.ensures _ _
      (firm_left c.args.store.now (g.W.Clocked.clock c.args.world.now) _ (c.requires.left f)) (c.enter.ensures.enters.told t)
      (c.in_ok-ready.ensures.opened t) _ _ (c.in_ok-ready.ensures.stands t) in
      let more = progress_grows _ _ _ (c.play_on.ensures.goes_on.progress f) in
      let later = c.play_on.ensures.stored.left f (ok_no_err c.play_on.result c.in_ok-last.last _ c.in_ok-last.was) in
      let before = run_grows _ _ _ _ r _ more in
      let q = leaves_asking _ _ _ _ (c.leave.ensures.talks.told t) in
      run_three _ _ _ before c.play_on.new.store.book (firm_left c.play_on.new.store (g.W.Clocked.clock c.play_on.new.world) _ later) q kept
      (run_two _ _ _ _ r kept _ more (c.play_on.ensures.goes_on.joined t r.opened.made));
  each_one_side = λ t.
      let later = c.play_on.ensures.stored.left t (ok_no_err c.play_on.result c.in_ok-last.last _ c.in_ok-last.was) in
      let first =
      linked_sides AnyStep _ _ (rests_left c.args.store.now (g.W.Clocked.clock c.args.world.now) _ (c.requires.left t)) (c.enter.ensures.enters.files t) in
      sides_then _ _ _ (sides_then _ _ _ first (c.play_on.ensures.goes_on.each_one_side t))
      (linked_sides AnyStep _ _ (rests_left c.play_on.new.store (g.W.Clocked.clock c.play_on.new.world) _ later) (c.leave.ensures.talks.files t));
  once = λ t.
      goes_behind RunStep _ _ _ (goes_behind RunStep _ _ _ (enters_run _ _ (c.enter.ensures.enters.once t)) (talks_run _ _ (c.play_on.ensures.goes_on.talks t)))
      (leave_run _ _ _ _ (c.leave.ensures.talks.told t));
  one = λ t.
      let first = once_then (g.W.Clocked.link c.args.world.now) (g.W.Clocked.link c.enter.new.link) (g.W.Clocked.link c.play_on.new.world)
      (c.enter.ensures.enters.one t) (c.play_on.ensures.goes_on.earlier t) in
      once_then (g.W.Clocked.link c.args.world.now) (g.W.Clocked.link c.play_on.new.world) (g.W.Clocked.link c.leave.new.link) first (c.leave.ensures.talks.earlier t);
  sends = λ t.
      let begun = begins_so c.args.alloc _ _ _ c.begin-player.ensures.value c.book-2.ensures in
      stayed_once c.args.account.now c.args.alloc c.args.store.now c.begin-player.result begun (g.W.Clocked.link c.enter.new.link)
      c.in_ok-ready.ready (c.in_ok-ready.ensures.entered t) (g.W.Clocked.link c.args.world.now) (g.W.Clocked.link c.leave.new.link)
      (c.leave.ensures.talks.earlier t ∙ c.play_on.ensures.goes_on.earlier t ∙ c.in_ok-ready.ensures.made t)
      (standing_of (g.W.Clocked.link c.play_on.new.world) c.in_ok-last.last c.play_on.new.store c.play_on.new.player)
      c.in_err-leave.field-0.0 (c.in_ok-last.ensures.runs.runs t) (c.leave.ensures.why t c.in_err-leave.field-0.0 c.in_err-leave.was);
}

pub returns-in_err-leave-clause-reasons : goal.returns-in_err-leave-clause-reasons
returns-in_err-leave-clause-reasons g c = record {
  truly = λ t kept fair no_disk.
      let f = g.W.Clocked.server_with_files t in
      let r : HasBegun c.args.store.now.book c.begin-player.result (g.W.Clocked.clock c.args.world.now) (g.W.Clocked.clock c.enter.new.link) =
      has_begun c.args.alloc _ _ _ c.begin-player.ensures.value c.begin-player.ensures.entered c.book-2.ensures _ _
      (firm_left c.args.store.now (g.W.Clocked.clock c.args.world.now) _ (c.requires.left f)) (c.enter.ensures.enters.told t)
      (c.in_ok-ready.ensures.opened t) _ _ (c.in_ok-ready.ensures.stands t) in
      let more = progress_grows _ _ _ (c.play_on.ensures.goes_on.progress f) in
      let later = c.play_on.ensures.stored.left f (ok_no_err c.play_on.result c.in_ok-last.last _ c.in_ok-last.was) in
      let before = run_grows _ _ _ _ r _ more in
      let q = leaves_asking _ _ _ _ (c.leave.ensures.talks.told t) in
      true_three _ _ _ before c.play_on.new.store.book
      (firm_left c.play_on.new.store (g.W.Clocked.clock c.play_on.new.world) _ later) q c.args.store.now.book
      (leave_run _ _ _ _ (c.leave.ensures.talks.told t))
      (true_two _ _ _ _ r kept _ more c.play_on.new.store.book
      (fair_run _ _ _ before c.play_on.new.store.book
      (firm_left c.play_on.new.store (g.W.Clocked.clock c.play_on.new.world) _ later) q fair) (c.play_on.ensures.goes_on.talks t)
      (λ here knows second entered truly. c.play_on.ensures.reasons.truly t r.opened.made c.args.store.now.book here knows second entered truly
      (ok_no_err c.play_on.result c.in_ok-last.last _ c.in_ok-last.was)));
  stopped = search rules;
  stopped_truly = search rules;
}

pub returns-in_err-leave-clause-surely : goal.returns-in_err-leave-clause-surely
returns-in_err-leave-clause-surely g c = λ t kept fair.
    let reasons = returns-in_err-leave-clause-reasons g c in
    run_surely _ _ _ _ _ (λ is. reasons.stopped_truly t is kept fair) (λ other. reasons.truly t kept fair other)

pub returns-in_err-leave-clause-faultless : goal.returns-in_err-leave-clause-faultless
returns-in_err-leave-clause-faultless g c = λ t kept fair why is.
    let x = c.in_err-leave.field-0.0 in
    let bad = bad_at x why
    (told_as of_session c.from_residual-in_err-leave.result x c.from_residual-in_err-leave.ensures.1 (faults.BadReply why) is) in
    c.leave.ensures.talks.honest t bad.0 (c.in_err-leave.was ∙ ap (λ (f : SessionFault). Err f) bad.1)

pub returns-in_err-leave-clause-why : goal.returns-in_err-leave-clause-why
returns-in_err-leave-clause-why g c = λ t fault is.
    let x = c.in_err-leave.field-0.0 in
    let begun = begins_so c.args.alloc _ _ _ c.begin-player.ensures.value c.book-2.ensures in
    stays_on_line c.args.account.now c.args.alloc c.args.store.now c.begin-player.result begun (g.W.Clocked.link c.enter.new.link) c.in_ok-ready.ready
    (c.in_ok-ready.ensures.entered t) (standing_of (g.W.Clocked.link c.play_on.new.world) c.in_ok-last.last c.play_on.new.store c.play_on.new.player)
    _ _ x fault (told_as of_session c.from_residual-in_err-leave.result x c.from_residual-in_err-leave.ensures.1 fault is)
    (c.in_ok-last.ensures.runs.runs t)
    c.in_ok-last.ensures.runs.finished (c.leave.ensures.why t x c.in_err-leave.was)

pub returns-in_err-leave-clause-stored : goal.returns-in_err-leave-clause-stored
returns-in_err-leave-clause-stored g c = record {
  fold = search rules;
  later = search rules;
  left = λ t no_disk.
      let later = c.play_on.ensures.stored.left t (ok_no_err c.play_on.result c.in_ok-last.last _ c.in_ok-last.was) in
      left_there mail AnyStep c.play_on.new.store (g.W.Clocked.clock c.play_on.new.world) (g.W.Clocked.clock c.leave.new.link) _ _ later
      (c.leave.ensures.talks.files t)
      (g.met.W.Disk.seen_is c.leave.new.link t);
  sound_still = search rules;
  written = λ no_disk. c.play_on.ensures.stored.written (ok_no_err c.play_on.result c.in_ok-last.last _ c.in_ok-last.was);
}

pub returns-in_err-leave-clause-complete : goal.returns-in_err-leave-clause-complete
returns-in_err-leave-clause-complete g c = λ t kept fair serving boxes fault is.
    let f = g.W.Clocked.server_with_files t in
    let x = c.in_err-leave.field-0.0 in
    let why = c.leave.ensures.why f x c.in_err-leave.was in
    comes_session x
    (unrefused_leave (box_names c.args.store.now.book) _ _
    (grounds_then (box_names c.args.store.now.book) _ _ _
    (grounds_then (box_names c.args.store.now.book) _ _ _ (c.enter.ensures.enters.grounds t (box_names c.args.store.now.book))
    (c.play_on.ensures.goes_on.grounds t)) (leave_grounded (box_names c.args.store.now.book) _ _ _ _ (c.leave.ensures.talks.told t)))
    boxes serving _ _ x why (g.met.W.Link.honest c.leave.new.link t))
    (leaving_lacks _ _ x why)
    (λ at e. c.leave.ensures.talks.honest t at (c.in_err-leave.was ∙ ap (λ (f : SessionFault). Err f) e)) fault
    (told_as of_session c.from_residual-in_err-leave.result x c.from_residual-in_err-leave.ensures.1 fault is)

-- it left
pub returns-clause-goes_on : goal.returns-clause-goes_on
returns-clause-goes_on g c = record {
  progress = λ t.
      let later = c.play_on.ensures.stored.left t (ok_no_err c.play_on.result c.in_ok-last.last _ c.in_ok-last.was) in
      progress_three c.args.store.now.book _ _ _ (firm_left c.args.store.now (g.W.Clocked.clock c.args.world.now) _ (c.requires.left t))
      (c.enter.ensures.enters.files t) (c.play_on.ensures.goes_on.progress t)
      c.play_on.new.store.book _ c.play_on.ensures.stored.later (firm_left c.play_on.new.store (g.W.Clocked.clock c.play_on.new.world) _ later)
      (c.leave.ensures.talks.files t);
  joined = λ t kept.
      let f = g.W.Clocked.server_with_files t in
      let r : HasBegun c.args.store.now.book c.begin-player.result (g.W.Clocked.clock c.args.world.now) (g.W.Clocked.clock c.enter.new.link) =
      has_begun c.args.alloc _ _ _ c.begin-player.ensures.value c.begin-player.ensures.entered c.book-2.ensures _ _
      (firm_left c.args.store.now (g.W.Clocked.clock c.args.world.now) _ (c.requires.left f)) (c.enter.ensures.enters.told t)
      (c.in_ok-ready.ensures.opened t) _ _ (c.in_ok-ready.ensures.stands t) in
      let more = progress_grows _ _ _ (c.play_on.ensures.goes_on.progress f) in
      let later = c.play_on.ensures.stored.left f (ok_no_err c.play_on.result c.in_ok-last.last _ c.in_ok-last.was) in
      let before = run_grows _ _ _ _ r _ more in
      let q = leaves_asking _ _ _ _ (c.leave.ensures.talks.told t) in
      run_three _ _ _ before c.play_on.new.store.book (firm_left c.play_on.new.store (g.W.Clocked.clock c.play_on.new.world) _ later) q kept
      (run_two _ _ _ _ r kept _ more (c.play_on.ensures.goes_on.joined t r.opened.made));
  each_one_side = λ t.
      let later = c.play_on.ensures.stored.left t (ok_no_err c.play_on.result c.in_ok-last.last _ c.in_ok-last.was) in
      let first =
      linked_sides AnyStep _ _ (rests_left c.args.store.now (g.W.Clocked.clock c.args.world.now) _ (c.requires.left t)) (c.enter.ensures.enters.files t) in
      sides_then _ _ _ (sides_then _ _ _ first (c.play_on.ensures.goes_on.each_one_side t))
      (linked_sides AnyStep _ _ (rests_left c.play_on.new.store (g.W.Clocked.clock c.play_on.new.world) _ later) (c.leave.ensures.talks.files t));
  once = λ t.
      goes_behind RunStep _ _ _ (goes_behind RunStep _ _ _ (enters_run _ _ (c.enter.ensures.enters.once t)) (talks_run _ _ (c.play_on.ensures.goes_on.talks t)))
      (leave_run _ _ _ _ (c.leave.ensures.talks.told t));
  one = λ t.
      let first = once_then (g.W.Clocked.link c.args.world.now) (g.W.Clocked.link c.enter.new.link) (g.W.Clocked.link c.play_on.new.world)
      (c.enter.ensures.enters.one t) (c.play_on.ensures.goes_on.earlier t) in
      once_then (g.W.Clocked.link c.args.world.now) (g.W.Clocked.link c.play_on.new.world) (g.W.Clocked.link c.leave.new.link) first (c.leave.ensures.talks.earlier t);
  sends = λ t.
      let begun = begins_so c.args.alloc _ _ _ c.begin-player.ensures.value c.book-2.ensures in
      left_once c.args.account.now c.args.alloc c.args.store.now c.begin-player.result begun (g.W.Clocked.link c.enter.new.link)
      c.in_ok-ready.ready (c.in_ok-ready.ensures.entered t) (g.W.Clocked.link c.args.world.now) (g.W.Clocked.link c.leave.new.link)
      (c.leave.ensures.talks.earlier t ∙ c.play_on.ensures.goes_on.earlier t ∙ c.in_ok-ready.ensures.made t)
      (standing_of (g.W.Clocked.link c.play_on.new.world) c.in_ok-last.last c.play_on.new.store c.play_on.new.player)
      (c.in_ok-last.ensures.runs.runs t) (c.in_ok-leave.ensures.left t);
}

pub returns-clause-reasons : goal.returns-clause-reasons
returns-clause-reasons g c = record {
  truly = λ t kept fair no_disk.
      let f = g.W.Clocked.server_with_files t in
      let r : HasBegun c.args.store.now.book c.begin-player.result (g.W.Clocked.clock c.args.world.now) (g.W.Clocked.clock c.enter.new.link) =
      has_begun c.args.alloc _ _ _ c.begin-player.ensures.value c.begin-player.ensures.entered c.book-2.ensures _ _
      (firm_left c.args.store.now (g.W.Clocked.clock c.args.world.now) _ (c.requires.left f)) (c.enter.ensures.enters.told t)
      (c.in_ok-ready.ensures.opened t) _ _ (c.in_ok-ready.ensures.stands t) in
      let more = progress_grows _ _ _ (c.play_on.ensures.goes_on.progress f) in
      let later = c.play_on.ensures.stored.left f (ok_no_err c.play_on.result c.in_ok-last.last _ c.in_ok-last.was) in
      let before = run_grows _ _ _ _ r _ more in
      let q = leaves_asking _ _ _ _ (c.leave.ensures.talks.told t) in
      true_three _ _ _ before c.play_on.new.store.book
      (firm_left c.play_on.new.store (g.W.Clocked.clock c.play_on.new.world) _ later) q c.args.store.now.book
      (leave_run _ _ _ _ (c.leave.ensures.talks.told t))
      (true_two _ _ _ _ r kept _ more c.play_on.new.store.book
      (fair_run _ _ _ before c.play_on.new.store.book
      (firm_left c.play_on.new.store (g.W.Clocked.clock c.play_on.new.world) _ later) q fair) (c.play_on.ensures.goes_on.talks t)
      (λ here knows second entered truly. c.play_on.ensures.reasons.truly t r.opened.made c.args.store.now.book here knows second entered truly
      (ok_no_err c.play_on.result c.in_ok-last.last _ c.in_ok-last.was)));
  stopped = search rules;
  stopped_truly = search rules;
}

pub returns-clause-surely : goal.returns-clause-surely
returns-clause-surely g c = λ t kept fair.
    let reasons = returns-clause-reasons g c in
    run_surely _ _ _ _ _ (λ is. reasons.stopped_truly t is kept fair) (λ other. reasons.truly t kept fair other)

pub returns-clause-synced : goal.returns-clause-synced
returns-clause-synced g c = λ t kept fair.
    let f = g.W.Clocked.server_with_files t in
    let r : HasBegun c.args.store.now.book c.begin-player.result (g.W.Clocked.clock c.args.world.now) (g.W.Clocked.clock c.enter.new.link) =
    has_begun c.args.alloc _ _ _ c.begin-player.ensures.value c.begin-player.ensures.entered c.book-2.ensures _ _
    (firm_left c.args.store.now (g.W.Clocked.clock c.args.world.now) _ (c.requires.left f)) (c.enter.ensures.enters.told t)
    (c.in_ok-ready.ensures.opened t) _ _ (c.in_ok-ready.ensures.stands t) in
    let more = progress_grows _ _ _ (c.play_on.ensures.goes_on.progress f) in
    let later = c.play_on.ensures.stored.left f (ok_no_err c.play_on.result c.in_ok-last.last _ c.in_ok-last.was) in
    let before = run_grows _ _ _ _ r _ more in
    let q = leaves_asking _ _ _ _ (c.leave.ensures.talks.told t) in
    all_synced _ _ _ c.play_on.new.player c.play_on.new.store.book
    c.in_ok-last.ensures.runs.finished
    (subst (λ (h : Option Held). IsSyncedSoFar (g.W.Clocked.clock c.args.world.now) (g.W.Clocked.clock c.play_on.new.world) h c.play_on.new.player
    c.play_on.new.store.book) c.in_ok-last.ensures.runs.unheld
    (synced_two _ _ _ _ r kept _ more (held_in c.in_ok-last.last) c.play_on.new.player c.play_on.new.store.book
    (fair_run _ _ _ before c.play_on.new.store.book
    (firm_left c.play_on.new.store (g.W.Clocked.clock c.play_on.new.world) _ later) q fair)
    (λ grows here knows. c.in_ok-last.ensures.synced t r.opened.made (g.W.Clocked.clock c.args.world.now) grows here knows))) (leaves_grow _ _ q)
    (let stands = c.in_ok-last.ensures.rests.stands t in leaves_unread _ _ _ stands.nothing stands.no_part (c.leave.ensures.talks.told t))

pub returns-clause-plays : goal.returns-clause-plays
returns-clause-plays g c = λ t.
    let begun = begins_so c.args.alloc _ _ _ c.begin-player.ensures.value c.book-2.ensures in
    plays_so c.args.account.now c.args.alloc c.args.store.now c.begin-player.result begun (g.W.Clocked.link c.enter.new.link) c.in_ok-ready.ready
    (c.in_ok-ready.ensures.entered t) (standing_of (g.W.Clocked.link c.play_on.new.world) c.in_ok-last.last c.play_on.new.store c.play_on.new.player)
    _ (c.in_ok-last.ensures.runs.runs t) c.in_ok-last.ensures.runs.finished (c.in_ok-leave.ensures.left t)

pub returns-clause-stored : goal.returns-clause-stored
returns-clause-stored g c = record {
  fold = search rules;
  later = search rules;
  left = λ t no_disk.
      let later = c.play_on.ensures.stored.left t (ok_no_err c.play_on.result c.in_ok-last.last _ c.in_ok-last.was) in
      left_there mail AnyStep c.play_on.new.store (g.W.Clocked.clock c.play_on.new.world) (g.W.Clocked.clock c.leave.new.link) _ _ later
      (c.leave.ensures.talks.files t)
      (g.met.W.Disk.seen_is c.leave.new.link t);
  sound_still = search rules;
  written = λ no_disk. c.play_on.ensures.stored.written (ok_no_err c.play_on.result c.in_ok-last.last _ c.in_ok-last.was);
}

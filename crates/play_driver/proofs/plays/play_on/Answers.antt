use Rattle.action_queue.specs.Book.{Meaning}
use Rattle.play_driver.proofs.Faulting.{ok_no_err, told_as}
use Rattle.play_driver.proofs.GroundChains.{grounds_later, grounds_start}
use Rattle.play_driver.proofs.ManyTurns.{gone_on, gone_start, is_sound, joined_on, memory_no_disk, so_on, stops_behind, stops_wanting, talks_start, unheld_finished}
use Rattle.play_driver.proofs.OverOne.{talks_then}
use Rattle.play_driver.proofs.Parts.{grows_then}
use Rattle.play_driver.proofs.Progressing.{later_start, later_then, progress_grows, progress_start, progress_then, sides_start, sides_then}
use Rattle.play_driver.proofs.Shortness.{runs_on, runs_start}
use Rattle.play_driver.specs.Faults.{IsReplyFault}
use Rattle.play_driver.specs.Progress.{box_names}
use Rattle.play_driver.specs.Sessions.{held_in, permits_in}
use Rattle.play_driver.specs.Settled.{IsSyncedSoFar}
use Rattle.play_driver.specs.TrueRecords.{IsTrueBefore, IsTrueSince}
use Rattle.play_driver.specs.Turning.{IsNext, standing_of}
use Rattle.playback.specs.Needs.{NeedsNoMemory, need_of}
use Rattle.std.proofs.Common.{refl, subst, ◌∙◌}
use Rattle.play_driver.specs.declared.fault.PlayFault.TheVariants as faults
use Rattle.std.proofs.Common.{rules, arith}
use Rattle.std.specs.declared.alloc.AllocError.{AllocError}
use Rattle.play_driver.proofs.plays.play_on.Goals as goal

pub loop-at-init : goal.loop-at-init
loop-at-init g c = record {
  fold = c.requires.fold;
  rests = c.requires.rests;
  room = c.requires.room;
  written = c.requires.written;
  sound = c.requires.sound;
  left = c.requires.left;
  progress = λ t. progress_start c.args.store.now.book (g.W.Clocked.clock c.args.world.now);
  later = later_start c.args.store.now.book;
  gone = λ t made kept known. gone_start made _ _ _ _ _ known;
  entered = λ entry e. e;
  truly = λ t made entry kept known fair e truly. truly;
  synced = λ t made start grows kept known fair so. so;
  runs = λ t. runs_start _;
  each_one_side = λ t. sides_start (g.W.Clocked.clock c.args.world.now);
  talks = λ t. talks_start (g.W.Clocked.clock c.args.world.now);
  grounds = λ t. grounds_start (box_names c.args.store.now.book) (g.W.Clocked.clock c.args.world.now);
  disk_count = omega arith;
  link_count = omega arith;
  disk_same = refl;
  link_same = refl;
  earlier = λ t. refl;
}

-- what is needed wasn't said
pub returns-in_err-need-clause-goes_on : goal.returns-in_err-need-clause-goes_on
returns-in_err-need-clause-goes_on g c = record {
  progress = search rules;
  joined = λ t made kept known. (c.loop-at.invariant.gone t made kept known).joined;
  known = search rules;
  each_one_side = search rules;
  talks = search rules;
  grounds = c.loop-at.invariant.grounds;
  earlier = c.loop-at.invariant.earlier;
}

pub returns-in_err-need-clause-accuses : goal.returns-in_err-need-clause-accuses
returns-in_err-need-clause-accuses g c = record {
  disk_count = c.loop-at.invariant.disk_count;
  link_count = c.loop-at.invariant.link_count;
  disk_cause = search rules;
  link_cause = search rules;
  disk_unfailed = λ no. c.loop-at.invariant.disk_same;
  link_unfailed = λ no. c.loop-at.invariant.link_same;
  honest = search rules;
}

pub returns-in_err-need-clause-reasons : goal.returns-in_err-need-clause-reasons
returns-in_err-need-clause-reasons g c = record {
  truly = λ t made entry kept known fair e truly no_disk. c.loop-at.invariant.truly t made entry kept known fair e truly;
  stopped = λ t is.
      absurd (memory_no_disk
      (told_as (λ (e : AllocError). faults.Memory) c.from_residual.result c.in_err-need.field-0.0 c.from_residual.ensures.1 faults.Disk is));
}

pub returns-in_err-need-clause-runs : goal.returns-in_err-need-clause-runs
returns-in_err-need-clause-runs g c = record {
  runs = search rules;
  finished = search rules;
  unheld = search rules;
  counted = search rules;
  why = λ t fault is.
      stops_wanting _ (standing_of (g.W.Clocked.link c.loop-at.world) c.loop-at.at c.loop-at.store c.loop-at.player) fault
      (c.loop-at.invariant.runs t)
      (subst (λ (b : Meaning). NeedsNoMemory (need_of c.loop-at.player b) → ⊥) c.book.ensures (c.next_need.ensures.wanting (search rules)))
      (told_as (λ (e : AllocError). faults.Memory) c.from_residual.result c.in_err-need.field-0.0 c.from_residual.ensures.1 fault is);
}

pub returns-in_err-need-clause-excuses : goal.returns-in_err-need-clause-excuses
returns-in_err-need-clause-excuses g c = record {
  faultless = λ t made kept known fair fault is at_reply.
      subst IsReplyFault
      (told_as (λ (e : AllocError). faults.Memory) c.from_residual.result c.in_err-need.field-0.0 c.from_residual.ensures.1 fault is) at_reply;
}

-- nothing is needed
pub returns-then-is_finished-clause-goes_on : goal.returns-then-is_finished-clause-goes_on
returns-then-is_finished-clause-goes_on g c = record {
  progress = search rules;
  joined = λ t made kept known. (c.loop-at.invariant.gone t made kept known).joined;
  known = λ t made kept known fair. (c.loop-at.invariant.gone t made kept known).known fair;
  each_one_side = search rules;
  talks = search rules;
  grounds = c.loop-at.invariant.grounds;
  earlier = c.loop-at.invariant.earlier;
}

pub returns-then-is_finished-clause-synced : goal.returns-then-is_finished-clause-synced
returns-then-is_finished-clause-synced g c = λ t made start grows kept known. c.loop-at.invariant.synced t made start grows kept known

pub returns-then-is_finished-clause-stored : goal.returns-then-is_finished-clause-stored
returns-then-is_finished-clause-stored g c = record {
  fold = search rules;
  later = search rules;
  left = λ t no_disk. c.loop-at.invariant.left t;
  sound_still = λ no_disk. is_sound c.loop-at.store.journal.failed c.loop-at.invariant.sound;
  written = λ no_disk. c.loop-at.invariant.written;
}

pub returns-then-is_finished-clause-reasons : goal.returns-then-is_finished-clause-reasons
returns-then-is_finished-clause-reasons g c = record {
  truly = λ t made entry kept known fair e truly no_disk. c.loop-at.invariant.truly t made entry kept known fair e truly;
  stopped = λ t is. absurd cc;
}

pub returns-then-is_finished-clause-runs : goal.returns-then-is_finished-clause-runs
returns-then-is_finished-clause-runs g c = record {
  runs = c.loop-at.invariant.runs;
  finished = search rules;
  unheld = unheld_finished (held_in c.loop-at.at) c.loop-at.player c.loop-at.store.book c.in_ok-need.need c.loop-at.invariant.rests.held (search rules)
      (subst (λ (b : Meaning). IsNext c.in_ok-need.need c.loop-at.player b) c.book.ensures c.in_ok-need.ensures.value);
  counted = omega (arith, c.loop-at.invariant.room);
  why = λ t fault is. absurd cc;
}

pub returns-then-is_finished-clause-accuses : goal.returns-then-is_finished-clause-accuses
returns-then-is_finished-clause-accuses g c = record {
  disk_count = c.loop-at.invariant.disk_count;
  link_count = c.loop-at.invariant.link_count;
  disk_cause = λ is. absurd cc;
  link_cause = λ is. absurd cc;
  disk_unfailed = λ no. c.loop-at.invariant.disk_same;
  link_unfailed = λ no. c.loop-at.invariant.link_same;
  honest = λ t at is. absurd cc;
}

-- a turn failed
pub returns-in_err-at-clause-goes_on : goal.returns-in_err-at-clause-goes_on
returns-in_err-at-clause-goes_on g c = record {
  progress = λ t.
      progress_then c.args.store.now.book c.loop-at.store.book c.loop-at.invariant.later _ _ _ (c.loop-at.invariant.progress t)
      (c.turn.ensures.goes_on.progress t);
  joined = λ t made kept known.
      let f = g.W.Clocked.server_with_files t in
      joined_on made (g.W.Clocked.clock c.args.world.now) (g.W.Clocked.clock c.loop-at.world) (permits_in c.loop-at.at) (held_in c.loop-at.at) c.loop-at.player
      c.loop-at.store.book
      kept (progress_grows _ _ _ (c.loop-at.invariant.progress f)) (c.loop-at.invariant.gone t made kept known) (g.W.Clocked.clock c.turn.new.world)
      (progress_grows _ _ _ (c.turn.ensures.goes_on.progress f)) (c.turn.ensures.goes_on.joined t made);
  known = search rules;
  each_one_side = λ t. sides_then _ _ _ (c.loop-at.invariant.each_one_side t) (c.turn.ensures.goes_on.each_one_side t);
  talks = λ t. talks_then _ _ _ (c.loop-at.invariant.talks t) (c.turn.ensures.goes_on.talks t);
  grounds = λ t.
      grounds_later c.args.store.now.book c.loop-at.store.book c.loop-at.invariant.later _ _ _ (c.loop-at.invariant.grounds t)
      (c.turn.ensures.goes_on.grounds t);
  earlier = λ t. c.turn.ensures.goes_on.earlier t ∙ c.loop-at.invariant.earlier t;
}

pub returns-in_err-at-clause-accuses : goal.returns-in_err-at-clause-accuses
returns-in_err-at-clause-accuses g c = record {
  disk_count = omega (arith, c.loop-at.invariant.disk_count, c.turn.ensures.accuses.disk_count);
  link_count = omega (arith, c.loop-at.invariant.link_count, c.turn.ensures.accuses.link_count);
  disk_cause = search rules;
  link_cause = search rules;
  disk_unfailed = λ no. c.turn.ensures.accuses.disk_unfailed (λ is. no (search rules)) ∙ c.loop-at.invariant.disk_same;
  link_unfailed = λ no. c.turn.ensures.accuses.link_unfailed (λ is. no (search rules)) ∙ c.loop-at.invariant.link_same;
  honest = search rules;
}

pub returns-in_err-at-clause-stored : goal.returns-in_err-at-clause-stored
returns-in_err-at-clause-stored g c = record {
  fold = c.turn.ensures.stored.fold;
  later = later_then c.args.store.now.book c.loop-at.store.book c.turn.new.store.book c.loop-at.invariant.later c.turn.ensures.stored.later;
  left = λ t no_disk. c.turn.ensures.stored.left t (λ is. no_disk (search rules));
  sound_still = λ no_disk. c.turn.ensures.stored.sound_still (λ is. no_disk (search rules));
  written = λ no_disk. c.turn.ensures.stored.written (λ is. no_disk (search rules));
}

pub returns-in_err-at-clause-reasons : goal.returns-in_err-at-clause-reasons
returns-in_err-at-clause-reasons g c = record {
  truly = λ t made entry kept known fair e truly no_disk.
      let f = g.W.Clocked.server_with_files t in
      so_on made (g.W.Clocked.clock c.args.world.now) (g.W.Clocked.clock c.loop-at.world) (permits_in c.loop-at.at) (held_in c.loop-at.at) c.loop-at.player
      c.loop-at.store.book
      kept (progress_grows _ _ _ (c.loop-at.invariant.progress f)) (c.loop-at.invariant.gone t made kept known) (g.W.Clocked.clock c.turn.new.world)
      (progress_grows _ _ _ (c.turn.ensures.goes_on.progress f)) (IsTrueSince entry made (g.W.Clocked.clock c.turn.new.world) c.turn.new.store.book) fair
      (λ first here knows second. c.turn.ensures.reasons.truly t made entry here knows tt (c.loop-at.invariant.entered entry e)
      (c.loop-at.invariant.truly t made entry kept known first e truly) (λ disk. no_disk (search rules)));
  stopped = λ t is.
      let s = c.turn.ensures.reasons.stopped t (search rules) in (
        s.0,
        s.1,
        s.2,
        λ u made entry kept known fair e truly.
            let grows = progress_grows c.loop-at.store.book (g.W.Clocked.clock c.loop-at.world) (g.W.Clocked.clock c.turn.new.world)
            (c.turn.ensures.goes_on.progress t) in
            so_on made (g.W.Clocked.clock c.args.world.now) (g.W.Clocked.clock c.loop-at.world) (permits_in c.loop-at.at) (held_in c.loop-at.at) c.loop-at.player
            c.loop-at.store.book kept (progress_grows _ _ _ (c.loop-at.invariant.progress t)) (c.loop-at.invariant.gone u made kept known)
            (g.W.Clocked.clock c.turn.new.world) grows (IsTrueBefore s.0 entry c.turn.new.store.book made (g.W.Clocked.clock c.turn.new.world)) fair
            (λ first here knows second. s.3 u made entry here knows tt (c.loop-at.invariant.entered entry e)
            (c.loop-at.invariant.truly u made entry kept known first e truly)),
      );
}

pub returns-in_err-at-clause-excuses : goal.returns-in_err-at-clause-excuses
returns-in_err-at-clause-excuses g c = record {
  faultless = λ t made kept known fair fault is at_reply.
      let f = g.W.Clocked.server_with_files t in
      so_on made (g.W.Clocked.clock c.args.world.now) (g.W.Clocked.clock c.loop-at.world) (permits_in c.loop-at.at) (held_in c.loop-at.at) c.loop-at.player
      c.loop-at.store.book
      kept (progress_grows _ _ _ (c.loop-at.invariant.progress f)) (c.loop-at.invariant.gone t made kept known) (g.W.Clocked.clock c.turn.new.world)
      (progress_grows _ _ _ (c.turn.ensures.goes_on.progress f)) ⊥ fair
      (λ first here knows second. c.turn.ensures.excuses.faultless t made here knows second fault (search rules) at_reply);
}

pub returns-in_err-at-clause-runs : goal.returns-in_err-at-clause-runs
returns-in_err-at-clause-runs g c = record {
  runs = search rules;
  finished = search rules;
  unheld = search rules;
  counted = search rules;
  why = λ t fault is.
      stops_behind _ (standing_of (g.W.Clocked.link c.loop-at.world) c.loop-at.at c.loop-at.store c.loop-at.player) c.turn.new.store _ c.turn.result
      fault
      (search rules) (c.loop-at.invariant.runs t) (c.turn.ensures.takes.why t fault (search rules)) (c.turn.ensures.takes.stays (search rules))
      (c.turn.ensures.takes.kept (search rules));
}

-- another turn
pub loop-at-preserved : goal.loop-at-preserved
loop-at-preserved g c = record {
  fold = c.turn.ensures.stored.fold;
  rests = c.in_ok-at.ensures.rests;
  room = omega (arith, c.loop-at.invariant.room, c.in_ok-at.ensures.takes.counted, c.in_ok-at.ensures.takes.falls);
  written = c.turn.ensures.stored.written (λ is. ok_no_err c.turn.result c.in_ok-at.at _ c.in_ok-at.was is);
  sound = search rules;
  left = search rules;
  progress = λ t.
      progress_then c.args.store.now.book c.loop-at.store.book c.loop-at.invariant.later _ _ _ (c.loop-at.invariant.progress t)
      (c.turn.ensures.goes_on.progress t);
  later = later_then c.args.store.now.book c.loop-at.store.book c.turn.new.store.book c.loop-at.invariant.later c.turn.ensures.stored.later;
  gone = λ t made kept known.
      let f = g.W.Clocked.server_with_files t in
      gone_on made (g.W.Clocked.clock c.args.world.now) (g.W.Clocked.clock c.loop-at.world) (permits_in c.loop-at.at) (held_in c.loop-at.at) c.loop-at.player
      c.loop-at.store.book
      kept (progress_grows _ _ _ (c.loop-at.invariant.progress f)) (c.loop-at.invariant.gone t made kept known) (g.W.Clocked.clock c.turn.new.world)
      (progress_grows _ _ _ (c.turn.ensures.goes_on.progress f)) _ _ c.turn.new.player c.turn.new.store.book (c.turn.ensures.goes_on.joined t made)
      (c.in_ok-at.ensures.goes_on.known t made);
  entered = λ entry e. c.in_ok-at.ensures.takes.entered entry (c.loop-at.invariant.entered entry e);
  truly = λ t made entry kept known fair e truly.
      let f = g.W.Clocked.server_with_files t in
      so_on made (g.W.Clocked.clock c.args.world.now) (g.W.Clocked.clock c.loop-at.world) (permits_in c.loop-at.at) (held_in c.loop-at.at) c.loop-at.player
      c.loop-at.store.book
      kept (progress_grows _ _ _ (c.loop-at.invariant.progress f)) (c.loop-at.invariant.gone t made kept known) (g.W.Clocked.clock c.turn.new.world)
      (progress_grows _ _ _ (c.turn.ensures.goes_on.progress f)) (IsTrueSince entry made (g.W.Clocked.clock c.turn.new.world) c.turn.new.store.book) fair
      (λ first here knows second. c.turn.ensures.reasons.truly t made entry here knows tt (c.loop-at.invariant.entered entry e)
      (c.loop-at.invariant.truly t made entry kept known first e truly) (λ disk. ok_no_err c.turn.result c.in_ok-at.at _ c.in_ok-at.was disk));
  synced = λ t made start grows kept known fair so.
      let f = g.W.Clocked.server_with_files t in
      so_on made (g.W.Clocked.clock c.args.world.now) (g.W.Clocked.clock c.loop-at.world) (permits_in c.loop-at.at) (held_in c.loop-at.at) c.loop-at.player
      c.loop-at.store.book
      kept (progress_grows _ _ _ (c.loop-at.invariant.progress f)) (c.loop-at.invariant.gone t made kept known) (g.W.Clocked.clock c.turn.new.world)
      (progress_grows _ _ _ (c.turn.ensures.goes_on.progress f))
      (IsSyncedSoFar start (g.W.Clocked.clock c.turn.new.world) _ c.turn.new.player c.turn.new.store.book) fair
      (λ first here knows second. c.in_ok-at.ensures.synced t made start (grows_then _ _ _ grows (progress_grows _ _ _ (c.loop-at.invariant.progress f)))
      here knows second
      (c.loop-at.invariant.synced t made start grows kept known first so));
  runs = λ t. runs_on _ _ _ (c.loop-at.invariant.runs t) (c.in_ok-at.ensures.takes.turns t) c.in_ok-at.ensures.takes.falls;
  each_one_side = λ t. sides_then _ _ _ (c.loop-at.invariant.each_one_side t) (c.turn.ensures.goes_on.each_one_side t);
  talks = λ t. talks_then _ _ _ (c.loop-at.invariant.talks t) (c.turn.ensures.goes_on.talks t);
  grounds = λ t.
      grounds_later c.args.store.now.book c.loop-at.store.book c.loop-at.invariant.later _ _ _ (c.loop-at.invariant.grounds t)
      (c.turn.ensures.goes_on.grounds t);
  disk_count = omega (arith, c.loop-at.invariant.disk_count, c.turn.ensures.accuses.disk_count);
  link_count = omega (arith, c.loop-at.invariant.link_count, c.turn.ensures.accuses.link_count);
  disk_same =
      c.turn.ensures.accuses.disk_unfailed (λ is. ok_no_err c.turn.result c.in_ok-at.at _ c.in_ok-at.was is) ∙ c.loop-at.invariant.disk_same;
  link_same =
      c.turn.ensures.accuses.link_unfailed (λ is. ok_no_err c.turn.result c.in_ok-at.at _ c.in_ok-at.was is) ∙ c.loop-at.invariant.link_same;
  earlier = λ t. c.turn.ensures.goes_on.earlier t ∙ c.loop-at.invariant.earlier t;
}

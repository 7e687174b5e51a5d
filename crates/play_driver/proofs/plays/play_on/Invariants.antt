-- What is so of the turns from the first one to the last one so far.
use Rattle.std.proofs.Common.{◌≡◌, ◌≤◌, ◌<◌, ◌+◌, ◌*◌, IsTrue}
use Rattle.action_queue.specs.Book.{Meaning}
use Rattle.journal_core.specs.OneSide.{EachOneSide}
use Rattle.journal_core.specs.Sides.{version_written}
use Rattle.playback.specs.Choosing.{IsEntered}
use Rattle.book_laws.specs.Kept.{Kept}
use Rattle.store_core.specs.Fold.{IsFold}
use Rattle.store_core.specs.Holding.{IsAsLeft}
use Rattle.store_core.specs.Mail.{mail}
use Rattle.world_traits.specs.Links.{Any}
use Rattle.world_traits.specs.Moments.{Clock, Since}
use Rattle.play_driver.specs.Grounds.{GroundStep}
use Rattle.play_driver.specs.Joining.{AllFair, Grows, IsKept}
use Rattle.play_driver.specs.KnownAt.{KnownAt}
use Rattle.play_driver.specs.Played.{played}
use Rattle.play_driver.specs.Progress.{IsLater, Progresses, box_names}
use Rattle.play_driver.specs.Questioning.{TalkStep}
use Rattle.play_driver.specs.Rests.{Rests}
use Rattle.play_driver.specs.Running.{RunsBetween, turns_left}
use Rattle.play_driver.specs.Sessions.{count_of, held_in, permits_in}
use Rattle.play_driver.specs.Settled.{IsSyncedSoFar}
use Rattle.play_driver.specs.TrueRecords.{IsTrueSince}
use Rattle.play_driver.specs.Turning.{standing_of}
use Rattle.play_driver.proofs.ManyTurns.{GoneOn}
use Rattle.play_driver.proofs.plays.play_on.Given as goal

abbrev pub invariant-loop-at : goal.invariant-loop-at
invariant-loop-at g l = record {
  fold : IsFold l.store.book;
  rests : Rests g.W.Clocked l.world l.player l.store.book l.at;
  room : count_of l.at + 2 * turns_left (held_in l.at) l.player l.store.book + 3 < 4294967295;
  written : l.store.journal.version ≡ version_written;
  sound : IsTrue l.store.journal.failed → ⊥;
  left : g.W.Clocked.tells_files → IsAsLeft mail l.store (g.W.Clocked.clock l.world).now (g.W.Disk.seen l.world);
  progress : g.W.Clocked.tells_files → Progresses l.fn.store.book (g.W.Clocked.clock l.fn.world) (g.W.Clocked.clock l.world);
  later : IsLater l.fn.store.book l.store.book;
  gone : g.W.Clocked.tells_server → (made : Clock) → IsKept mail Kept (g.W.Clocked.clock l.fn.world).now →
      KnownAt made (g.W.Clocked.clock l.fn.world) (permits_in l.fn.session) (held_in l.fn.session) l.fn.player l.fn.store.book →
      GoneOn made (g.W.Clocked.clock l.fn.world) (g.W.Clocked.clock l.world) (permits_in l.at) (held_in l.at) l.player l.store.book;
  entered : (entry : Meaning) → IsEntered entry l.fn.player l.fn.store.book → IsEntered entry l.player l.store.book;
  truly : g.W.Clocked.tells_server → (made : Clock) (entry : Meaning) → IsKept mail Kept (g.W.Clocked.clock l.fn.world).now →
      KnownAt made (g.W.Clocked.clock l.fn.world) (permits_in l.fn.session) (held_in l.fn.session) l.fn.player l.fn.store.book →
      AllFair mail played (g.W.Clocked.clock l.fn.world) (g.W.Clocked.clock l.world) → IsEntered entry l.fn.player l.fn.store.book →
      IsTrueSince entry made (g.W.Clocked.clock l.fn.world) l.fn.store.book → IsTrueSince entry made (g.W.Clocked.clock l.world) l.store.book;
  synced : g.W.Clocked.tells_server → (made start : Clock) → Grows start (g.W.Clocked.clock l.fn.world) →
      IsKept mail Kept (g.W.Clocked.clock l.fn.world).now →
      KnownAt made (g.W.Clocked.clock l.fn.world) (permits_in l.fn.session) (held_in l.fn.session) l.fn.player l.fn.store.book →
      AllFair mail played (g.W.Clocked.clock l.fn.world) (g.W.Clocked.clock l.world) →
      IsSyncedSoFar start (g.W.Clocked.clock l.fn.world) (held_in l.fn.session) l.fn.player l.fn.store.book →
      IsSyncedSoFar start (g.W.Clocked.clock l.world) (held_in l.at) l.player l.store.book;
  runs : g.W.Clocked.tells_files → RunsBetween
      (standing_of (g.W.Clocked.link l.fn.world) l.fn.session l.fn.store l.fn.player) (standing_of (g.W.Clocked.link l.world) l.at l.store l.player);
  each_one_side : g.W.Clocked.tells_files → EachOneSide (g.W.Clocked.clock l.fn.world) (g.W.Clocked.clock l.world);
  talks : g.W.Clocked.tells_server → Since Any TalkStep (g.W.Clocked.clock l.fn.world) (g.W.Clocked.clock l.world);
  grounds : g.W.Clocked.tells_server → Since Any (GroundStep (box_names l.fn.store.book)) (g.W.Clocked.clock l.fn.world) (g.W.Clocked.clock l.world);
  disk_count : g.W.Clocked.disk_faults l.fn.world ≤ g.W.Clocked.disk_faults l.world;
  link_count : (g.W.Clocked.link l.fn.world).faults ≤ (g.W.Clocked.link l.world).faults;
  disk_same : g.W.Clocked.disk_faults l.world ≡ g.W.Clocked.disk_faults l.fn.world;
  link_same : (g.W.Clocked.link l.world).faults ≡ (g.W.Clocked.link l.fn.world).faults;
  earlier : g.W.Clocked.tells_files → (g.W.Clocked.link l.world).earlier ≡ (g.W.Clocked.link l.fn.world).earlier;
}

abbrev pub decreases-loop-at : goal.decreases-loop-at
decreases-loop-at g l = turns_left (held_in l.at) l.player l.store.book

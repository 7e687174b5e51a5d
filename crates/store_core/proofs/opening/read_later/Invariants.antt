use Rattle.std.proofs.Common.{◌≡◌, ◌-◌, ◌^◌}
use Rattle.journal_core.specs.Reading.{OnlyLooks}
use Rattle.action_queue.specs.Book.{meaning}
use Rattle.store_core.specs.Mail.{mail}
use Rattle.store_core.specs.Reading.{ReadsBook}
use Rattle.store_core.specs.Fold.{IsMade}
use Rattle.store_core.proofs.opening.read_later.Given as goal

abbrev pub invariant-loop-more : goal.invariant-loop-more
invariant-loop-more g l =
    let clock = g.D.Clocked.clock in
    let seen = g.D.Disk.seen in
    record {
      sound : l.journal.failed ≡ l.fn.journal.failed;
      version : l.journal.version ≡ l.fn.journal.version;
      link : g.D.Clocked.link l.disk ≡ g.D.Clocked.link l.fn.disk;
      unfailed : g.D.Clocked.disk_faults l.disk ≡ g.D.Clocked.disk_faults l.fn.disk;
      looks : g.D.Clocked.tells_files → OnlyLooks (clock l.fn.disk) (clock l.disk) (seen l.fn.disk) (seen l.disk);
      made : IsMade l.fn.journal.version (meaning l.fn.book) → IsMade l.fn.journal.version (meaning l.book);
      reads : g.D.Clocked.tells_files → ReadsBook mail (meaning l.fn.book) l.fn.journal (clock l.fn.disk).now (seen l.fn.disk) →
          ReadsBook mail (meaning l.book) l.journal (clock l.disk).now (seen l.disk);
    }

abbrev pub decreases-loop-more : goal.decreases-loop-more
decreases-loop-more g l = 2 ^ 64 - l.journal.place

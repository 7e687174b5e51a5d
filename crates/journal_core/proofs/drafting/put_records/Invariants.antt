use Rattle.std.proofs.Common.{◌≡◌, ◌+◌, [], length, take, Ok}
use Rattle.world_traits.specs.declared.disk.DiskFailed.{DiskFailed}
use Rattle.journal_core.specs.Records.{records}
use Rattle.journal_core.specs.Drafts.{Gathers}
use Rattle.journal_core.specs.OneSide.{IsAside}
use Rattle.journal_core.proofs.drafting.put_records.Given as goal

abbrev pub invariant-loop-body : goal.invariant-loop-body
invariant-loop-body g l =
    let clock = g.D.Clocked.clock in
    let seen = g.D.Disk.seen in
    record {
      place : l.place + length l.piece.items ≡ l.fn.at + length (records (take l.body-index l.bodies));
      told : g.D.Clocked.tells_files → Gathers {E = DiskFailed} l.side l.fn.at [] (records (take l.body-index l.bodies)) l.piece.items
          (clock l.fn.disk) (clock l.disk) (seen l.fn.disk) (seen l.disk) (Ok l.place);
      aside : g.D.Clocked.tells_files → IsAside l.side (clock l.fn.disk) (clock l.disk);
      link : g.D.Clocked.link l.disk ≡ g.D.Clocked.link l.fn.disk;
      unfailed : g.D.Clocked.disk_faults l.disk ≡ g.D.Clocked.disk_faults l.fn.disk;
    }

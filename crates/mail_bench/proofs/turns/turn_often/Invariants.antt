use Rattle.std.proofs.Common.{◌≡◌, false}
use Rattle.store_core.specs.Mail.{mail}
use Rattle.store_core.specs.Holding.{IsAsLeft}
use Rattle.mail_bench.proofs.turns.turn_often.Given as goal

abbrev pub invariant-loop : goal.invariant-loop
invariant-loop g l = record {
  sound : l.store.journal.failed ≡ false;
  same : l.store.book ≡ l.fn.store.book;
  still : g.D.Clocked.tells_files → IsAsLeft mail l.store (g.D.Clocked.clock l.disk).now (g.D.Disk.seen l.disk);
}

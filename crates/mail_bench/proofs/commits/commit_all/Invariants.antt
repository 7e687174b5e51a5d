use Rattle.std.proofs.Common.{◌≡◌, false}
use Rattle.world_traits.specs.Memory.{state_of}
use Rattle.journal_core.specs.Sides.{version_written}
use Rattle.store_core.specs.Mail.{mail}
use Rattle.store_core.specs.Holding.{IsAsLeft}
use Rattle.mail_bench.proofs.commits.commit_all.Given as goal

abbrev pub invariant-loop : goal.invariant-loop
invariant-loop l = record {
  written : l.store.journal.version ≡ version_written;
  sound : l.store.journal.failed ≡ false;
  still : IsAsLeft mail l.store (state_of l.disk).clock.now (state_of l.disk).files;
}

use Rattle.std.proofs.Common.{◌≡◌, ◌+◌, length, take}
use Rattle.journal_core.specs.Records.{records}
use Rattle.journal_core.specs.Appending.{told_end}
use Rattle.action_queue.specs.Book.{meaning}
use Rattle.store_core.specs.Mail.{mail}
use Rattle.store_core.specs.Reading.{EntersAll}
use Rattle.store_core.specs.Fold.{IsMade}
use Rattle.store_core.proofs.opening.enter_few.Given as goal

abbrev pub invariant-loop-index : goal.invariant-loop-index
invariant-loop-index l = record {
  entered : EntersAll mail l.version (meaning l.fn.book) (take l.index l.few) (meaning l.book);
  made : IsMade l.version (meaning l.fn.book) → IsMade l.version (meaning l.book);
  there : l.place ≡ told_end (l.fn.at + length (records (take l.index l.few)));
}

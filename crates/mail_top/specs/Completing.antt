-- What is done where nothing prevents it.
use Rattle.std.specs.Prelude.{ℕ, List}
use Rattle.mail_base.specs.declared.status.Status.{Status}
use Rattle.world_traits.specs.Files.{Files}
use Rattle.journal_core.specs.Creating.{IsUnbegun}
use Rattle.mail_top.specs.Ending.{IsDone, IsTakable, IsListable}
use Rattle.mail_top.specs.Reading.{NeedsInput}
use Rattle.mail_top.specs.Runs.{AreBook}
use Rattle.mail_top.specs.Words.{Wanted, AsksAction, WritesInit, WritesRows, WritesQueue, WritesReport}

-- What is done, or memory is wanting: an action that the book takes, where no read of the input fails and an append's source shows it;
-- a journal of lawful names, where no side is begun; the rows of a mailbox of the book; the queue of a book, and its conflicts.
pub record Completes (words : List (List ℕ)) (input : List ℕ) (ShowsInput NoReadFails : Type 0) (seen : Files) (s : Status) : Type 0 where
  pub complete_action : (wanted : Wanted) → AsksAction words input wanted → NeedsInput wanted ShowsInput → IsTakable wanted seen →
      NoReadFails → IsDone s
  pub complete_init : (names : List (List ℕ)) → WritesInit words names → IsUnbegun seen → IsDone s
  pub complete_list : (name : List ℕ) → WritesRows words name → IsListable name seen → IsDone s
  pub complete_queue : WritesQueue words → AreBook seen → IsDone s
  pub complete_report : WritesReport words → AreBook seen → IsDone s

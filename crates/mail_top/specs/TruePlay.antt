-- That what `play` recorded had its reason (this client's profile of RFC 4549, section 4.2).
use Rattle.std.specs.Prelude.{Some}
use Rattle.world_traits.specs.Files.{Files}
use Rattle.world_traits.specs.Moments.{Clock, Since}
use Rattle.action_queue.specs.Book.{Meaning}
use Rattle.store_core.specs.Mail.{mail}
use Rattle.store_core.specs.Books.{HasBook}
use Rattle.store_core.specs.Steps.{Firm}
use Rattle.store_core.specs.Taking.{HasBooks}
use Rattle.play_driver.specs.TrueRecords.{RecordsTruly, StopsTruly}
use Rattle.mail_top.specs.Connecting.{SameOutside}
use Rattle.mail_top.specs.Readying.{LeavesRead}

-- a time in which a stop leaves what one at its start could have left, or the book that the files hold as read, and what isn't on the disk
-- stays
abbrev pub OnlyReadies : Files → Clock → Clock → Type 0
OnlyReadies seen old new = Since (LeavesRead old.now seen) SameOutside old new

-- Nothing more was done up to this clock; and then each stop leaves the book that the files hold as read.
pub record OpensBook (entry : Meaning) (seen : Files) (old opened : Clock) : Type 0 where
  pub opens : OnlyReadies seen old opened
  pub holds : HasBook mail entry seen
  pub leaves : HasBooks mail (Firm (Some entry)) opened.now

-- Nothing was played, since no book was made ready. Or from the book as read to the one that each stop leaves now, each intent and each
-- conflict was recorded for its reason, behind that (what is done is what the history has, by what is kept). Or so it was up to a book, and
-- the disk failed as an event that had its reason was recorded behind it: a stop leaves it or not.
pub data PlaysTruly (seen : Files) (old new : Clock) : Type 0 where
  unready : OnlyReadies seen old new → PlaysTruly seen old new
  recorded : (entry b : Meaning) (opened : Clock) → OpensBook entry seen old opened → RecordsTruly entry b opened new →
      HasBooks mail (Firm (Some b)) new.now → PlaysTruly seen old new
  cut : (entry b : Meaning) (opened : Clock) → OpensBook entry seen old opened → StopsTruly entry b opened new → PlaysTruly seen old new

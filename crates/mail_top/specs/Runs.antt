-- Runs of the program, one behind another, with stops at any of their moments.
use Rattle.std.specs.Prelude.{◌≡◌, ◌⊎◌, ℕ, List, map, Option, Some, None}
use Rattle.world_traits.specs.Files.{Files}
use Rattle.world_traits.specs.Moments.{Moment, MayLeave, Clock, OneSideAtRest, Within, restarted}
use Rattle.journal_core.specs.Creating.{IsUnbegun}
use Rattle.journal_core.specs.OneSide.{EachOneSide}
use Rattle.action_queue.specs.Book.{Meaning}
use Rattle.action_queue.specs.declared.book.Known.{Known}
use Rattle.store_core.specs.Mail.{mail}
use Rattle.store_core.specs.Books.{HasBook}
use Rattle.store_core.specs.Steps.{Books, EachBook}
use Rattle.store_core.specs.Taking.{HasBooks}
use Rattle.mail_top.specs.Course.{Course}
use Rattle.mail_top.specs.Leaving.{KeepsOn, GoesOnBy}
use Rattle.mail_top.specs.Saying.{SaysAccepted}
use Rattle.mail_top.specs.Words.{Wanted}

-- The moments of a run, or of a part of one that began at this entry: what a stop leaves at each, that one side is at rest at
-- each, and how the books go on.
pub record RunsOn (words : List (List ℕ)) (input : List ℕ) (seen : Files) (entry : Moment) (old new : Clock) : Type 0 where
  pub keeps : KeepsOn words input entry seen old new
  pub one_side : OneSideAtRest entry → EachOneSide old new
  pub books : OneSideAtRest entry → (books : Books mail) → HasBooks mail books entry → GoesOnBy words input old new

-- a run from one clock to another, and a clock on its way: its last, or one at which the run was cut off
pub record CutOff (words : List (List ℕ)) (input : List ℕ) (seen : Files) (old at new : Clock) : Type 0 where
  pub before : RunsOn words input seen old.now old at
  pub after : RunsOn words input seen old.now at new

-- The files are as they were. What isn't on the disk may be another: other clients change the server between two runs, and a
-- connection ends with its run.
pub record SameFiles (m n : Moment) : Type 0 where
  pub left : n.left ≡ m.left
  pub right : n.right ≡ m.right

-- The moments that may follow a moment: that one; the last of a run that began at such a moment and read its files, or any
-- at which the run was cut off; what is there again after a stop that left one of the images; and one with the same files,
-- since between two runs anything may happen at the server.
pub data Follows (first : Moment) : Moment → Type 0 where
  at_once : Follows first first
  by_run : (words : List (List ℕ)) → (input : List ℕ) → (seen : Files) → (old at new : Clock) → Follows first old.now → MayLeave old.now seen
      → CutOff words input seen old at new → Follows first at.now
  by_stop : (m : Moment) → (files : Files) → Follows first m → MayLeave m files → Follows first (restarted files m)
  by_others : (m n : Moment) → Follows first m → SameFiles m n → Follows first n

-- a run that begins at the moment reads these files, and its images are among those from before
pub record BeginsWith (files : Files) (before m : Moment) : Type 0 where
  pub reads : (seen : Files) → MayLeave m seen → seen ≡ files
  pub within : Within before m

-- a run that began at the moment accepted an action
pub record AcceptsAt (m : Moment) : Type 0 where
  pub wanted : Wanted
  pub course : Course
  pub text : List ℕ
  pub reads : MayLeave m course.seen
  pub is : SaysAccepted wanted course text

-- the files hold a book
pub record AreBook (files : Files) : Type 0 where
  pub book : Meaning
  pub holds : HasBook mail book files

-- no side is begun yet, or the files hold a book
abbrev pub AreUnbegunOrBook : Files → Type 0
AreUnbegunOrBook files = IsUnbegun files ⊎ AreBook files

-- the book has these mailboxes
abbrev pub HasNames : List (List ℕ) → Option Meaning → Type 0
HasNames names None = ⊥
HasNames names (Some book) = map (λ (known : Known). known.name) book.boxes ≡ names

-- One side is at rest, and the books of what a stop may leave are these.
pub record IsReady (P : Option Meaning → Type 0) (m : Moment) : Type 0 where
  pub one_side : OneSideAtRest m
  pub books : Books mail
  pub have : HasBooks mail books m
  pub each : EachBook mail P books

-- any book, or none
abbrev pub AnyBook : Option Meaning → Type 0
AnyBook book = Unit {0}

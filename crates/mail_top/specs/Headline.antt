-- What a run comes to: nothing twice, all settled, and each action once or reported (this client's profile of RFC 4549, section 4.2).
use Rattle.std.specs.Prelude.{◌≡◌, ℕ, suc, ◌≤◌, List, length, slice_get, Option, Some, None}
use Rattle.world_traits.specs.Files.{Files}
use Rattle.world_traits.specs.Moments.{Moment, Clock, Keeps, Since}
use Rattle.imap_model.specs.Ours.{ours}
use Rattle.imap_model.specs.declared.deed.Deed.{Deed}
use Rattle.action_queue.specs.Book.{Meaning}
use Rattle.action_queue.specs.Queues.{AllSettled}
use Rattle.action_queue.specs.declared.outcome.Outcome.{Outcome}
use Rattle.action_queue.specs.declared.queued.Queued.{Queued}
use Rattle.book_laws.specs.Kept.{NoneOurs}
use Rattle.book_laws.specs.Once.{AllOwned, Fits}
use Rattle.store_core.specs.Mail.{mail}
use Rattle.store_core.specs.Books.{HasBook, HoldsBook}
use Rattle.store_core.specs.Steps.{Firm}
use Rattle.store_core.specs.Taking.{HasBooks}
use Rattle.play_driver.specs.Joining.{AllFair, AnyTwo, Grows}
use Rattle.play_driver.specs.Played.{played}
use Rattle.play_driver.specs.Progress.{IsLater}

-- no action has taken effect twice: the server's history has at most one change of each
abbrev pub NoneTwice : Moment → Type 0
NoneTwice m = (n : ℕ) → length (ours n m.outside.server.history) ≤ 1

-- so it is at each moment that was added
abbrev pub NeverTwice : Clock → Clock → Type 0
NeverTwice old new = Since NoneTwice AnyTwo old new

-- so it is up to each moment to which others were fair
abbrev pub StaysOnce : Clock → Clock → Type 0
StaysOnce old new = (at : Clock) → Grows old at → Grows at new → AllFair mail played old at → NeverTwice old at

-- each change that is this client's is one that an action of the book wants; without a book none is this client's
abbrev pub Owns : Option Meaning → List Deed → Type 0
Owns None history = NoneOurs history
Owns (Some b) history = AllOwned b.queue history

-- so it is with the server's history and each book that a stop may leave
abbrev pub IsOwnedNow : Moment → Type 0
IsOwnedNow m = Keeps (λ files p. (b : Option Meaning) → HoldsBook mail b files → Owns b p.server.history) m

-- so it is at each moment that was added
abbrev pub AlwaysOwned : Clock → Clock → Type 0
AlwaysOwned old new = Since IsOwnedNow AnyTwo old new

-- The files held a book at entry. Now they hold this one, and so does each image: its actions are those from before, and each of them
-- has an outcome.
pub record Finishes (seen seen_after : Files) (m : Moment) : Type 0 where
  pub entry : Meaning
  pub read : HasBook mail entry seen
  pub book : Meaning
  pub holds : HasBook mail book seen_after
  pub leaves : HasBooks mail (Firm (Some book)) m
  pub later : IsLater entry book
  pub settled : AllSettled book.queue

-- The action has an outcome, which these changes of it fit: one where it is done, at the place that the outcome names; none where a
-- conflict says so; and else at most one.
pub record IsOnceOrReported (queued : Queued) (mine : List Deed) : Type 0 where
  pub outcome : Outcome
  pub ended : queued.outcome ≡ Some outcome
  pub fits : Fits outcome mine

-- The run finished. So it is then with each action of the book, in the server's history now; and each change that is this client's is
-- one that such an action wants.
pub record OnceOrReported (seen seen_after : Files) (m : Moment) : Type 0 where
  pub finished : Finishes seen seen_after m
  pub owned : AllOwned finished.book.queue m.outside.server.history
  pub each : (place : ℕ) (queued : Queued) → slice_get finished.book.queue place ≡ Some queued →
      IsOnceOrReported queued (ours (suc place) m.outside.server.history)

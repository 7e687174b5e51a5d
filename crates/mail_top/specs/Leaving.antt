-- What a stop may leave while a command is carried out, and how the books that it may leave go on.
use Rattle.std.specs.Prelude.{◌≡◌, ◌⊎◌, ℕ, ◌≤◌, Bool, List, Option, Some, None, ⊤}
use Rattle.world_traits.specs.Files.{Files}
use Rattle.world_traits.specs.Links.{Any}
use Rattle.world_traits.specs.Moments.{Moment, Clock, Since, Within}
use Rattle.journal_core.specs.declared.version.Version.{Version}
use Rattle.action_queue.specs.Book.{Meaning}
use Rattle.action_queue.specs.declared.action.Action.{Action}
use Rattle.action_queue.specs.declared.event.Event.{Event}
use Rattle.action_queue.specs.declared.event.Event.TheVariants as events
use Rattle.action_queue.specs.declared.outcome.Outcome.{Outcome}
use Rattle.journal_core.specs.Limits.{max_accepted}
use Rattle.store_core.specs.Mail.{mail}
use Rattle.store_core.specs.Books.{HasBook}
use Rattle.store_core.specs.HeldActions.{IsHeld}
use Rattle.store_core.specs.Steps.{Books, Begins, MakesFirm, Chooses}
use Rattle.store_core.specs.Taking.{HasBooks, IsTaking, IsCreating}
use Rattle.play_driver.specs.Progress.{IsPlayEvent, IsPlaying}
use Rattle.mail_top.specs.Actions.{next_id, accepts}
use Rattle.mail_top.specs.Course.{end_behind}
use Rattle.mail_top.specs.Readying.{LeavesRead}
use Rattle.mail_top.specs.Weighing.{Admits}
use Rattle.mail_top.specs.Words.{Wanted, Request, Init, Act, Rows, Queue, Report, Play, Asks}

-- Each image holds the book that was read, or the one with the action that is asked for behind the others: the book admits
-- it, and there is room for it.
pub record IsAdding (wanted : Wanted) (seen : Files) (m : Moment) : Type 0 where
  pub book : Meaning
  pub holds : HasBook mail book seen
  pub action : Action
  pub admits : Admits wanted book (next_id book) action
  pub room : end_behind holds (accepts book action) ≤ max_accepted
  pub taking : IsTaking mail (Some book) (accepts book action) m

-- Each image holds the book that was read, or one further on: none of its actions is gone, and each outcome that was there stands.
pub record IsPlayingRead (seen : Files) (m : Moment) : Type 0 where
  pub book : Meaning
  pub holds : HasBook mail book seen
  pub playing : IsPlaying book m

-- What a stop leaves while this is carried out: what a stop at entry could have left; or no journal, or the book of the names
-- that are asked for; or the book that was read, also while its journal is taken over, with the action that is asked for or without it, or further
-- on.
abbrev pub MayBeLeft : Request → Moment → Files → Moment → Type 0
MayBeLeft (Init names) entry seen m = IsCreating mail (events.Begin names) entry m
MayBeLeft (Act wanted) entry seen m = LeavesRead entry seen m ⊎ IsAdding wanted seen m
MayBeLeft (Rows name) entry seen m = Within entry m
MayBeLeft Queue entry seen m = Within entry m
MayBeLeft Report entry seen m = Within entry m
MayBeLeft Play entry seen m = Within entry m ⊎ IsPlayingRead seen m

-- the same of what the words and the input ask for
pub record OnTheWay (words : List (List ℕ)) (input : List ℕ) (entry : Moment) (seen : Files) (m : Moment) : Type 0 where
  pub request : Request
  pub asks : Asks words input request
  pub leaves : MayBeLeft request entry seen m

-- no action that all images hold is lost: each stays at its place, and with its outcome
pub record LosesNone (m n : Moment) : Type 0 where
  pub held : (place : ℕ) (action : Action) (named : Option Outcome) → IsHeld place action named m → IsHeld place action named n

-- what isn't on the disk stays, unless it is played: then the link is called
abbrev pub StaysOutside : Request → Moment → Moment → Type 0
StaysOutside (Init names) m n = n.outside ≡ m.outside
StaysOutside (Act wanted) m n = n.outside ≡ m.outside
StaysOutside (Rows name) m n = n.outside ≡ m.outside
StaysOutside Queue m n = n.outside ≡ m.outside
StaysOutside Report m n = n.outside ≡ m.outside
StaysOutside Play m n = ⊤

-- a step of what is asked for, whatever is known of the books
pub record KeepsStep (request : Request) (m n : Moment) : Type 0 where
  pub loses_none : LosesNone m n
  pub outside : StaysOutside request m n

-- the same for what the words and the input ask for
pub record WordsKeep (words : List (List ℕ)) (input : List ℕ) (m n : Moment) : Type 0 where
  pub request : Request
  pub asks : Asks words input request
  pub step : KeepsStep request m n

-- the event that may be begun for a request, on a book or on none
abbrev pub IsDue : Request → Option Meaning → Event → Type 0
IsDue (Init names) book event = (book ≡ None) × (event ≡ events.Begin names)
IsDue (Act wanted) None event = ⊥
IsDue (Act wanted) (Some b) event = (action : Action) × Admits wanted b (next_id b) action × (event ≡ accepts b action)
IsDue (Rows name) book event = ⊥
IsDue Queue book event = ⊥
IsDue Report book event = ⊥
IsDue Play book event = IsPlayEvent event

-- an event that is due for the request is begun
pub record BeginsDue (request : Request) (old new : Books mail) : Type 0 where
  pub version : Version
  pub event : Event
  pub begins : Begins mail version event old new
  pub due : IsDue request begins.book event

-- From one moment to the next the books stay, or an event that the request asks for is begun, or made firm, or one of two is
-- chosen.
pub record RequestStep (request : Request) (m n : Moment) : Type 0 where
  pub old : Books mail
  pub new : Books mail
  pub at_old : HasBooks mail old m
  pub at_new : HasBooks mail new n
  pub step : (new ≡ old) ⊎ BeginsDue request old new ⊎ MakesFirm mail old new ⊎ ((first : Bool) × Chooses mail first old new)
  pub outside : StaysOutside request m n

-- the same for what the words and the input ask for
pub record WordsStep (words : List (List ℕ)) (input : List ℕ) (m n : Moment) : Type 0 where
  pub request : Request
  pub asks : Asks words input request
  pub step : RequestStep request m n

-- The moments of a run: at each a stop leaves what the words ask for, and no step loses an action that all images hold, or
-- touches more than the words ask for.
abbrev pub KeepsOn : List (List ℕ) → List ℕ → Moment → Files → Clock → Clock → Type 0
KeepsOn words input entry seen old new = Since (OnTheWay words input entry seen) (WordsKeep words input) old new

-- and from each moment to the next the books go on as the words ask
abbrev pub GoesOnBy : List (List ℕ) → List ℕ → Clock → Clock → Type 0
GoesOnBy words input old new = Since Any (WordsStep words input) old new

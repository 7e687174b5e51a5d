-- What a stop may leave while a book's actions are played back (this client's profile of RFC 4549, section 4.2).
use Rattle.std.specs.Prelude.{◌≡◌, ◌≢◌, ◌⊎◌, ℕ, Bool, true, false, List, [], ◌∷◌, None, Some, bytes_eq, cond, map, slice_get}
use Rattle.action_queue.specs.Book.{Meaning}
use Rattle.action_queue.specs.declared.action.Action.{Action}
use Rattle.action_queue.specs.declared.book.Known.{Known}
use Rattle.action_queue.specs.declared.event.Event.{Event}
use Rattle.action_queue.specs.declared.event.Event.TheVariants as events
use Rattle.action_queue.specs.declared.queued.Queued.{Queued}
use Rattle.journal_core.specs.declared.version.Version.{Version}
use Rattle.store_core.specs.Books.{HasBook}
use Rattle.store_core.specs.Mail.{mail}
use Rattle.store_core.specs.Steps.{Books, Begins, MakesFirm}
use Rattle.store_core.specs.Taking.{HasBooks}
use Rattle.world_traits.specs.Files.{Files}
use Rattle.world_traits.specs.Moments.{Moment, Clock, Images, Since}

-- the names of a book's mailboxes, in their order
abbrev pub box_names : Meaning → List (List ℕ)
box_names b = map (λ (k : Known). k.name) b.boxes

-- this is one of the names
abbrev pub has_name : List ℕ → List (List ℕ) → Bool
has_name name [] = false
has_name name (n ∷ names) = cond (bytes_eq n name) true (has_name name names)

-- the actions of a book, in their order
abbrev pub actions_of : Meaning → List Action
actions_of b = map (λ (q : Queued). q.action) b.queue

-- what playback records: an intent, an outcome, what was told of a mailbox, or that a mailbox's cache is taken away
abbrev pub IsPlayEvent : Event → Type 0
IsPlayEvent (events.Begin names) = ⊥
IsPlayEvent (events.Accept id action) = ⊥
IsPlayEvent (events.Intend id intent) = Unit {0}
IsPlayEvent (events.Settle id outcome) = Unit {0}
IsPlayEvent (events.Learn name delta) = Unit {0}
IsPlayEvent (events.Old id action outcome) = ⊥
IsPlayEvent (events.Reset name kept told) = Unit {0}
IsPlayEvent (events.Withdraw id tries) = Unit {0}

-- One book is the other, further on: it has the same mailboxes and the same actions, and each outcome that was there stands.
pub record IsLater (b c : Meaning) : Type 0 where
  pub names : box_names c ≡ box_names b
  pub actions : actions_of c ≡ actions_of b
  pub outcomes : (i : ℕ) (q : Queued) → slice_get b.queue i ≡ Some q → q.outcome ≢ None → slice_get c.queue i ≡ Some q

-- the files hold this book, or one further on
pub record HoldsLater (b : Meaning) (files : Files) : Type 0 where
  pub book : Meaning
  pub holds : HasBook mail book files
  pub later : IsLater b book

-- so does each image of a moment
abbrev pub IsPlaying : Meaning → Moment → Type 0
IsPlaying b m = Images (HoldsLater b) m

-- an event of playback is begun
pub record BeginsPlay (old new : Books mail) : Type 0 where
  pub version : Version
  pub event : Event
  pub of_play : IsPlayEvent event
  pub begins : Begins mail version event old new

-- From one moment to the next the books stay, or an event of playback is begun, or made firm.
pub record PlayStep (m n : Moment) : Type 0 where
  pub old : Books mail
  pub new : Books mail
  pub at_old : HasBooks mail old m
  pub at_new : HasBooks mail new n
  pub step : (new ≡ old) ⊎ BeginsPlay old new ⊎ MakesFirm mail old new

-- the moments of a time in which a book is played back, and nothing else is done with it
abbrev pub Progresses : Meaning → Clock → Clock → Type 0
Progresses b old new = Since (IsPlaying b) PlayStep old new

-- What a stop can't take from a book: the actions, with their outcomes, that each image of a moment has.
use Rattle.std.specs.Prelude.{◌≡◌, ℕ, slice_get, Option, Some, None, ⊤}
use Rattle.world_traits.specs.Files.{Files}
use Rattle.world_traits.specs.Moments.{Moment, Images}
use Rattle.action_queue.specs.declared.action.Action.{Action}
use Rattle.action_queue.specs.declared.outcome.Outcome.{Outcome}
use Rattle.action_queue.specs.declared.queued.Queued.{Queued}
use Rattle.action_queue.specs.Book.{Meaning}
use Rattle.store_core.specs.Mail.{mail}
use Rattle.store_core.specs.Books.{HasBook}

-- the outcome is this one, where one is named
abbrev pub IsNamed : Option Outcome → Option Outcome → Type 0
IsNamed None outcome = ⊤
IsNamed (Some named) outcome = outcome ≡ Some named

-- the book has this action at this place, counted from 0, with this outcome where one is named
pub record HasAction (place : ℕ) (action : Action) (named : Option Outcome) (book : Meaning) : Type 0 where
  pub queued : Queued
  pub there : slice_get book.queue place ≡ Some queued
  pub asked : queued.action ≡ action
  pub ended : IsNamed named queued.outcome

-- the files hold a book that has it
pub record HoldsAction (place : ℕ) (action : Action) (named : Option Outcome) (files : Files) : Type 0 where
  pub book : Meaning
  pub holds : HasBook mail book files
  pub has : HasAction place action named book

-- each image of the moment does
abbrev pub IsHeld : ℕ → Action → Option Outcome → Moment → Type 0
IsHeld place action named m = Images (HoldsAction place action named) m

-- A step of the disk: what is held stays held, and what isn't on the disk stays.
pub record KeepsActions (m n : Moment) : Type 0 where
  pub held : (place : ℕ) (action : Action) (named : Option Outcome) → IsHeld place action named m → IsHeld place action named n
  pub outside : n.outside ≡ m.outside

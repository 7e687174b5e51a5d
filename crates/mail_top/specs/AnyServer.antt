-- What is so of a run whatever the server sends: the journal stays whole, and of each try of an action one command is sent at most.
use Rattle.std.specs.Prelude.{ℕ, Option}
use Rattle.world_traits.specs.Files.{Files}
use Rattle.world_traits.specs.Moments.{Moment, Clock, Images, Since}
use Rattle.world_traits.specs.declared.clocked.Clocked.{Ghosts}
use Rattle.action_queue.specs.Book.{Meaning}
use Rattle.action_queue.specs.declared.action.Action.{Action}
use Rattle.action_queue.specs.declared.outcome.Outcome.{Outcome}
use Rattle.store_core.specs.Mail.{mail}
use Rattle.store_core.specs.Books.{HasBook}
use Rattle.store_core.specs.HeldActions.{HasAction, IsHeld}
use Rattle.play_driver.specs.Joining.{AnyTwo}
use Rattle.play_driver.specs.SendsOnce.{SendsOnce}
use Rattle.mail_top.specs.Runs.{AreBook}

-- each image holds a lawful book
abbrev pub IsWhole : Moment → Type 0
IsWhole m = Images AreBook m

-- The files hold a lawful book. Its queue begins with the actions that all images of the entry hold, each at its place; and the outcomes
-- that these have there stand.
pub record HoldsOn (entry : Moment) (files : Files) : Type 0 where
  pub book : Meaning
  pub holds : HasBook mail book files
  pub begins : (place : ℕ) (action : Action) (named : Option Outcome) → IsHeld place action named entry → HasAction place action named book

-- so it is with each image of each moment since entry
abbrev pub StaysWhole : Clock → Clock → Type 0
StaysWhole old new = Since (Images (HoldsOn old.now)) AnyTwo old new

-- A run whatever the link gives: where each image of the entry held a lawful book, the journal stays whole; and the command of each action is
-- sent at most once. Nothing is asked of the server, nor of other clients.
pub record StandsAny {Self : Type 0} (W : Ghosts Self) (old new : Self) : Type 0 where
  pub whole : IsWhole (W.clock old).now → StaysWhole (W.clock old) (W.clock new)
  pub once : SendsOnce (W.link old) (W.link new)

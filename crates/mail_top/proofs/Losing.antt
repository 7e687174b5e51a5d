-- No step of a command's books loses an action, or an outcome, that every image holds.
use Rattle.std.proofs.Common.{ℕ, Option, Some, None}
use Rattle.world_traits.specs.Files.{Files}
use Rattle.world_traits.specs.Moments.{Moment, Images}
use Rattle.journal_core.specs.declared.version.Version.{Version}
use Rattle.action_queue.specs.Book.{Meaning}
use Rattle.action_queue.specs.Events.{next_book}
use Rattle.action_queue.specs.declared.action.Action.{Action}
use Rattle.action_queue.specs.declared.event.Event.{Event}
use Rattle.action_queue.specs.declared.outcome.Outcome.{Outcome}
use Rattle.store_core.specs.Mail.{mail, MayCome}
use Rattle.store_core.specs.Books.{HoldsBook}
use Rattle.store_core.specs.HeldActions.{HasAction, HoldsAction, IsHeld}
use Rattle.store_core.proofs.Holds.{has_later}
use Rattle.mail_top.specs.Leaving.{IsDue, LosesNone, RequestStep}
use Rattle.mail_top.specs.Words.{Request}
use Rattle.mail_top.proofs.Repeated.{Held, each_of, images_of, step_has}

module _ (place : ℕ) (action : Action) (named : Option Outcome) where
  -- there is a book, which has the action
  abbrev Has : Option Meaning → Type 0
  Has None = ⊥
  Has (Some b) = HasAction place action named b

  has_next : (request : Request) (v : Version) (b : Option Meaning) (e : Event) → MayCome v b e → IsDue request b e → Has b →
      Has (Some (next_book b e))
  has_next request v None e may due has = absurd has
  has_next request v (Some b) e may due has = has_later place action named b e has

  as_held : (m : Moment) → IsHeld place action named m → Images (Held Has has_next) m
  as_held m held = record {
    each = λ files h. let there = held.each files h in record { book = Some there.book; holds = there.holds; has = there.has };
  }

  in_files : (files : Files) (b : Option Meaning) → HoldsBook mail b files → Has b → HoldsAction place action named files
  in_files files None holds has = absurd has
  in_files files (Some b) holds has = record { book = b; holds = holds; has = has }

  held_on : (request : Request) (m n : Moment) → RequestStep request m n → IsHeld place action named m → IsHeld place action named n
  held_on request m n s held =
      let each = each_of Has has_next s.old m s.at_old (as_held m held) in
      let now = images_of Has has_next s.new n s.at_new (step_has Has has_next request m n s each) in
      record { each = λ files h. let there = now.each files h in in_files files there.book there.holds there.has }

pub loses_none : (request : Request) (m n : Moment) → RequestStep request m n → LosesNone m n
loses_none request m n s = record { held = λ place action named held. held_on place action named request m n s held }

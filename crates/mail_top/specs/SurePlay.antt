-- How surely the actions of a `play` end (this client's profile of RFC 4549, section 4.2).
use Rattle.world_traits.specs.Files.{Files}
use Rattle.action_queue.specs.Book.{Meaning}
use Rattle.store_core.specs.Mail.{mail}
use Rattle.store_core.specs.Books.{HasBook}
use Rattle.play_driver.specs.Surely.{EndSurely}

-- Where the files held a book, and hold one now: no action ended as unsure meanwhile but the one whose intent was pending.
pub record EndsSurely (seen seen_after : Files) : Type 0 where
  pub surely : (entry book : Meaning) → HasBook mail entry seen → HasBook mail book seen_after → EndSurely entry book

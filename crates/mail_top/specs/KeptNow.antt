-- A time in which no action takes effect twice (this client's profile of RFC 4549, section 4.2).
use Rattle.book_laws.specs.Kept.{Kept}
use Rattle.world_traits.specs.Moments.{Moment, Clock}
use Rattle.store_core.specs.Mail.{mail}
use Rattle.play_driver.specs.Joining.{IsKept, StaysJoined}
use Rattle.play_driver.specs.Played.{played}

-- each image holds a book, or none, that is kept beside the server
abbrev pub IsKeptNow : Moment → Type 0
IsKeptNow m = IsKept mail Kept m

-- Where others are fair, each moment that is added is kept, and joined to the one before it by one step of the book beside the
-- server.
abbrev pub StaysKept : Clock → Clock → Type 0
StaysKept old new = StaysJoined mail Kept played old new

-- Where the first run begins (this client's profile of RFC 4549, section 4.2).
use Rattle.std.specs.Prelude.{[]}
use Rattle.world_traits.specs.Files.{Files}
use Rattle.world_traits.specs.Moments.{Moment, Rests}
use Rattle.book_laws.specs.Kept.{KeptBefore}

-- two files without a byte
abbrev pub empty : Files
empty = record { left = []; right = [] }

-- Both files are new: they have no byte, and nothing waits to be written. The server's mailboxes are well formed, none of the changes
-- in its history is this client's, and no command that changes a mailbox waits.
pub record FromNothing (m : Moment) : Type 0 where
  pub files : Rests m empty
  pub server : KeptBefore m.outside.server m.outside.waiting

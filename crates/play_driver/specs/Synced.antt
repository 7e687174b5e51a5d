-- A cache that is the server's as it was when the mailbox was last read (RFC 7162, section 3.2.5).
use Rattle.std.specs.Prelude.{◌≡◌, ◌⊎◌, ℕ, List, Option, Some}
use Rattle.imap_model.specs.Carrying.{Waiting}
use Rattle.imap_model.specs.Lookups.{box_at}
use Rattle.imap_model.specs.declared.command.Command.TheVariants as commands
use Rattle.imap_model.specs.declared.ending.Ending.TheVariants as endings
use Rattle.imap_model.specs.declared.mark.Mark.{Mark}
use Rattle.imap_model.specs.declared.replies.Replies.{Replies}
use Rattle.imap_model.specs.declared.response.Response.{Response}
use Rattle.imap_model.specs.declared.server.Mailbox.{Mailbox}
use Rattle.mailbox_cache.specs.Rows.{row_at}
use Rattle.mailbox_cache.specs.declared.cache.Cache.{Cache}
use Rattle.action_queue.specs.Book.{Meaning, cache_at}
use Rattle.qresync_core.specs.Fresh.{server_row}
use Rattle.imap_session.specs.Knowing.{Tells}
use Rattle.world_traits.specs.Links.{Any}
use Rattle.world_traits.specs.Moments.{Moment, Clock, Since, tick}
use Rattle.play_driver.specs.Joining.{Grows}

-- the cache has the UIDVALIDITY and the rows that the mailbox of this name has at this moment
pub record IsLevel (name : List ℕ) (cache : Cache) (m : Moment) : Type 0 where
  pub box : Mailbox
  pub there : box_at name m.outside.server.boxes ≡ Some box
  pub validity : cache.validity ≡ box.validity
  pub rows : (uid : ℕ) → row_at uid cache.rows ≡ server_row uid box

-- the command asks for the rows of the mailbox of this name: SELECT, or the FETCH of all rows while it is selected
abbrev pub AsksRows : List ℕ → Waiting → Type 0
AsksRows name w = ((since : Option Mark) × (w.command ≡ commands.Select name since)) ⊎ ((w.selected ≡ Some name) × (w.command ≡ commands.FetchAll))

-- from one moment to the next such a command was carried out and answered by OK
pub record IsRead (name : List ℕ) (m n : Moment) : Type 0 where
  pub asked : Waiting
  pub rows : AsksRows name asked
  pub replies : Replies
  pub accepted : replies.ending ≡ endings.Ok
  pub selects : Option (List ℕ)
  pub told : List Response
  pub tells : Tells asked told replies selects m.outside n.outside

-- so the mailbox was read, and the cache is the server's as it was then
pub record IsReadAt (name : List ℕ) (cache : Cache) (m n : Moment) : Type 0 where
  pub read : IsRead name m n
  pub level : IsLevel name cache m

-- the mailbox isn't read from one moment to the next
abbrev pub IsNotRead : List ℕ → Moment → Moment → Type 0
IsNotRead name m n = IsRead name m n → ⊥

-- The mailbox was read at a step of this time, and at none behind it; and the cache is the server's as it was then.
pub record IsLastRead (name : List ℕ) (cache : Cache) (old new : Clock) : Type 0 where
  pub at : Clock
  pub to : Moment
  pub before : Grows old at
  pub is : IsReadAt name cache at.now to
  pub after : Since Any (IsNotRead name) (tick at to) new

-- the book has a cache of this name, which is the server's as it answered for its rows at the last such moment of this time
pub record IsSynced (name : List ℕ) (b : Meaning) (old new : Clock) : Type 0 where
  pub cache : Cache
  pub there : cache_at name b.boxes ≡ Some cache
  pub level : IsLastRead name cache old new

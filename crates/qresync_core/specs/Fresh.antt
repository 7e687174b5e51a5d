-- What a cache keeps true of its mailbox, whatever happens there (RFC 7162, sections 3.1 and 3.2.5).
use Rattle.std.specs.Prelude.{◌≡◌, ℕ, ◌≤◌, Option, Some, None}
use Rattle.std.specs.Option.{option_map}
use Rattle.mailbox_cache.specs.Rows.{row_at}
use Rattle.mailbox_cache.specs.declared.cache.Cache.{Cache}
use Rattle.mailbox_cache.specs.declared.row.Row.{Row}
use Rattle.imap_model.specs.Evolving.{IsAbove}
use Rattle.imap_model.specs.Lookups.{message_at, gone_at}
use Rattle.imap_model.specs.ToldRows.{told_flags}
use Rattle.imap_model.specs.declared.server.Mailbox.{Mailbox}
use Rattle.imap_model.specs.declared.server.Message.{Message}

-- the row that a client keeps of a message
abbrev pub kept_row : Message → Row
kept_row message = record { flags = told_flags message.flags; modseq = message.modseq }

-- the row that a UID has at the server
abbrev pub server_row : ℕ → Mailbox → Option Row
server_row uid box = option_map kept_row (message_at uid box.messages)

-- The cache knows the mailbox up to its mark, if both have one UIDVALIDITY: a message that didn't change above the mark has its row
-- in the cache, and a cached message that isn't there went above the mark.
pub record FreshFacts (cache : Cache) (box : Mailbox) : Type 0 where
  pub highest : cache.highest ≤ box.highest
  pub rows : (uid : ℕ) (message : Message) → message_at uid box.messages ≡ Some message → message.modseq ≤ cache.highest
      → row_at uid cache.rows ≡ Some (kept_row message)
  pub gone : (uid : ℕ) (row : Row) → row_at uid cache.rows ≡ Some row → message_at uid box.messages ≡ None
      → IsAbove cache.highest (gone_at uid box.gone)

-- The cache is of the mailbox's UIDVALIDITY, and knows the mailbox up to its mark.
pub record IsFresh (cache : Cache) (box : Mailbox) : Type 0 where
  pub validity : cache.validity ≡ box.validity
  pub facts : FreshFacts cache box

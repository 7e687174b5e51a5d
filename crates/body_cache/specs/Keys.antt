-- The keys of a mailbox's messages, as a book has them.
use Rattle.std.specs.Prelude.{ℕ, List, [], map, Option, Some, None, is_some, Result, Ok, Err, if◌then◌else◌}
use Rattle.action_queue.specs.Book.{Meaning, known_at}
use Rattle.action_queue.specs.declared.book.Known.{Known}
use Rattle.mailbox_cache.specs.Rows.{row_at}
use Rattle.mailbox_cache.specs.declared.cache.Cache.{Cache}
use Rattle.mailbox_cache.specs.declared.row.Row.{Row}
use Rattle.body_cache.specs.declared.key.Key.{Key}
use Rattle.body_cache.specs.declared.keys.Cached.{Cached}
use Rattle.body_cache.specs.declared.reading.ReadReason.{ReadReason}
use Rattle.body_cache.specs.declared.reading.ReadReason.TheVariants as reasons

-- the key of a message of this cache, if it has one
abbrev pub key_of : List ℕ → ℕ → Option Cache → Result Key ReadReason
key_of name uid None = Err reasons.NoMessage
key_of name uid (Some cache) =
    if is_some (row_at uid cache.rows) then Ok (record { name = name; validity = cache.validity; uid = uid }) else Err reasons.NoMessage

abbrev pub key_known : List ℕ → ℕ → Option Known → Result Key ReadReason
key_known name uid None = Err reasons.NoMailbox
key_known name uid (Some known) = key_of name uid known.cache

-- the key of a message of a mailbox: the mailbox is one of the book's, and its cache has the message
abbrev pub key_in : Meaning → List ℕ → ℕ → Result Key ReadReason
key_in b name uid = key_known name uid (known_at name b.boxes)

-- the UIDs of these rows, in their order
abbrev pub uids_of : List (ℕ × Row) → List ℕ
uids_of rows = map (λ row. row.0) rows

-- what a cache has, if there is one
abbrev pub cached_of : Option Cache → Cached
cached_of None = record { validity = None; uids = [] }
cached_of (Some cache) = record { validity = Some cache.validity; uids = uids_of cache.rows }

abbrev pub cached_known : Option Known → Option Cached
cached_known None = None
cached_known (Some known) = Some (cached_of known.cache)

-- the messages of a mailbox that its cache has, where the mailbox is one of the book's
abbrev pub cached_in : Meaning → List ℕ → Option Cached
cached_in b name = cached_known (known_at name b.boxes)

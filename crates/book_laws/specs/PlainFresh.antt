-- A plain program for `Fresh`: it looks at each message and at each row (RFC 7162, sections 3.1 and 3.2.5).
use Rattle.std.specs.Prelude.{ℕ, Bool, true, false, not, ◌&&◌, ◌||◌, ◌==◌, nat_le, nat_lt, is_some, List, Option, Some, None}
use Rattle.std.specs.Cmp.Lexicographic.{pointwise}
use Rattle.std.specs.List.{list_all}
use Rattle.std.specs.Str.{bytes_eq}
use Rattle.mailbox_cache.specs.Rows.{row_at}
use Rattle.mailbox_cache.specs.declared.cache.Cache.{Cache}
use Rattle.mailbox_cache.specs.declared.row.Row.{Row}
use Rattle.imap_model.specs.Lookups.{box_at, message_at, gone_at}
use Rattle.imap_model.specs.declared.server.Message.{Message}
use Rattle.imap_model.specs.declared.server.Mailbox.{Mailbox}
use Rattle.qresync_core.specs.Fresh.{kept_row}
use Rattle.action_queue.specs.Book.{Meaning, cache_at}
use Rattle.action_queue.specs.declared.book.Known.{Known}
use Rattle.book_laws.specs.PlainOpen.{holds_in}

abbrev pub is_row : Row → Option Row → Bool
is_row row None = false
is_row row (Some other) = pointwise bytes_eq other.flags row.flags && (other.modseq == row.modseq)

abbrev pub went_above : ℕ → Option ℕ → Bool
went_above mark None = false
went_above mark (Some modseq) = nat_lt mark modseq

-- a message that didn't change above the mark has its row
abbrev pub knows_message : Cache → Message → Bool
knows_message cache m = not (nat_le m.modseq cache.highest) || is_row (kept_row m) (row_at m.uid cache.rows)

-- the message of a row's UID is there, or went above the mark
abbrev pub accounts_for_uid : Cache → Mailbox → ℕ → Bool
accounts_for_uid cache box uid = is_some (message_at uid box.messages) || went_above cache.highest (gone_at uid box.gone)

abbrev pub accounts_for : Cache → Mailbox → ℕ × Row → Bool
accounts_for cache box r = accounts_for_uid cache box r.0

abbrev pub is_fresh : Cache → Mailbox → Bool
is_fresh cache box = nat_le cache.highest box.highest && (list_all (knows_message cache) box.messages && list_all (accounts_for cache box) cache.rows)

abbrev pub fresh_for : List ℕ → List Mailbox → Option Cache → Bool
fresh_for name boxes None = true
fresh_for name boxes (Some cache) = holds_in (is_fresh cache) cache.validity (box_at name boxes)

-- so it is with what a book knows under these names
abbrev pub fresh_among : Meaning → List Mailbox → List Known → Bool
fresh_among b boxes known = list_all (λ (k : Known). fresh_for k.name boxes (cache_at k.name b.boxes)) known

abbrev pub fresh_holds : Meaning → List Mailbox → Bool
fresh_holds b boxes = fresh_among b boxes b.boxes

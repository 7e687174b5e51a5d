-- The view of a mailbox: its cached messages by UID, and behind them the messages that unsettled actions put into it, by number
-- (this client's profile).
use Rattle.std.specs.Prelude.{ℕ, suc, Bool, true, false, ◌==◌, List, [], ◌∷◌, ◌++◌, Option, Some, None}
use Rattle.std.specs.List.{flat_map, list_any}
use Rattle.mailbox_cache.specs.declared.cache.Cache.{Cache}
use Rattle.mailbox_cache.specs.declared.row.Row.{Row}
use Rattle.action_queue.specs.Book.{Meaning, cache_at}
use Rattle.action_queue.specs.declared.outcome.Outcome.{Outcome}
use Rattle.action_queue.specs.declared.queued.Queued.{Queued}
use Rattle.dummy_ids.specs.Places.{makes_into}
use Rattle.local_view.specs.Sights.{Sight, Sights, seen}
use Rattle.local_view.specs.declared.message.Message.TheVariants as message
use Rattle.local_view.specs.declared.seen.Ident.{Ident}
use Rattle.local_view.specs.declared.seen.Ident.TheVariants as ident
use Rattle.local_view.specs.declared.seen.Seen.{Seen}

-- the row of a message that is there
abbrev pub listed : Ident → Option Sight → List Seen
listed id None = []
listed id (Some sight) = record { id = id; modseq = sight.modseq; flags = sight.flags } ∷ []

-- of the cached messages those that are there, by UID
abbrev pub listed_row : Sights → List ℕ → (ℕ × Row) → List Seen
listed_row sights name r = listed (ident.Real r.0) (sights (message.Cached name r.0))

abbrev pub listed_rows : Sights → List ℕ → Option Cache → List Seen
listed_rows sights name None = []
listed_rows sights name (Some cache) = flat_map (listed_row sights name) cache.rows

-- an unsettled action that puts a message into the mailbox has a row where the message is there
abbrev pub listed_made : Sights → ℕ → Bool → Option Outcome → List Seen
listed_made sights n false outcome = []
listed_made sights n true (Some outcome) = []
listed_made sights n true None = listed (ident.Dummy n) (sights (message.Made n))

-- the messages that these actions put into the mailbox, by number; the first is action n
abbrev pub listed_dummies : Sights → List ℕ → ℕ → List Queued → List Seen
listed_dummies sights name n [] = []
listed_dummies sights name n (q ∷ qs) = listed_made sights n (makes_into name q.action) q.outcome ++ listed_dummies sights name (suc n) qs

-- the view of a mailbox
abbrev pub view : Meaning → List ℕ → List Seen
view b name = listed_rows (seen b) name (cache_at name b.boxes) ++ listed_dummies (seen b) name 1 b.queue

-- whether both name one message
abbrev pub is_ident : Ident → Ident → Bool
is_ident (ident.Real uid) (ident.Real other) = uid == other
is_ident (ident.Real uid) (ident.Dummy n) = false
is_ident (ident.Dummy n) (ident.Real uid) = false
is_ident (ident.Dummy n) (ident.Dummy m) = n == m

-- whether the row is this message's
abbrev pub shows : Ident → Seen → Bool
shows id row = is_ident id row.id

-- whether one of the rows is this message's
abbrev pub has_row : Ident → List Seen → Bool
has_row id rows = list_any (shows id) rows

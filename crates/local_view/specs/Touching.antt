-- What is seen by the cached rows and what the actions so far left of them: the rows that no action touched are as they were (this
-- client's profile).
use Rattle.std.specs.Prelude.{◌≡◌, ℕ, suc, cond, List, [], ◌∷◌, bytes_eq, Option, Some, None}
use Rattle.std.specs.BTreeMap.{get}
use Rattle.std.specs.Option.{option_map}
use Rattle.std.specs.Ordering.{nat_cmp, ordering_then}
use Rattle.std.specs.declared.cmp.Ordering.{Ordering}
use Rattle.mailbox_cache.specs.declared.row.Row.{Row}
use Rattle.action_queue.specs.Book.{cache_at}
use Rattle.action_queue.specs.declared.book.Known.{Known}
use Rattle.local_view.specs.Sights.{Sight, Sights, sight_of, dummy, row_in, with_flags}
use Rattle.local_view.specs.declared.message.Message.TheVariants as message
use Rattle.local_view.specs.Listing.{listed}
use Rattle.local_view.specs.declared.message.Message.{Message}
use Rattle.local_view.specs.declared.seen.Ident.TheVariants as ident
use Rattle.local_view.specs.declared.seen.Seen.{Seen}
use Rattle.local_view.specs.declared.touched.Touched.{Touched}

-- the place of the first mailbox of a name, where the list begins at place n
abbrev pub place_from : ℕ → List ℕ → List Known → Option ℕ
place_from n name [] = None
place_from n name (k ∷ ks) = cond (bytes_eq k.name name) (Some n) (place_from (suc n) name ks)

abbrev pub place_of : List ℕ → List Known → Option ℕ
place_of name boxes = place_from 0 name boxes

-- a mailbox's place, and a UID in it
abbrev pub key_order : (ℕ × ℕ) → (ℕ × ℕ) → Ordering
key_order a b = ordering_then (nat_cmp a.0 b.0) (nat_cmp a.1 b.1)

-- what is kept of a cached message: nothing, that it is gone, or its flags as they are now
abbrev pub kept_at : Touched → Option ℕ → ℕ → Option (Option (List (List ℕ)))
kept_at touched None uid = None
kept_at touched (Some at) uid = get key_order touched.cached (at, uid)

-- a cached row by what is kept of it
abbrev pub left_of : Option (Option (List (List ℕ))) → Row → Option Sight
left_of None row = Some (sight_of row)
left_of (Some None) row = None
left_of (Some (Some flags)) row = Some (record { modseq = Some row.modseq; flags = flags })

abbrev pub left_in : Option (Option (List (List ℕ))) → Option Row → Option Sight
left_in kept None = None
left_in kept (Some row) = left_of kept row

-- the row of a cached message that is still there
abbrev pub left_row : Touched → ℕ → (ℕ × Row) → List Seen
left_row touched at r = listed (ident.Real r.0) (left_of (kept_at touched (Some at) r.0) r.1)

-- what was seen of a cached message, once this is kept of it
abbrev pub left_as : Option (List (List ℕ)) → Option Sight → Option Sight
left_as left None = None
left_as None (Some sight) = None
left_as (Some flags) (Some sight) = Some (with_flags flags sight)

-- the cached rows with what the actions so far left of them, and the messages that they made
abbrev pub seen_so_far : List Known → Touched → Sights
seen_so_far boxes touched (message.Cached name uid) = left_in (kept_at touched (place_of name boxes) uid) (row_in uid (cache_at name boxes))
seen_so_far boxes touched (message.Made n) = option_map dummy (get nat_cmp touched.made n)

-- both see the same
abbrev pub AreSame : Sights → Sights → Type 0
AreSame sights others = (m : Message) → sights m ≡ others m

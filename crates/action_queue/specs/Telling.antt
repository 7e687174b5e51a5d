-- A book that is told anew, piece by piece: what each event of the list tells (this client's profile of RFC 4549, section 4.2).
use Rattle.std.specs.Prelude.{◌≡◌, ℕ, zero, suc, ◌-◌, ◌*◌, ◌/◌, ◌==◌, Bool, true, false, List, [], ◌∷◌, ◌++◌, length, take, drop, map, slice_get}
use Rattle.std.specs.Prelude.{Option, Some, None, ⊤}
use Rattle.mailbox_cache.specs.declared.cache.Cache.{Cache}
use Rattle.mailbox_cache.specs.declared.delta.Delta.{Delta}
use Rattle.mailbox_cache.specs.declared.row.Row.{Row}
use Rattle.action_queue.specs.Book.{Meaning}
use Rattle.action_queue.specs.Restating.{action_events, intent_events, names_of, tries_events, TellsBook, TellsRows}
use Rattle.action_queue.specs.declared.book.Known.{Known}
use Rattle.action_queue.specs.declared.event.Event.{Event}
use Rattle.action_queue.specs.declared.event.Event.TheVariants as events
use Rattle.action_queue.specs.declared.restating.Spot.{Spot}
use Rattle.action_queue.specs.declared.restating.Spot.TheVariants as spots

-- what one event tells of a book: rows of a mailbox, or what its own fields say
pub data Piece : Type 0 where
  Rows : List ℕ → Cache → Bool → List (ℕ × Row) → Piece
  Fields : Event → Piece

abbrev pub IsTold : Piece → Event → Type 0
IsTold (Rows name cache whole rows) event = TellsRows name cache whole rows event
IsTold (Fields told) event = event ≡ told

-- so many parts of the rows, of 1,000 each
abbrev pub thousands : ℕ → List (ℕ × Row) → List (List (ℕ × Row))
thousands zero rows = []
thousands (suc n) rows = take 1000 rows ∷ thousands n (drop 1000 rows)

-- how many parts of 1,000 rows there are behind the first one
abbrev pub later_parts : List (ℕ × Row) → ℕ
later_parts rows = (length rows - 1) / 1000

-- a cache is told by its first 1,000 rows as a whole mailbox, and by each further 1,000
abbrev pub cache_pieces : List ℕ → Option Cache → List Piece
cache_pieces name None = []
cache_pieces name (Some cache) =
    Rows name cache true (take 1000 cache.rows) ∷ map (Rows name cache false) (thousands (later_parts cache.rows) (drop 1000 cache.rows))

abbrev pub box_pieces : List Known → List Piece
box_pieces [] = []
box_pieces (k ∷ ks) = cache_pieces k.name k.cache ++ box_pieces ks

-- behind the caches: the actions, the tries of the one that is due, and the pending intent
abbrev pub events_behind : Meaning → List Event
events_behind b = action_events 0 b.queue ++ (tries_events b.queue ++ intent_events b.pending b.queue)

-- what the events of a book that is told anew tell, in their order
abbrev pub pieces : Meaning → List Piece
pieces b = Fields (events.Begin (names_of b.boxes)) ∷ (box_pieces b.boxes ++ map Fields (events_behind b))

-- the event tells the piece, or neither is there
abbrev pub IsToldBy : Option Piece → Option Event → Type 0
IsToldBy None None = ⊤
IsToldBy None (Some event) = ⊥
IsToldBy (Some piece) None = ⊥
IsToldBy (Some piece) (Some event) = IsTold piece event

-- each event tells its piece
abbrev pub AreTold : List Piece → List Event → Type 0
AreTold [] [] = ⊤
AreTold [] (event ∷ events) = ⊥
AreTold (piece ∷ list) [] = ⊥
AreTold (piece ∷ list) (event ∷ events) = IsTold piece event × AreTold list events

-- Events that tell the pieces of a book tell the book, behind the Begin of its names.
abbrev pub PiecesTell : Type 0
PiecesTell = (b : Meaning) (begin : Event) (later : List Event) → AreTold (pieces b) (begin ∷ later) →
    (begin ≡ events.Begin (names_of b.boxes)) × TellsBook b later

-- this part of the rows of a cache, with its numbers
pub record IsPart (cache : Cache) (part : ℕ) (delta : Delta) : Type 0 where
  pub whole : delta.whole ≡ (part == 0)
  pub validity : delta.validity ≡ cache.validity
  pub highest : delta.highest ≡ cache.highest
  pub uidnext : delta.uidnext ≡ cache.uidnext
  pub vanished : delta.vanished ≡ []
  pub rows : delta.rows ≡ take 1000 (drop (part * 1000) cache.rows)

-- What stands at this place of the mailboxes' pieces, and of what comes behind them: the event tells it, or it is so far behind.
abbrev pub IsSpot : List Known → ℕ → Spot → Type 0
IsSpot boxes place (spots.Told event) = (behind : List Piece) → IsToldBy (slice_get (box_pieces boxes ++ behind) place) (Some event)
IsSpot boxes place (spots.Behind left) = (behind : List Piece) → slice_get (box_pieces boxes ++ behind) place ≡ slice_get behind left

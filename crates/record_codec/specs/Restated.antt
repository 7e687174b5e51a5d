-- How many bytes a side of a journal has that holds a book as it is told anew (this client's journal).
use Rattle.std.specs.Prelude.{◌≡◌, ℕ, ◌+◌, List, [], ◌∷◌, length, flat_map, sum_by, Option, Some, None, ⊤}
use Rattle.action_queue.specs.Book.{Meaning}
use Rattle.action_queue.specs.Telling.{Piece, Rows, Fields, AreTold, cache_pieces, pieces}
use Rattle.action_queue.specs.Writable.{IsWritableAction}
use Rattle.action_queue.specs.declared.book.Known.{Known}
use Rattle.action_queue.specs.declared.event.Event.{Event}
use Rattle.action_queue.specs.declared.outcome.Outcome.{Outcome}
use Rattle.action_queue.specs.declared.queued.Queued.{Queued}
use Rattle.record_codec.specs.Bodies.{action_fields, body_of, outcome_fields}
use Rattle.record_codec.specs.Fields.{counted, row_field}

-- the bytes of the body that tells a piece
abbrev pub piece_size : Piece → ℕ
piece_size (Rows name cache whole rows) = 26 + length (counted name) + length (flat_map row_field rows)
piece_size (Fields event) = length (body_of event)

-- those of a record: its gate, its length in four bytes, and its body
abbrev pub record_size : Piece → ℕ
record_size piece = 5 + piece_size piece

-- those of a mailbox: its name among the names, and the records that tell its cache
abbrev pub box_size : Known → ℕ
box_size known = length (counted known.name) + sum_by record_size (cache_pieces known.name known.cache)

abbrev pub ended_size : Option Outcome → ℕ
ended_size None = 0
ended_size (Some outcome) = length (outcome_fields outcome)

-- those of the record of an action: its number, what it asks, and how it ended
abbrev pub queued_size : Queued → ℕ
queued_size q = 10 + length (action_fields q.action) + ended_size q.outcome

-- each action can be written
abbrev pub AreWritable : List Queued → Type 0
AreWritable [] = ⊤
AreWritable (q ∷ qs) = IsWritableAction q.action × AreWritable qs

-- those of a side: its head gate and header, a record for each piece, and the closed gate behind them
abbrev pub restated_end : Meaning → ℕ
restated_end b = 14 + sum_by record_size (pieces b)

-- Events that tell pieces have records of these sizes.
abbrev pub SizesTell : Type 0
SizesTell = (list : List Piece) (events : List Event) → AreTold list events →
    sum_by (λ (event : Event). 5 + length (body_of event)) events ≡ sum_by record_size list

-- The body of each event's record, which no other event has (this client's journal).
use Rattle.std.specs.Prelude.{ℕ, List, [], ◌∷◌, ◌++◌, length, flat_map, Option, Some, None}
use Rattle.std.specs.Int.{w32, w64, to_be_bytes}
use Rattle.uid_sets.specs.declared.uid.UidRange.{UidRange}
use Rattle.mailbox_cache.specs.declared.row.Row.{Row}
use Rattle.mailbox_cache.specs.declared.delta.Delta.{Delta}
use Rattle.action_queue.specs.declared.action.Action.{Action}
use Rattle.action_queue.specs.declared.action.Action.TheVariants as actions
use Rattle.action_queue.specs.declared.intent.Intent.{Intent}
use Rattle.action_queue.specs.declared.intent.Intent.TheVariants as intents
use Rattle.action_queue.specs.declared.outcome.Place.{Place}
use Rattle.action_queue.specs.declared.outcome.Kind.{Kind}
use Rattle.action_queue.specs.declared.outcome.Kind.TheVariants as kinds
use Rattle.action_queue.specs.declared.outcome.Outcome.{Outcome}
use Rattle.action_queue.specs.declared.outcome.Outcome.TheVariants as outcomes
use Rattle.action_queue.specs.declared.event.Event.{Event}
use Rattle.action_queue.specs.declared.event.Event.TheVariants as events
use Rattle.record_codec.specs.Fields.{counted, flag_field, target_field, sign, bit, range_field, row_field}

-- what is asked: `F`, the message, whether to add, and flags; `M`, the message and a mailbox; or `P`, a mailbox, flags
-- and a text behind its length in four bytes. The text's Message-ID isn't written, since the text has it.
abbrev pub action_fields : Action → List ℕ
action_fields (actions.Flag target add flags) = 70 ∷ target_field target ++ sign add ∷ flag_field flags
action_fields (actions.Move target to) = 77 ∷ target_field target ++ counted to
action_fields (actions.Append to flags text id) = 80 ∷ counted to ++ flag_field flags ++ to_be_bytes w32 (length text) ++ text

-- what is about to be sent: `S`, a message and its mod-sequence; `M`, a message and a mailbox; or `P`, a mailbox with
-- its UIDVALIDITY and UIDNEXT
abbrev pub intent_fields : Intent → List ℕ
intent_fields (intents.Store name validity uid modseq) = 83 ∷ counted name ++ to_be_bytes w32 validity ++ to_be_bytes w32 uid ++ to_be_bytes w64 modseq
intent_fields (intents.Shift from validity uid to) = 77 ∷ counted from ++ to_be_bytes w32 validity ++ to_be_bytes w32 uid ++ counted to
intent_fields (intents.Put to validity uidnext) = 80 ∷ counted to ++ to_be_bytes w32 validity ++ to_be_bytes w32 uidnext

-- where a message landed: 1, UIDVALIDITY and UID; or 0
abbrev pub place_fields : Option Place → List ℕ
place_fields None = 0 ∷ []
place_fields (Some place) = 1 ∷ to_be_bytes w32 place.validity ++ to_be_bytes w32 place.uid

-- why an action is a conflict: the kind's number, and the numbers that it tells
abbrev pub kind_fields : Kind → List ℕ
kind_fields kinds.MessageGone = 1 ∷ []
kind_fields kinds.AlreadySo = 2 ∷ []
kind_fields (kinds.FlagsChanged m) = 3 ∷ to_be_bytes w64 m
kind_fields kinds.RefusedNo = 4 ∷ []
kind_fields kinds.RefusedBad = 5 ∷ []
kind_fields kinds.NotPermanent = 6 ∷ []
kind_fields (kinds.TargetUnknown k) = 7 ∷ to_be_bytes w32 k
kind_fields kinds.FoundSo = 8 ∷ []
kind_fields (kinds.StoreUnsure m f) = 9 ∷ to_be_bytes w64 m ++ to_be_bytes w64 f
kind_fields kinds.SourceGone = 10 ∷ []
kind_fields kinds.GoneAfterLoss = 11 ∷ []
kind_fields (kinds.Ambiguous u v) = 12 ∷ to_be_bytes w32 u ++ to_be_bytes w32 v
kind_fields (kinds.ValidityChanged o n) = 13 ∷ to_be_bytes w32 o ++ to_be_bytes w32 n
kind_fields (kinds.ResetAfterLoss o n) = 14 ∷ to_be_bytes w32 o ++ to_be_bytes w32 n

-- how an action ended: `D` and the place, or `C` and the kind
abbrev pub outcome_fields : Outcome → List ℕ
outcome_fields (outcomes.Done place) = 68 ∷ place_fields place
outcome_fields (outcomes.Conflict kind) = 67 ∷ kind_fields kind

-- the numbers that a mailbox became
unfoldable pub mark_fields : Delta → List ℕ
mark_fields delta = to_be_bytes w32 delta.validity ++ to_be_bytes w64 delta.highest ++ to_be_bytes w32 delta.uidnext

-- ranges of UIDs behind their count
unfoldable pub range_fields : List UidRange → List ℕ
range_fields ranges = to_be_bytes w32 (length ranges) ++ flat_map range_field ranges

-- rows behind their count
unfoldable pub row_fields : List (ℕ × Row) → List ℕ
row_fields rows = to_be_bytes w32 (length rows) ++ flat_map row_field rows

-- what a mailbox became: whether all is told, its numbers, the vanished ranges and the rows
unfoldable pub delta_fields : Delta → List ℕ
delta_fields delta = bit delta.whole ∷ mark_fields delta ++ range_fields delta.vanished ++ row_fields delta.rows

-- the body of an event's record: a letter, and the event's fields
abbrev pub body_of : Event → List ℕ
body_of (events.Begin names) = 66 ∷ length names ∷ flat_map counted names
body_of (events.Accept id action) = 65 ∷ to_be_bytes w32 id ++ action_fields action
body_of (events.Intend id intent) = 73 ∷ to_be_bytes w32 id ++ intent_fields intent
body_of (events.Settle id outcome) = 83 ∷ to_be_bytes w32 id ++ outcome_fields outcome
body_of (events.Learn name delta) = 76 ∷ counted name ++ delta_fields delta
body_of (events.Old id action outcome) = 79 ∷ to_be_bytes w32 id ++ (action_fields action ++ outcome_fields outcome)
body_of (events.Reset name kept told) = 82 ∷ counted name ++ (to_be_bytes w32 kept ++ to_be_bytes w32 told)
body_of (events.Withdraw id tries) = 87 ∷ to_be_bytes w32 id ++ (tries ∷ [])

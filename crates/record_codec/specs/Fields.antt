-- The fields of a record's body (this client's journal): numbers stand high byte first, texts behind their lengths.
use Rattle.std.specs.Prelude.{ℕ, Bool, true, false, List, ◌∷◌, ◌++◌, length, flat_map}
use Rattle.std.specs.Int.{w16, w32, w64, to_be_bytes}
use Rattle.uid_sets.specs.declared.uid.UidRange.{UidRange}
use Rattle.mailbox_cache.specs.declared.row.Row.{Row}
use Rattle.action_queue.specs.declared.target.Target.{Target}
use Rattle.action_queue.specs.declared.target.Target.TheVariants as targets

-- a name of a mailbox or a flag's key: its length in one byte, and its bytes
abbrev pub counted : List ℕ → List ℕ
counted text = length text ∷ text

-- flags: the count of their keys in two bytes, and the keys, which rise
abbrev pub flag_field : List (List ℕ) → List ℕ
flag_field keys = to_be_bytes w16 (length keys) ++ flat_map counted keys

-- a message: `R`, the mailbox's name, UIDVALIDITY and UID; or `D` and the action that makes it
abbrev pub target_field : Target → List ℕ
target_field (targets.Real name validity uid) = 82 ∷ counted name ++ to_be_bytes w32 validity ++ to_be_bytes w32 uid
target_field (targets.Dummy id) = 68 ∷ to_be_bytes w32 id

-- whether flags are added: `+`, or `-`
abbrev pub sign : Bool → ℕ
sign true = 43
sign false = 45

-- 1 for true, and 0 for false
abbrev pub bit : Bool → ℕ
bit true = 1
bit false = 0

-- a range of UIDs: its ends
abbrev pub range_field : UidRange → List ℕ
range_field range = to_be_bytes w32 range.low ++ to_be_bytes w32 range.high

-- a message's row: UID, mod-sequence and flags
unfoldable pub row_field : (ℕ × Row) → List ℕ
row_field r = to_be_bytes w32 r.0 ++ to_be_bytes w64 r.1.modseq ++ flag_field r.1.flags

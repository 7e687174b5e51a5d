-- How a record's body is read from the left: its event, or where the first field stands that doesn't fit (this client's journal).
use Rattle.std.specs.Prelude.{ℕ, zero, suc, ◌+◌, ◌-◌, ◌^◌, ◌<◌, min, Bool, true, false, not, ◌&&◌, ◌||◌, ◌==◌, nat_le, nat_lt, List, []}
use Rattle.std.specs.Prelude.{◌∷◌, ◌++◌, length, take, drop, slice_index, map, Option, Some, None, Result, Ok, Err, is_none, codes}
use Rattle.std.specs.Prelude.{if◌then◌else◌}
use Rattle.std.specs.Int.{Width, w16, w32, w64, byte_len, from_be_bytes}
use Rattle.std.specs.Char.{to_ascii_lowercase}
use Rattle.std.specs.List.{list_all, list_any}
use Rattle.std.specs.Str.{bytes_eq}
use Rattle.std.specs.Ordering.{match_ordering}
use Rattle.flag_set.specs.Flag.{refusal}
use Rattle.flag_set.specs.FlagKey.{key_of}
use Rattle.flag_set.specs.FlagSet.{order}
use Rattle.mail_base.specs.declared.limits.TheConstants.{MAX_ROWS}
use Rattle.mail_header.specs.Identifier.{PlacedBody, id_bodies, id_of}
use Rattle.uid_sets.specs.declared.uid.UidRange.{UidRange}
use Rattle.mailbox_cache.specs.Rows.{has_uid}
use Rattle.mailbox_cache.specs.declared.row.Row.{Row}
use Rattle.mailbox_cache.specs.declared.delta.Delta.{Delta}
use Rattle.action_queue.specs.declared.event.Event.{Event}
use Rattle.action_queue.specs.declared.event.Event.TheVariants as events
use Rattle.action_queue.specs.declared.target.Target.{Target}
use Rattle.action_queue.specs.declared.target.Target.TheVariants as targets
use Rattle.action_queue.specs.declared.action.Action.{Action}
use Rattle.action_queue.specs.declared.action.Action.TheVariants as actions
use Rattle.action_queue.specs.declared.intent.Intent.{Intent}
use Rattle.action_queue.specs.declared.intent.Intent.TheVariants as intents
use Rattle.action_queue.specs.declared.outcome.Place.{Place}
use Rattle.action_queue.specs.declared.outcome.Kind.{Kind}
use Rattle.action_queue.specs.declared.outcome.Kind.TheVariants as kinds
use Rattle.action_queue.specs.declared.outcome.Outcome.{Outcome}
use Rattle.action_queue.specs.declared.outcome.Outcome.TheVariants as outcomes

-- a field's value and the bytes behind it; or, where the field doesn't fit, how many bytes there were from its first one on
abbrev pub Reading : Type 0 → Type 0
Reading A = Result (A × List ℕ) ℕ

infixl 10 ◌>>=◌
abbrev pub ◌>>=◌ : {A B : Type 0} → Result A ℕ → (A → Result B ℕ) → Result B ℕ
(Ok x) >>= f = f x
(Err left) >>= f = Err left

-- the value where the test passes, else the field that begins with these bytes doesn't fit
abbrev pub passing : {A : Type 0} → Bool → List ℕ → A → Result A ℕ
passing test bytes x = if test then Ok x else Err (length bytes)

-- the numbers are bytes
abbrev pub AreBytes : List ℕ → Type 0
AreBytes numbers = (place : ℕ) → slice_index numbers place < 256

-- ---- single fields

unfoldable pub byte_at : List ℕ → Reading ℕ
byte_at [] = Err 0
byte_at (b ∷ rest) = Ok (b, rest)

unfoldable pub number_at : Width → List ℕ → Reading ℕ
number_at w bytes = passing (nat_le (byte_len w) (length bytes)) bytes (from_be_bytes w (take (byte_len w) bytes), drop (byte_len w) bytes)

-- a UID, a UIDVALIDITY or an action's number
unfoldable pub nonzero_at : List ℕ → Reading ℕ
nonzero_at bytes = do
  n ← number_at w32 bytes
  passing (nat_lt 0 n.0) bytes n

-- a mod-sequence (RFC 7162, section 7)
unfoldable pub modseq_at : List ℕ → Reading ℕ
modseq_at bytes = do
  n ← number_at w64 bytes
  passing (nat_lt 0 n.0 && nat_lt n.0 (2 ^ 63)) bytes n

-- a text behind its length in one byte
unfoldable pub counted_at : List ℕ → Reading (List ℕ)
counted_at [] = Err 0
counted_at (n ∷ rest) = passing (nat_le n (length rest)) (n ∷ rest) (take n rest, drop n rest)

-- the byte may stand in a mailbox's name
abbrev pub is_name_byte : ℕ → Bool
is_name_byte b = nat_le 32 b && nat_le b 126 && not (list_any (λ other. other == b) (codes "\"%&*\\"))

-- the text is a mailbox's name as it is kept
abbrev pub is_name : List ℕ → Bool
is_name text = nat_lt 0 (length text) && nat_le (length text) 128 && list_all is_name_byte text
    && (not (bytes_eq (map to_ascii_lowercase text) (codes "inbox")) || bytes_eq text (codes "INBOX"))

unfoldable pub name_at : List ℕ → Reading (List ℕ)
name_at bytes = do
  name ← counted_at bytes
  passing (is_name name.0) bytes name

-- ---- items, one behind the other

-- so many items; each is read by what the items before it made of a state
unfoldable pub many_at : {A S : Type 0} → (S → List ℕ → Reading A) → (S → A → S) → ℕ → S → List ℕ → Reading (List A)
many_at item next zero state bytes = Ok ([], bytes)
many_at item next (suc n) state bytes = do
  x ← item state bytes
  others ← many_at item next n (next state x.0) x.1
  Ok (x.0 ∷ others.0, others.1)

-- ---- flags: keys that rise

-- the key stands behind the one before it, if there is one
abbrev pub stands_behind : Option (List ℕ) → List ℕ → Bool
stands_behind None key = true
stands_behind (Some before) key = match_ordering (order before key) true false false

-- the text is a key, and stands behind the one before it
abbrev pub is_next_key : Option (List ℕ) → List ℕ → Bool
is_next_key before key = is_none (refusal key) && (bytes_eq (key_of key) key && stands_behind before key)

unfoldable pub key_at : Option (List ℕ) → List ℕ → Reading (List ℕ)
key_at before bytes = do
  key ← counted_at bytes
  passing (is_next_key before key.0) bytes key

-- the last key, if there is one
abbrev pub last_key : List (List ℕ) → Option (List ℕ)
last_key [] = None
last_key (key ∷ []) = Some key
last_key (key ∷ next ∷ keys) = last_key (next ∷ keys)

abbrev pub this_key : Option (List ℕ) → List ℕ → Option (List ℕ)
this_key before key = Some key

-- at least so many flags, and at most 1,024
unfoldable pub flags_at : ℕ → List ℕ → Reading (List (List ℕ))
flags_at least bytes = do
  count ← number_at w16 bytes
  fit ← passing (nat_le least count.0 && nat_le count.0 1024) bytes count
  many_at key_at this_key fit.0 None fit.1

-- ---- actions

unfoldable pub real_at : List ℕ → Reading Target
real_at bytes = do
  name ← name_at bytes
  validity ← nonzero_at name.1
  uid ← nonzero_at validity.1
  Ok (targets.Real name.0 validity.0 uid.0, uid.1)

unfoldable pub dummy_at : List ℕ → Reading Target
dummy_at bytes = do
  id ← nonzero_at bytes
  Ok (targets.Dummy id.0, id.1)

unfoldable pub target_at : List ℕ → Reading Target
target_at bytes = do
  letter ← byte_at bytes
  if letter.0 == 82 then real_at letter.1 else if letter.0 == 68 then dummy_at letter.1 else Err (length bytes)

unfoldable pub sign_at : List ℕ → Reading Bool
sign_at bytes = do
  b ← byte_at bytes
  if b.0 == 43 then Ok (true, b.1) else if b.0 == 45 then Ok (false, b.1) else Err (length bytes)

-- the identifier has the form (RFC 5322, section 3.6.4, as far as this client takes it)
abbrev pub is_id_byte : ℕ → Bool
is_id_byte b = nat_le 33 b && (nat_le b 126 && (not (b == 60) && not (b == 62)))

abbrev pub ends_id : List ℕ → Bool
ends_id [] = false
ends_id (b ∷ []) = b == 62
ends_id (b ∷ c ∷ rest) = is_id_byte b && ends_id (c ∷ rest)

abbrev pub is_id : List ℕ → Bool
is_id [] = false
is_id (b ∷ []) = false
is_id (b ∷ c ∷ rest) = (b == 60) && (is_id_byte c && ends_id (c ∷ rest))

abbrev pub the_id : List PlacedBody → Option (List ℕ)
the_id [] = None
the_id (one ∷ []) = if nat_le (length (id_of one.body)) 512 && is_id (id_of one.body) then Some (id_of one.body) else None
the_id (one ∷ other ∷ bodies) = None

-- the text with its Message-ID, or how many bytes there were from its first one on
abbrev pub with_id : ℕ → List ℕ → Option (List ℕ) → Result (List ℕ × List ℕ) ℕ
with_id left text None = Err left
with_id left text (Some id) = Ok (text, id)

-- so many bytes
unfoldable pub octets_at : ℕ → List ℕ → Reading (List ℕ)
octets_at n bytes = passing (nat_le n (length bytes)) bytes (take n bytes, drop n bytes)

-- a text behind its size in four bytes, and its Message-ID
unfoldable pub text_at : List ℕ → Reading (List ℕ × List ℕ)
text_at bytes = do
  size ← number_at w32 bytes
  text ← octets_at size.0 size.1
  told ← with_id (length size.1) text.0 (the_id (id_bodies text.0))
  Ok (told, text.1)

unfoldable pub flag_at : List ℕ → Reading Action
flag_at bytes = do
  target ← target_at bytes
  add ← sign_at target.1
  flags ← flags_at 1 add.1
  Ok (actions.Flag target.0 add.0 flags.0, flags.1)

unfoldable pub move_at : List ℕ → Reading Action
move_at bytes = do
  target ← target_at bytes
  to ← name_at target.1
  Ok (actions.Move target.0 to.0, to.1)

unfoldable pub append_at : List ℕ → Reading Action
append_at bytes = do
  to ← name_at bytes
  flags ← flags_at 0 to.1
  text ← text_at flags.1
  Ok (actions.Append to.0 flags.0 text.0.0 text.0.1, text.1)

unfoldable pub action_at : List ℕ → Reading Action
action_at bytes = do
  letter ← byte_at bytes
  if letter.0 == 70 then flag_at letter.1 else if letter.0 == 77 then move_at letter.1 else if letter.0 == 80 then append_at letter.1 else Err (length bytes)

-- ---- intents

unfoldable pub store_at : List ℕ → Reading Intent
store_at bytes = do
  name ← name_at bytes
  validity ← nonzero_at name.1
  uid ← nonzero_at validity.1
  modseq ← modseq_at uid.1
  Ok (intents.Store name.0 validity.0 uid.0 modseq.0, modseq.1)

unfoldable pub shift_at : List ℕ → Reading Intent
shift_at bytes = do
  from ← name_at bytes
  validity ← nonzero_at from.1
  uid ← nonzero_at validity.1
  to ← name_at uid.1
  Ok (intents.Shift from.0 validity.0 uid.0 to.0, to.1)

unfoldable pub put_at : List ℕ → Reading Intent
put_at bytes = do
  to ← name_at bytes
  validity ← nonzero_at to.1
  uidnext ← nonzero_at validity.1
  Ok (intents.Put to.0 validity.0 uidnext.0, uidnext.1)

unfoldable pub intent_at : List ℕ → Reading Intent
intent_at bytes = do
  letter ← byte_at bytes
  if letter.0 == 83 then store_at letter.1 else if letter.0 == 77 then shift_at letter.1 else if letter.0 == 80 then put_at letter.1 else Err (length bytes)

-- ---- outcomes

unfoldable pub landed_at : List ℕ → Reading (Option Place)
landed_at bytes = do
  validity ← nonzero_at bytes
  uid ← nonzero_at validity.1
  Ok (Some (record { validity = validity.0; uid = uid.0 }), uid.1)

unfoldable pub place_at : List ℕ → Reading (Option Place)
place_at bytes = do
  b ← byte_at bytes
  if b.0 == 0 then Ok (None, b.1) else if b.0 == 1 then landed_at b.1 else Err (length bytes)

unfoldable pub changed_at : List ℕ → Reading Kind
changed_at bytes = do
  m ← modseq_at bytes
  Ok (kinds.FlagsChanged m.0, m.1)

unfoldable pub unknown_at : List ℕ → Reading Kind
unknown_at bytes = do
  k ← nonzero_at bytes
  Ok (kinds.TargetUnknown k.0, k.1)

unfoldable pub unsure_at : List ℕ → Reading Kind
unsure_at bytes = do
  m ← modseq_at bytes
  f ← modseq_at m.1
  Ok (kinds.StoreUnsure m.0 f.0, f.1)

unfoldable pub ambiguous_at : List ℕ → Reading Kind
ambiguous_at bytes = do
  u ← nonzero_at bytes
  v ← nonzero_at u.1
  Ok (kinds.Ambiguous u.0 v.0, v.1)

unfoldable pub changed_validity_at : List ℕ → Reading Kind
changed_validity_at bytes = do
  o ← nonzero_at bytes
  n ← nonzero_at o.1
  Ok (kinds.ValidityChanged o.0 n.0, n.1)

unfoldable pub reset_loss_at : List ℕ → Reading Kind
reset_loss_at bytes = do
  o ← nonzero_at bytes
  n ← nonzero_at o.1
  Ok (kinds.ResetAfterLoss o.0 n.0, n.1)

-- the kind with this number, whose own numbers begin these bytes; or how many bytes there were from its number on
abbrev pub kind_by : ℕ → ℕ → List ℕ → Reading Kind
kind_by b left bytes =
    if b == 1 then Ok (kinds.MessageGone, bytes)
    else if b == 2 then Ok (kinds.AlreadySo, bytes)
    else if b == 3 then changed_at bytes
    else if b == 4 then Ok (kinds.RefusedNo, bytes)
    else if b == 5 then Ok (kinds.RefusedBad, bytes)
    else if b == 6 then Ok (kinds.NotPermanent, bytes)
    else if b == 7 then unknown_at bytes
    else if b == 8 then Ok (kinds.FoundSo, bytes)
    else if b == 9 then unsure_at bytes
    else if b == 10 then Ok (kinds.SourceGone, bytes)
    else if b == 11 then Ok (kinds.GoneAfterLoss, bytes)
    else if b == 12 then ambiguous_at bytes
    else if b == 13 then changed_validity_at bytes
    else if b == 14 then reset_loss_at bytes
    else Err left

unfoldable pub kind_at : List ℕ → Reading Kind
kind_at bytes = do
  b ← byte_at bytes
  kind_by b.0 (length bytes) b.1

unfoldable pub done_at : List ℕ → Reading Outcome
done_at bytes = do
  place ← place_at bytes
  Ok (outcomes.Done place.0, place.1)

unfoldable pub conflict_at : List ℕ → Reading Outcome
conflict_at bytes = do
  kind ← kind_at bytes
  Ok (outcomes.Conflict kind.0, kind.1)

unfoldable pub outcome_at : List ℕ → Reading Outcome
outcome_at bytes = do
  letter ← byte_at bytes
  if letter.0 == 68 then done_at letter.1 else if letter.0 == 67 then conflict_at letter.1 else Err (length bytes)

-- ---- what a mailbox became

unfoldable pub low_at : ℕ → List ℕ → Reading ℕ
low_at floor bytes = do
  low ← number_at w32 bytes
  passing (nat_lt floor low.0) bytes low

unfoldable pub high_at : ℕ → List ℕ → Reading ℕ
high_at low bytes = do
  high ← number_at w32 bytes
  passing (nat_le low high.0) bytes high

-- a range that begins above floor
unfoldable pub range_at : ℕ → List ℕ → Reading UidRange
range_at floor bytes = do
  low ← low_at floor bytes
  high ← high_at low.0 low.1
  Ok (record { low = low.0; high = high.0 }, high.1)

-- the number behind a range is no range's
abbrev pub behind_range : ℕ → UidRange → ℕ
behind_range floor range = range.high + 1

unfoldable pub vanished_at : List ℕ → Reading (List UidRange)
vanished_at bytes = do
  count ← number_at w32 bytes
  many_at range_at behind_range count.0 0 count.1

-- a UID above floor that isn't vanished
unfoldable pub row_uid_at : List UidRange → ℕ → List ℕ → Reading ℕ
row_uid_at vanished floor bytes = do
  uid ← number_at w32 bytes
  passing (nat_lt floor uid.0 && not (has_uid vanished uid.0)) bytes uid

unfoldable pub row_at : List UidRange → ℕ → List ℕ → Reading (ℕ × Row)
row_at vanished floor bytes = do
  uid ← row_uid_at vanished floor bytes
  modseq ← modseq_at uid.1
  flags ← flags_at 0 modseq.1
  Ok ((uid.0, record { flags = flags.0; modseq = modseq.0 }), flags.1)

abbrev pub row_uid : ℕ → (ℕ × Row) → ℕ
row_uid floor r = r.0

-- at most 200,000 rows
unfoldable pub row_list_at : List UidRange → List ℕ → Reading (List (ℕ × Row))
row_list_at vanished bytes = do
  count ← number_at w32 bytes
  few ← passing (nat_le count.0 MAX_ROWS) bytes count
  many_at (row_at vanished) row_uid few.0 0 few.1

unfoldable pub bit_at : List ℕ → Reading Bool
bit_at bytes = do
  b ← byte_at bytes
  if b.0 == 0 then Ok (false, b.1) else if b.0 == 1 then Ok (true, b.1) else Err (length bytes)

-- a delta without the facts that its type keeps
pub record Told : Type 0 where
  pub whole : Bool
  pub validity : ℕ
  pub highest : ℕ
  pub uidnext : ℕ
  pub vanished : List UidRange
  pub rows : List (ℕ × Row)

unfoldable pub told_at : List ℕ → Reading Told
told_at bytes = do
  whole ← bit_at bytes
  validity ← nonzero_at whole.1
  highest ← modseq_at validity.1
  uidnext ← nonzero_at highest.1
  vanished ← vanished_at uidnext.1
  rows ← row_list_at vanished.0 vanished.1
  Ok (record { whole = whole.0; validity = validity.0; highest = highest.0; uidnext = uidnext.0; vanished = vanished.0; rows = rows.0 }, rows.1)

-- ---- names that a journal begins with

-- a name that wasn't there before
unfoldable pub new_name_at : List (List ℕ) → List ℕ → Reading (List ℕ)
new_name_at before bytes = do
  name ← name_at bytes
  passing (not (list_any (bytes_eq name.0) before)) bytes name

abbrev pub and_name : List (List ℕ) → List ℕ → List (List ℕ)
and_name before name = before ++ name ∷ []

-- 1 to 32 names
unfoldable pub name_list_at : List ℕ → Reading (List (List ℕ))
name_list_at bytes = do
  count ← byte_at bytes
  fit ← passing (nat_le 1 count.0 && nat_le count.0 32) bytes count
  many_at new_name_at and_name fit.0 [] fit.1

-- ---- bodies

-- an event without the facts that its type keeps
pub data Plain : Type 0 where
  Begin : List (List ℕ) → Plain
  Accept : ℕ → Action → Plain
  Intend : ℕ → Intent → Plain
  Settle : ℕ → Outcome → Plain
  Learn : List ℕ → Told → Plain
  Old : ℕ → Action → Outcome → Plain
  Reset : List ℕ → ℕ → ℕ → Plain
  Withdraw : ℕ → ℕ → Plain

abbrev pub told_of : Delta → Told
told_of delta = record {
  whole = delta.whole;
  validity = delta.validity;
  highest = delta.highest;
  uidnext = delta.uidnext;
  vanished =
      delta.vanished;
  rows = delta.rows;
}

abbrev pub plain : Event → Plain
plain (events.Begin names) = Begin names
plain (events.Accept id action) = Accept id action
plain (events.Intend id intent) = Intend id intent
plain (events.Settle id outcome) = Settle id outcome
plain (events.Learn name delta) = Learn name (told_of delta)
plain (events.Old id action outcome) = Old id action outcome
plain (events.Reset name kept told) = Reset name kept told
plain (events.Withdraw id tries) = Withdraw id tries

unfoldable pub begin_at : List ℕ → Reading Plain
begin_at bytes = do
  names ← name_list_at bytes
  Ok (Begin names.0, names.1)

unfoldable pub accept_at : List ℕ → Reading Plain
accept_at bytes = do
  id ← nonzero_at bytes
  action ← action_at id.1
  Ok (Accept id.0 action.0, action.1)

unfoldable pub intend_at : List ℕ → Reading Plain
intend_at bytes = do
  id ← nonzero_at bytes
  intent ← intent_at id.1
  Ok (Intend id.0 intent.0, intent.1)

unfoldable pub settle_at : List ℕ → Reading Plain
settle_at bytes = do
  id ← nonzero_at bytes
  outcome ← outcome_at id.1
  Ok (Settle id.0 outcome.0, outcome.1)

unfoldable pub learn_at : List ℕ → Reading Plain
learn_at bytes = do
  name ← name_at bytes
  told ← told_at name.1
  Ok (Learn name.0 told.0, told.1)

unfoldable pub old_at : List ℕ → Reading Plain
old_at bytes = do
  id ← nonzero_at bytes
  action ← action_at id.1
  outcome ← outcome_at action.1
  Ok (Old id.0 action.0 outcome.0, outcome.1)

unfoldable pub reset_at : List ℕ → Reading Plain
reset_at bytes = do
  name ← name_at bytes
  kept ← nonzero_at name.1
  told ← nonzero_at kept.1
  Ok (Reset name.0 kept.0 told.0, told.1)

unfoldable pub withdraw_at : List ℕ → Reading Plain
withdraw_at bytes = do
  id ← nonzero_at bytes
  tries ← byte_at id.1
  Ok (Withdraw id.0 tries.0, tries.1)

-- the event that the bytes begin with
unfoldable pub plain_at : List ℕ → Reading Plain
plain_at bytes = do
  letter ← byte_at bytes
  if letter.0 == 66 then begin_at letter.1
      else if letter.0 == 65 then accept_at letter.1
      else if letter.0 == 73 then intend_at letter.1
      else if letter.0 == 83 then settle_at letter.1
      else if letter.0 == 76 then learn_at letter.1
      else if letter.0 == 79 then old_at letter.1
      else if letter.0 == 82 then reset_at letter.1
      else if letter.0 == 87 then withdraw_at letter.1
      else Err (length bytes)

-- the place of a field in front of which so many bytes of a body are; no field stands behind 2^30 bytes, the most that a body has
abbrev pub place_of : List ℕ → ℕ → ℕ
place_of body left = min (length body - left) 1073741824

-- the event that all of the bytes are, if it has no more than 2^30, or the place of the first field that doesn't fit
abbrev pub all_of : List ℕ → Reading Plain → Result Plain ℕ
all_of body (Ok read) = if (length read.1 == 0) && nat_le (length body) 1073741824 then Ok read.0 else Err (place_of body (length read.1))
all_of body (Err left) = Err (place_of body left)

-- a whole body: its event, or the place of the first field that doesn't fit, where a byte too many is one
unfoldable pub body_at : List ℕ → Result Plain ℕ
body_at body = all_of body (plain_at body)

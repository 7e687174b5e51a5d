-- Whole events: what is read is spelled so.
use Rattle.std.proofs.Common.{◌≡◌, ◌<◌, ◌≤◌, inl, inr, ℕ, Bool, true, false, ◌&&◌, ◌==◌, List, [], ◌∷◌, ◌++◌, length}
use Rattle.std.proofs.Common.{Ok, Err, nat_le, refl, sym, ap, ◌∙◌, append_assoc, arith, if◌then◌else◌}
use Rattle.std.specs.Int.{w32, to_be_bytes}
use Rattle.std.specs.List.{flat_map}
use Rattle.std.proofs.lemmas.List.{append-nil}
use Rattle.std.proofs.lemmas.Bool.{and_parts, leb-true}
use Rattle.mail_base.specs.BoxName.{IsBoxName}
use Rattle.action_queue.specs.Writable.{IsWritable}
use Rattle.action_queue.specs.declared.event.Event.{Event}
use Rattle.action_queue.specs.declared.event.Event.TheVariants as events
use Rattle.record_codec.specs.Fields.{counted}
use Rattle.record_codec.specs.Bodies.{action_fields, intent_fields, outcome_fields, mark_fields}
use Rattle.record_codec.specs.Bodies.{delta_fields, body_of}
use Rattle.record_codec.specs.Spelling.{IsNumber, IsKeptIntent, IsKeptOutcome, IsKept, Spelled}
use Rattle.record_codec.specs.Reading.{Reading, ◌>>=◌, AreBytes, Plain, Begin, Accept, Intend, Settle, Learn, Old, Reset, Withdraw}
use Rattle.record_codec.specs.Reading.{plain, byte_at}
use Rattle.record_codec.specs.Reading.{nonzero_at, name_at}
use Rattle.record_codec.specs.Reading.{action_at, intent_at}
use Rattle.record_codec.specs.Reading.{outcome_at, told_at, name_list_at, begin_at}
use Rattle.record_codec.specs.Reading.{accept_at, intend_at, settle_at, learn_at, old_at, reset_at, withdraw_at, plain_at, place_of, all_of, body_at}
use Rattle.record_codec.proofs.Ids.{same-true}
use Rattle.record_codec.proofs.Taking.{bound, ok_same, chosen, Reads, lettered, nonzero_reads}
use Rattle.record_codec.proofs.Taking.{name_reads, byte_reads}
use Rattle.record_codec.proofs.Items.{AreKeptNames, name_list_reads}
use Rattle.record_codec.proofs.FieldsRead.{front, behind, Follows, follows_same, follow, lead, IsReadAction, action_reads, intent_reads, outcome_reads}
use Rattle.record_codec.proofs.FieldsRead.{told_fields, IsKeptTold, told_reads}

abbrev pub plain_fields : Plain → List ℕ
plain_fields (Begin names) = 66 ∷ length names ∷ flat_map counted names
plain_fields (Accept id action) = 65 ∷ to_be_bytes w32 id ++ action_fields action
plain_fields (Intend id intent) = 73 ∷ to_be_bytes w32 id ++ intent_fields intent
plain_fields (Settle id outcome) = 83 ∷ to_be_bytes w32 id ++ outcome_fields outcome
plain_fields (Learn name told) = 76 ∷ counted name ++ told_fields told
plain_fields (Old id action outcome) = 79 ∷ to_be_bytes w32 id ++ (action_fields action ++ outcome_fields outcome)
plain_fields (Reset name kept told) = 82 ∷ counted name ++ (to_be_bytes w32 kept ++ to_be_bytes w32 told)
plain_fields (Withdraw id tries) = 87 ∷ to_be_bytes w32 id ++ (tries ∷ [])

abbrev pub IsKeptPlain : Plain → Type 0
IsKeptPlain (Begin names) = AreKeptNames names
IsKeptPlain (Accept id action) = IsNumber id × IsReadAction action
IsKeptPlain (Intend id intent) = IsNumber id × IsKeptIntent intent
IsKeptPlain (Settle id outcome) = IsNumber id × IsKeptOutcome outcome
IsKeptPlain (Learn name told) = IsBoxName name × IsKeptTold told
IsKeptPlain (Old id action outcome) = IsNumber id × IsReadAction action × IsKeptOutcome outcome
IsKeptPlain (Reset name kept told) = IsBoxName name × IsNumber kept × IsNumber told
IsKeptPlain (Withdraw id tries) = IsNumber id × (tries < 256)

begin_reads : (bytes : List ℕ) (y : Plain × List ℕ) → AreBytes bytes → begin_at bytes ≡ Ok y → Follows plain_fields IsKeptPlain 66 bytes y
unfolding begin_at
begin_reads bytes y all is =
    let one = bound (name_list_at bytes) (λ names. Ok (Begin names.0, names.1)) y is in
    let n = name_list_reads bytes one.value all one.first in
    follows_same plain_fields IsKeptPlain 66 bytes (Begin one.value.0, one.value.1) y one.later
    (follow (plain_fields (Begin one.value.0)) 66 bytes one.value.1 (AreKeptNames one.value.0) n.clean (front 66 _ _ n.is) n.kept)

accept_reads : (bytes : List ℕ) (y : Plain × List ℕ) → AreBytes bytes → accept_at bytes ≡ Ok y → Follows plain_fields IsKeptPlain 65 bytes y
unfolding accept_at
accept_reads bytes y all is =
    let one = bound (nonzero_at bytes) (λ id. action_at id.1 >>= (λ action. Ok (Accept id.0 action.0, action.1))) y is in
    let id = one.value in
    let two = bound (action_at id.1) (λ action. Ok (Accept id.0 action.0, action.1)) y one.later in
    let action = two.value in
    let n = nonzero_reads bytes id all one.first in
    let a = action_reads id.1 action n.clean two.first in
    follows_same plain_fields IsKeptPlain 65 bytes (Accept id.0 action.0, action.1) y two.later
    (follow (plain_fields (Accept id.0 action.0)) 65 bytes action.1 (IsKeptPlain (Accept id.0 action.0)) a.clean
    (front 65 _ _ (n.is ∙ behind (to_be_bytes w32 id.0) _ _ a.is)) (n.kept, a.kept))

intend_reads : (bytes : List ℕ) (y : Plain × List ℕ) → AreBytes bytes → intend_at bytes ≡ Ok y → Follows plain_fields IsKeptPlain 73 bytes y
unfolding intend_at
intend_reads bytes y all is =
    let one = bound (nonzero_at bytes) (λ id. intent_at id.1 >>= (λ intent. Ok (Intend id.0 intent.0, intent.1))) y is in
    let id = one.value in
    let two = bound (intent_at id.1) (λ intent. Ok (Intend id.0 intent.0, intent.1)) y one.later in
    let intent = two.value in
    let n = nonzero_reads bytes id all one.first in
    let a = intent_reads id.1 intent n.clean two.first in
    follows_same plain_fields IsKeptPlain 73 bytes (Intend id.0 intent.0, intent.1) y two.later
    (follow (plain_fields (Intend id.0 intent.0)) 73 bytes intent.1 (IsKeptPlain (Intend id.0 intent.0)) a.clean
    (front 73 _ _ (n.is ∙ behind (to_be_bytes w32 id.0) _ _ a.is)) (n.kept, a.kept))

settle_reads : (bytes : List ℕ) (y : Plain × List ℕ) → AreBytes bytes → settle_at bytes ≡ Ok y → Follows plain_fields IsKeptPlain 83 bytes y
unfolding settle_at
settle_reads bytes y all is =
    let one = bound (nonzero_at bytes) (λ id. outcome_at id.1 >>= (λ outcome. Ok (Settle id.0 outcome.0, outcome.1))) y is in
    let id = one.value in
    let two = bound (outcome_at id.1) (λ outcome. Ok (Settle id.0 outcome.0, outcome.1)) y one.later in
    let outcome = two.value in
    let n = nonzero_reads bytes id all one.first in
    let a = outcome_reads id.1 outcome n.clean two.first in
    follows_same plain_fields IsKeptPlain 83 bytes (Settle id.0 outcome.0, outcome.1) y two.later
    (follow (plain_fields (Settle id.0 outcome.0)) 83 bytes outcome.1 (IsKeptPlain (Settle id.0 outcome.0)) a.clean
    (front 83 _ _ (n.is ∙ behind (to_be_bytes w32 id.0) _ _ a.is)) (n.kept, a.kept))

learn_reads : (bytes : List ℕ) (y : Plain × List ℕ) → AreBytes bytes → learn_at bytes ≡ Ok y → Follows plain_fields IsKeptPlain 76 bytes y
unfolding learn_at
learn_reads bytes y all is =
    let one = bound (name_at bytes) (λ name. told_at name.1 >>= (λ told. Ok (Learn name.0 told.0, told.1))) y is in
    let name = one.value in
    let two = bound (told_at name.1) (λ told. Ok (Learn name.0 told.0, told.1)) y one.later in
    let told = two.value in
    let n = name_reads bytes name all one.first in
    let a = told_reads name.1 told n.clean two.first in
    follows_same plain_fields IsKeptPlain 76 bytes (Learn name.0 told.0, told.1) y two.later
    (follow (plain_fields (Learn name.0 told.0)) 76 bytes told.1 (IsKeptPlain (Learn name.0 told.0)) a.clean
    (front 76 _ _ (n.is ∙ behind (counted name.0) _ _ a.is) ∙ sym (append_assoc (76 ∷ counted name.0) (told_fields told.0) told.1)) (n.kept, a.kept))

old_reads : (bytes : List ℕ) (y : Plain × List ℕ) → AreBytes bytes → old_at bytes ≡ Ok y → Follows plain_fields IsKeptPlain 79 bytes y
unfolding old_at
old_reads bytes y all is =
    let one = bound (nonzero_at bytes) (λ id. action_at id.1 >>= (λ action. outcome_at action.1 >>=
    (λ outcome. Ok (Old id.0 action.0 outcome.0, outcome.1)))) y is in
    let id = one.value in
    let two = bound (action_at id.1) (λ action. outcome_at action.1 >>= (λ outcome. Ok (Old id.0 action.0 outcome.0, outcome.1))) y one.later in
    let action = two.value in
    let three = bound (outcome_at action.1) (λ outcome. Ok (Old id.0 action.0 outcome.0, outcome.1)) y two.later in
    let outcome = three.value in
    let n = nonzero_reads bytes id all one.first in
    let a = action_reads id.1 action n.clean two.first in
    let o = outcome_reads action.1 outcome a.clean three.first in
    let event = Old id.0 action.0 outcome.0 in
    follows_same plain_fields IsKeptPlain 79 bytes (event, outcome.1) y three.later
    (follow (plain_fields event) 79 bytes outcome.1 (IsKeptPlain event) o.clean
    (front 79 _ _ (n.is ∙ behind (to_be_bytes w32 id.0) _ _ (a.is ∙ behind (action_fields action.0) _ _ o.is
    ∙ sym (append_assoc (action_fields action.0) (outcome_fields outcome.0) outcome.1)))) (n.kept, a.kept, o.kept))

pub reset_apart : (name : List ℕ) (kept told : ℕ) (rest : List ℕ) → plain_fields (Reset name kept told) ++ rest
    ≡ 82 ∷ (counted name ++ (to_be_bytes w32 kept ++ (to_be_bytes w32 told ++ rest)))
reset_apart name kept told rest =
    append_assoc (82 ∷ counted name) (to_be_bytes w32 kept ++ to_be_bytes w32 told) rest
    ∙ behind (82 ∷ counted name) _ _ (append_assoc (to_be_bytes w32 kept) (to_be_bytes w32 told) rest)

reset_reads : (bytes : List ℕ) (y : Plain × List ℕ) → AreBytes bytes → reset_at bytes ≡ Ok y → Follows plain_fields IsKeptPlain 82 bytes y
unfolding reset_at
reset_reads bytes y all is =
    let one = bound (name_at bytes) (λ name. nonzero_at name.1 >>= (λ kept. nonzero_at kept.1 >>=
    (λ told. Ok (Reset name.0 kept.0 told.0, told.1)))) y is in
    let name = one.value in
    let two = bound (nonzero_at name.1) (λ kept. nonzero_at kept.1 >>= (λ told. Ok (Reset name.0 kept.0 told.0, told.1))) y one.later in
    let kept = two.value in
    let three = bound (nonzero_at kept.1) (λ told. Ok (Reset name.0 kept.0 told.0, told.1)) y two.later in
    let told = three.value in
    let n = name_reads bytes name all one.first in
    let k = nonzero_reads name.1 kept n.clean two.first in
    let t = nonzero_reads kept.1 told k.clean three.first in
    let event = Reset name.0 kept.0 told.0 in
    follows_same plain_fields IsKeptPlain 82 bytes (event, told.1) y three.later
    (follow (plain_fields event) 82 bytes told.1 (IsKeptPlain event) t.clean
    (front 82 _ _ (n.is ∙ behind (counted name.0) _ _ (k.is ∙ behind (to_be_bytes w32 kept.0) _ _ t.is))
    ∙ sym (reset_apart name.0 kept.0 told.0 told.1)) (n.kept, k.kept, t.kept))

withdraw_reads : (bytes : List ℕ) (y : Plain × List ℕ) → AreBytes bytes → withdraw_at bytes ≡ Ok y → Follows plain_fields IsKeptPlain 87 bytes y
unfolding withdraw_at
withdraw_reads bytes y all is =
    let one = bound (nonzero_at bytes) (λ id. byte_at id.1 >>= (λ tries. Ok (Withdraw id.0 tries.0, tries.1))) y is in
    let id = one.value in
    let two = bound (byte_at id.1) (λ tries. Ok (Withdraw id.0 tries.0, tries.1)) y one.later in
    let tries = two.value in
    let n = nonzero_reads bytes id all one.first in
    let t = byte_reads id.1 tries n.clean two.first in
    let event = Withdraw id.0 tries.0 in
    follows_same plain_fields IsKeptPlain 87 bytes (event, tries.1) y two.later
    (follow (plain_fields event) 87 bytes tries.1 (IsKeptPlain event) t.clean
    (front 87 _ _ (n.is ∙ behind (to_be_bytes w32 id.0) _ _ t.is ∙ sym (append_assoc (to_be_bytes w32 id.0) (tries.0 ∷ []) tries.1)))
    (n.kept, t.kept))

-- the events of letters behind the sixth
later_reads : (bytes : List ℕ) (b : ℕ) (more : List ℕ) (y : Plain × List ℕ) → bytes ≡ b ∷ more → AreBytes more →
    (if b == 82 then reset_at more else if b == 87 then withdraw_at more else Err (length bytes)) ≡ Ok y →
    Reads plain_fields IsKeptPlain bytes y
later_reads bytes b more y is clean v =
    elim (chosen b 82 (reset_at more) (if b == 87 then withdraw_at more else Err (length bytes)) y v) [
      | inl w ↦ lead plain_fields IsKeptPlain bytes b 82 more y is w.0 (reset_reads more y clean w.1)
      | inr u ↦
          elim (chosen b 87 (withdraw_at more) (Err (length bytes)) y u) [
            | inl w ↦ lead plain_fields IsKeptPlain bytes b 87 more y is w.0 (withdraw_reads more y clean w.1)
            | inr w ↦ absurd (cc w)
          ]
    ]

plain_reads : (bytes : List ℕ) (y : Plain × List ℕ) → AreBytes bytes → plain_at bytes ≡ Ok y → Reads plain_fields IsKeptPlain bytes y
unfolding plain_at
plain_reads bytes y all is =
    let l = lettered bytes
    (λ letter. if letter.0 == 66 then begin_at letter.1 else if letter.0 == 65 then accept_at letter.1 else if letter.0 == 73 then
    intend_at letter.1 else if letter.0 == 83 then settle_at letter.1 else if letter.0 == 76 then learn_at letter.1 else
    if letter.0 == 79 then old_at letter.1 else if letter.0 == 82 then reset_at letter.1 else
    if letter.0 == 87 then withdraw_at letter.1 else Err (length bytes)) y all is in
    let b = l.b in
    let more = l.more in
    let later : Reading Plain = if b == 82 then reset_at more else if b == 87 then withdraw_at more else Err (length bytes) in
    let led = λ (k : ℕ). lead plain_fields IsKeptPlain bytes b k more y l.is in
    elim (chosen b 66 (begin_at more)
    (if b == 65 then accept_at more else if b == 73 then intend_at more else if b == 83 then settle_at more else if b == 76 then
    learn_at more else if b == 79 then old_at more else later) y l.later) [
      | inl w ↦ led 66 w.0 (begin_reads more y l.clean w.1)
      | inr v2 ↦
          elim (chosen b 65 (accept_at more)
          (if b == 73 then intend_at more else if b == 83 then settle_at more else if b == 76 then learn_at more else
          if b == 79 then old_at more else later) y v2) [
            | inl w ↦ led 65 w.0 (accept_reads more y l.clean w.1)
            | inr v3 ↦
                elim (chosen b 73 (intend_at more) (if b == 83 then settle_at more else if b == 76 then learn_at more else
                if b == 79 then old_at more else later) y v3) [
                  | inl w ↦ led 73 w.0 (intend_reads more y l.clean w.1)
                  | inr v4 ↦
                      elim (chosen b 83 (settle_at more) (if b == 76 then learn_at more else
                      if b == 79 then old_at more else later) y v4) [
                        | inl w ↦ led 83 w.0 (settle_reads more y l.clean w.1)
                        | inr v5 ↦
                            elim (chosen b 76 (learn_at more) (if b == 79 then old_at more else later) y v5) [
                              | inl w ↦ led 76 w.0 (learn_reads more y l.clean w.1)
                              | inr v6 ↦
                                  elim (chosen b 79 (old_at more) later y v6) [
                                    | inl w ↦
                                        led 79 w.0 (old_reads more y l.clean w.1)
                                    | inr v7 ↦ later_reads bytes b more y l.is l.clean v7
                                  ]
                            ]
                      ]
                ]
          ]
    ]

-- ---- bodies

record Whole (body : List ℕ) (read : Reading Plain) (p : Plain) : Type 0 where
  rest : List ℕ
  is : read ≡ Ok (p, rest)
  ended : length rest ≡ 0
  fits : length body ≤ 1073741824

whole_if : (test : Bool) (x p : Plain) (n : ℕ) → (if test then Ok x else Err n) ≡ Ok p → (test ≡ true) × (x ≡ p)
whole_if true x p n is = (refl, ok_same x p is)
whole_if false x p n is = absurd (cc)

whole : (body : List ℕ) (read : Reading Plain) (p : Plain) → all_of body read ≡ Ok p → Whole body read p
whole body (Ok read) p is =
    let told = whole_if ((length read.1 == 0) && nat_le (length body) 1073741824) read.0 p (place_of body (length read.1)) is in
    let both = and_parts (length read.1 == 0) (nat_le (length body) 1073741824) told.0 in
    record {
      rest = read.1;
      is = ap (λ (q : Plain). Ok (q, read.1)) told.1;
      ended = same-true (length read.1) 0 both.0;
      fits =
          leb-true (length body) 1073741824 both.1;
    }
whole body (Err left) p is = absurd (cc)

none_left : (rest : List ℕ) → length rest ≡ 0 → rest ≡ []
none_left [] is = refl
none_left (b ∷ rest) is = absurd (omega (arith, is))

-- what a body says that was read
pub record IsBodyOf (body : List ℕ) (p : Plain) : Type 0 where
  pub is : body ≡ plain_fields p
  pub kept : IsKeptPlain p
  pub fits : length body ≤ 1073741824

pub body_reads : (body : List ℕ) (p : Plain) → AreBytes body → body_at body ≡ Ok p → IsBodyOf body p
unfolding body_at
body_reads body p all is =
    let w = whole body (plain_at body) p is in
    let r = plain_reads body (p, w.rest) all w.is in
    record { is = r.is ∙ ap (λ (rest : List ℕ). plain_fields p ++ rest) (none_left w.rest w.ended) ∙ append-nil (plain_fields p); kept = r.kept; fits = w.fits }

pub fields_of : (event : Event) → plain_fields (plain event) ≡ body_of event
unfolding delta_fields mark_fields
fields_of (events.Begin names) = refl
fields_of (events.Accept id action) = refl
fields_of (events.Intend id intent) = refl
fields_of (events.Settle id outcome) = refl
fields_of (events.Learn name delta) = refl
fields_of (events.Old id action outcome) = refl
fields_of (events.Reset name kept told) = refl
fields_of (events.Withdraw id tries) = refl

kept_of : (event : Event) → IsKeptPlain (plain event) → IsKept event
kept_of (events.Begin names) kept = kept.kept
kept_of (events.Accept id action) kept = (kept.0, kept.1.kept)
kept_of (events.Intend id intent) kept = kept
kept_of (events.Settle id outcome) kept = kept
kept_of (events.Learn name delta) kept = (
  kept.0,
  record {
    validity = kept.1.validity;
    highest = kept.1.highest;
    uidnext =
        kept.1.uidnext;
    vanished = kept.1.vanished;
    rows = kept.1.rows.kept;
  },
)
kept_of (events.Old id action outcome) kept = (kept.0, kept.1.kept, kept.2)
kept_of (events.Reset name old told) kept = kept
kept_of (events.Withdraw id tries) kept = kept

writable_of : (event : Event) → IsKeptPlain (plain event) → IsWritable event
writable_of (events.Begin names) kept = kept.list
writable_of (events.Accept id action) kept = kept.1.writable
writable_of (events.Intend id intent) kept = tt
writable_of (events.Settle id outcome) kept = tt
writable_of (events.Learn name delta) kept = (kept.1.rows.few, kept.1.rows.flags)
writable_of (events.Old id action outcome) kept = kept.1.writable
writable_of (events.Reset name old told) kept = tt
writable_of (events.Withdraw id tries) kept = tt

-- an event that was read is the one that the body spells
pub read_spelled : (body : List ℕ) (event : Event) → AreBytes body → body_at body ≡ Ok (plain event) → Spelled body event
read_spelled body event all is =
    let b = body_reads body (plain event) all is in
    record { kept = kept_of event b.kept; writable = writable_of event b.kept; fits = b.fits; is = b.is ∙ fields_of event }

-- whatever is read is an event
pub record HasEvent (p : Plain) : Type 0 where
  pub event : Event
  pub is : plain event ≡ p

event_of : (p : Plain) → IsKeptPlain p → HasEvent p
event_of (Begin names) kept = record { event = events.Begin names; is = refl }
event_of (Accept id action) kept = record { event = events.Accept id action; is = refl }
event_of (Intend id intent) kept = record { event = events.Intend id intent; is = refl }
event_of (Settle id outcome) kept = record { event = events.Settle id outcome; is = refl }
event_of (Learn name told) kept = record {
  event = events.Learn name (record {
    whole = told.whole;
    validity = told.validity;
    highest = told.highest;
    uidnext =
        told.uidnext;
    vanished = told.vanished;
    rows = told.rows;
    rising = kept.1.rows.rising;
    apart = kept.1.rows.apart;
  });
  is = refl;
}
event_of (Old id action outcome) kept = record { event = events.Old id action outcome; is = refl }
event_of (Reset name old told) kept = record { event = events.Reset name old told; is = refl }
event_of (Withdraw id tries) kept = record { event = events.Withdraw id tries; is = refl }

pub read_event : (body : List ℕ) (p : Plain) → AreBytes body → body_at body ≡ Ok p → HasEvent p
read_event body p all is = event_of p (body_reads body p all is).kept

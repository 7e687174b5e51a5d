-- Whole events: what is spelled is read.
use Rattle.std.proofs.Common.{◌≡◌, ◌<◌, ◌≤◌, ℕ, ◌^◌, Bool, List, [], ◌∷◌, ◌++◌, length, Option, Some, None, Ok, Err, refl, sym, ap, subst}
use Rattle.std.proofs.Common.{◌∙◌, append_assoc, arith, if◌then◌else◌}
use Rattle.std.specs.Int.{w32, w64, to_be_bytes}
use Rattle.std.specs.List.{flat_map}
use Rattle.std.proofs.lemmas.Bool.{le-leb}
use Rattle.std.proofs.lemmas.List.{append-nil, length-append}
use Rattle.mail_base.specs.declared.limits.TheConstants.{MAX_ROWS}
use Rattle.mail_header.specs.Identifier.{id_bodies, HasMessageId}
use Rattle.mailbox_cache.specs.declared.delta.Delta.{Delta}
use Rattle.action_queue.specs.Writable.{IsWritable, IsWritableAction, HaveFewFlags}
use Rattle.action_queue.specs.declared.target.Target.{Target}
use Rattle.action_queue.specs.declared.target.Target.TheVariants as targets
use Rattle.action_queue.specs.declared.action.Action.{Action}
use Rattle.action_queue.specs.declared.action.Action.TheVariants as actions
use Rattle.action_queue.specs.declared.intent.Intent.{Intent}
use Rattle.action_queue.specs.declared.intent.Intent.TheVariants as intents
use Rattle.action_queue.specs.declared.outcome.Place.{Place}
use Rattle.action_queue.specs.declared.outcome.Kind.{Kind}
use Rattle.action_queue.specs.declared.outcome.Kind.TheVariants as kinds
use Rattle.action_queue.specs.declared.outcome.Outcome.{Outcome}
use Rattle.action_queue.specs.declared.outcome.Outcome.TheVariants as outcomes
use Rattle.action_queue.specs.declared.event.Event.{Event}
use Rattle.action_queue.specs.declared.event.Event.TheVariants as events
use Rattle.record_codec.specs.Fields.{counted, flag_field, target_field, sign, bit}
use Rattle.record_codec.specs.Bodies.{action_fields, intent_fields, place_fields, kind_fields, outcome_fields, mark_fields, range_fields}
use Rattle.record_codec.specs.Bodies.{row_fields, delta_fields, body_of}
use Rattle.record_codec.specs.Spelling.{IsKeptTarget, IsKeptAction, IsKeptIntent, IsKeptPlace, IsKeptKind, IsKeptOutcome, IsKeptDelta, IsKept, Spelled}
use Rattle.record_codec.specs.Reading.{Reading, ◌>>=◌, Told, Plain, Begin, Accept, Intend, Settle, Learn, Old, Reset, Withdraw, told_of, plain, byte_at}
use Rattle.record_codec.specs.Reading.{number_at, nonzero_at, modseq_at, name_at, octets_at, real_at, dummy_at, target_at, sign_at}
use Rattle.record_codec.specs.Reading.{flags_at, the_id, with_id, text_at, flag_at, move_at, append_at, action_at, store_at, shift_at}
use Rattle.record_codec.specs.Reading.{put_at, intent_at, landed_at, place_at, changed_at, unknown_at, unsure_at, ambiguous_at, changed_validity_at, reset_loss_at, kind_at}
use Rattle.record_codec.specs.Reading.{done_at, conflict_at, outcome_at, bit_at, vanished_at, row_list_at, told_at, name_list_at}
use Rattle.record_codec.specs.Reading.{begin_at, accept_at, intend_at, settle_at, learn_at, old_at, reset_at, withdraw_at, plain_at, place_of, all_of, body_at}
use Rattle.record_codec.proofs.Ids.{id_told}
use Rattle.record_codec.proofs.OneByOne.{four, target_apart, text_fits}
use Rattle.record_codec.proofs.Taking.{then_by, number_read, nonzero_read, modseq_read, name_read, octets_read, sign_read, bit_read}
use Rattle.record_codec.proofs.Items.{flags_read, vanished_read, row_list_read, name_list_read}
use Rattle.record_codec.proofs.FieldsRead.{append_apart, store_apart, shift_apart, told_fields, told_apart}
use Rattle.record_codec.proofs.EventsRead.{reset_apart}

-- ---- messages

target_read : (target : Target) (rest : List ℕ) → IsKeptTarget target → target_at (target_field target ++ rest) ≡ Ok (target, rest)
unfolding target_at real_at dummy_at byte_at
target_read (targets.Real name validity uid) rest kept =
    let last = to_be_bytes w32 uid ++ rest in
    let later = to_be_bytes w32 validity ++ last in
    ap target_at (target_apart name validity uid rest)
    ∙ then_by (name_at (counted name ++ later)) (name, later) (λ n. nonzero_at n.1 >>=
    (λ v. nonzero_at v.1 >>= (λ u. Ok (targets.Real n.0 v.0 u.0, u.1)))) (Ok (targets.Real name validity uid, rest))
    (name_read name later kept.0)
    (then_by (nonzero_at later) (validity, last) (λ v. nonzero_at v.1 >>= (λ u. Ok (targets.Real name v.0 u.0, u.1)))
    (Ok (targets.Real name validity uid, rest)) (nonzero_read validity last kept.1)
    (then_by (nonzero_at last) (uid, rest) (λ u. Ok (targets.Real name validity u.0, u.1)) (Ok (targets.Real name validity uid, rest))
    (nonzero_read uid rest kept.2) refl))
target_read (targets.Dummy id) rest kept =
    then_by (nonzero_at (to_be_bytes w32 id ++ rest)) (id, rest) (λ n. Ok (targets.Dummy n.0, n.1)) (Ok (targets.Dummy id, rest))
    (nonzero_read id rest kept) refl

-- ---- actions

text_read : (text id rest : List ℕ) → length text < 2 ^ 32 → HasMessageId text id →
    text_at (to_be_bytes w32 (length text) ++ (text ++ rest)) ≡ Ok ((text, id), rest)
unfolding text_at
text_read text id rest fits has =
    then_by (number_at w32 (to_be_bytes w32 (length text) ++ (text ++ rest))) (length text, text ++ rest)
    (λ size. octets_at size.0 size.1 >>= (λ t. with_id (length size.1) t.0 (the_id (id_bodies t.0)) >>= (λ told. Ok (told, t.1))))
    (Ok ((text, id), rest))
    (number_read (length text) (text ++ rest) fits)
    (then_by (octets_at (length text) (text ++ rest)) (text, rest)
    (λ t. with_id (length (text ++ rest)) t.0 (the_id (id_bodies t.0)) >>= (λ told. Ok (told, t.1))) (Ok ((text, id), rest))
    (octets_read text rest)
    (ap (λ (o : Option (List ℕ)). with_id (length (text ++ rest)) text o >>= (λ told. Ok (told, rest))) (id_told text id has)))

action_read : (action : Action) (rest : List ℕ) → IsKeptAction action → IsWritableAction action →
    length (action_fields action) ≤ 1073741824 → action_at (action_fields action ++ rest) ≡ Ok (action, rest)
unfolding action_at flag_at move_at append_at byte_at
action_read (actions.Flag target add flags) rest kept can fits =
    let last = flag_field flags ++ rest in
    let later = sign add ∷ last in
    ap (λ (t : List ℕ). action_at (70 ∷ t)) (append_assoc (target_field target) (sign add ∷ flag_field flags) rest)
    ∙ then_by (target_at (target_field target ++ later)) (target, later)
    (λ t. sign_at t.1 >>= (λ a. flags_at 1 a.1 >>= (λ f. Ok (actions.Flag t.0 a.0 f.0, f.1))))
    (Ok (actions.Flag target add flags, rest)) (target_read target later kept.0)
    (then_by (sign_at later) (add, last) (λ a. flags_at 1 a.1 >>= (λ f. Ok (actions.Flag target a.0 f.0, f.1)))
    (Ok (actions.Flag target add flags, rest)) (sign_read add last)
    (then_by (flags_at 1 last) (flags, rest) (λ f. Ok (actions.Flag target add f.0, f.1)) (Ok (actions.Flag target add flags, rest))
    (flags_read 1 flags rest (record { set = kept.1; some = can.0; few = can.1 })) refl))
action_read (actions.Move target to) rest kept can fits =
    let last = counted to ++ rest in
    ap (λ (t : List ℕ). action_at (77 ∷ t)) (append_assoc (target_field target) (counted to) rest)
    ∙ then_by (target_at (target_field target ++ last)) (target, last) (λ t. name_at t.1 >>= (λ n. Ok (actions.Move t.0 n.0, n.1)))
    (Ok (actions.Move target to, rest)) (target_read target last kept.0)
    (then_by (name_at last) (to, rest) (λ n. Ok (actions.Move target n.0, n.1)) (Ok (actions.Move target to, rest)) (name_read to rest kept.1) refl)
action_read (actions.Append to flags text id) rest kept can fits =
    let last = to_be_bytes w32 (length text) ++ (text ++ rest) in
    let later = flag_field flags ++ last in
    ap action_at (append_apart to flags text id rest)
    ∙ then_by (name_at (counted to ++ later)) (to, later) (λ n. flags_at 0 n.1 >>=
    (λ f. text_at f.1 >>= (λ t. Ok (actions.Append n.0 f.0 t.0.0 t.0.1, t.1)))) (Ok (actions.Append to flags text id, rest))
    (name_read to later kept.0)
    (then_by (flags_at 0 later) (flags, last) (λ f. text_at f.1 >>= (λ t. Ok (actions.Append to f.0 t.0.0 t.0.1, t.1)))
    (Ok (actions.Append to flags text id, rest)) (flags_read 0 flags last (record { set = kept.1; some = omega arith; few = can.0 }))
    (then_by (text_at last) ((text, id), rest) (λ t. Ok (actions.Append to flags t.0.0 t.0.1, t.1))
    (Ok (actions.Append to flags text id, rest)) (text_read text id rest (text_fits to flags text id fits) can.1) refl))

-- ---- intents

intent_read : (intent : Intent) (rest : List ℕ) → IsKeptIntent intent → intent_at (intent_fields intent ++ rest) ≡ Ok (intent, rest)
unfolding intent_at store_at shift_at put_at byte_at
intent_read (intents.Store name validity uid modseq) rest kept =
    let end = to_be_bytes w64 modseq ++ rest in
    let last = to_be_bytes w32 uid ++ end in
    let later = to_be_bytes w32 validity ++ last in
    ap intent_at (store_apart name validity uid modseq rest)
    ∙ then_by (name_at (counted name ++ later)) (name, later) (λ n. nonzero_at n.1 >>=
    (λ v. nonzero_at v.1 >>= (λ u. modseq_at u.1 >>= (λ m. Ok (intents.Store n.0 v.0 u.0 m.0, m.1)))))
    (Ok (intents.Store name validity uid modseq, rest)) (name_read name later kept.0)
    (then_by (nonzero_at later) (validity, last) (λ v. nonzero_at v.1 >>=
    (λ u. modseq_at u.1 >>= (λ m. Ok (intents.Store name v.0 u.0 m.0, m.1)))) (Ok (intents.Store name validity uid modseq, rest))
    (nonzero_read validity last kept.1)
    (then_by (nonzero_at last) (uid, end) (λ u. modseq_at u.1 >>= (λ m. Ok (intents.Store name validity u.0 m.0, m.1)))
    (Ok (intents.Store name validity uid modseq, rest)) (nonzero_read uid end kept.2)
    (then_by (modseq_at end) (modseq, rest) (λ m. Ok (intents.Store name validity uid m.0, m.1))
    (Ok (intents.Store name validity uid modseq, rest)) (modseq_read modseq rest kept.3) refl)))
intent_read (intents.Shift from validity uid to) rest kept =
    let end = counted to ++ rest in
    let last = to_be_bytes w32 uid ++ end in
    let later = to_be_bytes w32 validity ++ last in
    ap intent_at (shift_apart from validity uid to rest)
    ∙ then_by (name_at (counted from ++ later)) (from, later) (λ n. nonzero_at n.1 >>=
    (λ v. nonzero_at v.1 >>= (λ u. name_at u.1 >>= (λ m. Ok (intents.Shift n.0 v.0 u.0 m.0, m.1)))))
    (Ok (intents.Shift from validity uid to, rest)) (name_read from later kept.0)
    (then_by (nonzero_at later) (validity, last) (λ v. nonzero_at v.1 >>=
    (λ u. name_at u.1 >>= (λ m. Ok (intents.Shift from v.0 u.0 m.0, m.1)))) (Ok (intents.Shift from validity uid to, rest))
    (nonzero_read validity last kept.1)
    (then_by (nonzero_at last) (uid, end) (λ u. name_at u.1 >>= (λ m. Ok (intents.Shift from validity u.0 m.0, m.1)))
    (Ok (intents.Shift from validity uid to, rest)) (nonzero_read uid end kept.2)
    (then_by (name_at end) (to, rest) (λ m. Ok (intents.Shift from validity uid m.0, m.1)) (Ok (intents.Shift from validity uid to, rest))
    (name_read to rest kept.3) refl)))
intent_read (intents.Put to validity uidnext) rest kept =
    let last = to_be_bytes w32 uidnext ++ rest in
    let later = to_be_bytes w32 validity ++ last in
    ap intent_at (four (80 ∷ counted to) (to_be_bytes w32 validity) (to_be_bytes w32 uidnext) rest)
    ∙ then_by (name_at (counted to ++ later)) (to, later) (λ n. nonzero_at n.1 >>=
    (λ v. nonzero_at v.1 >>= (λ u. Ok (intents.Put n.0 v.0 u.0, u.1)))) (Ok (intents.Put to validity uidnext, rest))
    (name_read to later kept.0)
    (then_by (nonzero_at later) (validity, last) (λ v. nonzero_at v.1 >>= (λ u. Ok (intents.Put to v.0 u.0, u.1)))
    (Ok (intents.Put to validity uidnext, rest)) (nonzero_read validity last kept.1)
    (then_by (nonzero_at last) (uidnext, rest) (λ u. Ok (intents.Put to validity u.0, u.1)) (Ok (intents.Put to validity uidnext, rest))
    (nonzero_read uidnext rest kept.2) refl))

-- ---- outcomes

place_read : (place : Option Place) (rest : List ℕ) → IsKeptPlace place → place_at (place_fields place ++ rest) ≡ Ok (place, rest)
unfolding place_at landed_at byte_at
place_read None rest kept = refl
place_read (Some place) rest kept =
    let last = to_be_bytes w32 place.uid ++ rest in
    then_by (nonzero_at (to_be_bytes w32 place.validity ++ last)) (place.validity, last)
    (λ v. nonzero_at v.1 >>= (λ u. Ok (Some (record { validity = v.0; uid = u.0 }), u.1))) (Ok (Some place, rest))
    (nonzero_read place.validity last kept.0)
    (then_by (nonzero_at last) (place.uid, rest) (λ u. Ok (Some (record { validity = place.validity; uid = u.0 }), u.1))
    (Ok (Some place, rest)) (nonzero_read place.uid rest kept.1) refl)

kind_read : (kind : Kind) (rest : List ℕ) → IsKeptKind kind → kind_at (kind_fields kind ++ rest) ≡ Ok (kind, rest)
unfolding kind_at changed_at unknown_at unsure_at ambiguous_at changed_validity_at reset_loss_at byte_at
kind_read kinds.MessageGone rest kept = refl
kind_read kinds.AlreadySo rest kept = refl
kind_read (kinds.FlagsChanged m) rest kept = then_by (modseq_at (to_be_bytes w64 m ++ rest)) (m, rest)
    (λ n. Ok (kinds.FlagsChanged n.0, n.1)) (Ok (kinds.FlagsChanged m, rest)) (modseq_read m rest kept) refl
kind_read kinds.RefusedNo rest kept = refl
kind_read kinds.RefusedBad rest kept = refl
kind_read kinds.NotPermanent rest kept = refl
kind_read (kinds.TargetUnknown k) rest kept = then_by (nonzero_at (to_be_bytes w32 k ++ rest)) (k, rest)
    (λ n. Ok (kinds.TargetUnknown n.0, n.1)) (Ok (kinds.TargetUnknown k, rest)) (nonzero_read k rest kept) refl
kind_read kinds.FoundSo rest kept = refl
kind_read (kinds.StoreUnsure m f) rest kept =
    let last = to_be_bytes w64 f ++ rest in
    then_by (modseq_at (to_be_bytes w64 m ++ last)) (m, last) (λ a. modseq_at a.1 >>= (λ b. Ok (kinds.StoreUnsure a.0 b.0, b.1)))
    (Ok (kinds.StoreUnsure m f, rest)) (modseq_read m last kept.0)
    (then_by (modseq_at last) (f, rest) (λ b. Ok (kinds.StoreUnsure m b.0, b.1)) (Ok (kinds.StoreUnsure m f, rest)) (modseq_read f rest kept.1) refl)
kind_read kinds.SourceGone rest kept = refl
kind_read kinds.GoneAfterLoss rest kept = refl
kind_read (kinds.Ambiguous u v) rest kept =
    let last = to_be_bytes w32 v ++ rest in
    then_by (nonzero_at (to_be_bytes w32 u ++ last)) (u, last) (λ a. nonzero_at a.1 >>= (λ b. Ok (kinds.Ambiguous a.0 b.0, b.1)))
    (Ok (kinds.Ambiguous u v, rest)) (nonzero_read u last kept.0)
    (then_by (nonzero_at last) (v, rest) (λ b. Ok (kinds.Ambiguous u b.0, b.1)) (Ok (kinds.Ambiguous u v, rest)) (nonzero_read v rest kept.1) refl)
kind_read (kinds.ValidityChanged o n) rest kept =
    let last = to_be_bytes w32 n ++ rest in
    then_by (nonzero_at (to_be_bytes w32 o ++ last)) (o, last) (λ a. nonzero_at a.1 >>= (λ b. Ok (kinds.ValidityChanged a.0 b.0, b.1)))
    (Ok (kinds.ValidityChanged o n, rest)) (nonzero_read o last kept.0)
    (then_by (nonzero_at last) (n, rest) (λ b. Ok (kinds.ValidityChanged o b.0, b.1)) (Ok (kinds.ValidityChanged o n, rest)) (nonzero_read n rest kept.1) refl)
kind_read (kinds.ResetAfterLoss o n) rest kept =
    let last = to_be_bytes w32 n ++ rest in
    then_by (nonzero_at (to_be_bytes w32 o ++ last)) (o, last) (λ a. nonzero_at a.1 >>= (λ b. Ok (kinds.ResetAfterLoss a.0 b.0, b.1)))
    (Ok (kinds.ResetAfterLoss o n, rest)) (nonzero_read o last kept.0)
    (then_by (nonzero_at last) (n, rest) (λ b. Ok (kinds.ResetAfterLoss o b.0, b.1)) (Ok (kinds.ResetAfterLoss o n, rest)) (nonzero_read n rest kept.1) refl)

outcome_read : (outcome : Outcome) (rest : List ℕ) → IsKeptOutcome outcome → outcome_at (outcome_fields outcome ++ rest) ≡ Ok (outcome, rest)
unfolding outcome_at done_at conflict_at byte_at
outcome_read (outcomes.Done place) rest kept = then_by (place_at (place_fields place ++ rest)) (place, rest)
    (λ p. Ok (outcomes.Done p.0, p.1)) (Ok (outcomes.Done place, rest)) (place_read place rest kept) refl
outcome_read (outcomes.Conflict kind) rest kept = then_by (kind_at (kind_fields kind ++ rest)) (kind, rest)
    (λ k. Ok (outcomes.Conflict k.0, k.1)) (Ok (outcomes.Conflict kind, rest)) (kind_read kind rest kept) refl

-- ---- what a mailbox became

told_read : (delta : Delta) (rest : List ℕ) → IsKeptDelta delta → length delta.rows ≤ MAX_ROWS → HaveFewFlags delta.rows →
    told_at (told_fields (told_of delta) ++ rest) ≡ Ok (told_of delta, rest)
unfolding told_at
told_read delta rest kept few flags =
    let whole : Bool = delta.whole in
    let validity : ℕ = delta.validity in
    let highest : ℕ = delta.highest in
    let uidnext : ℕ = delta.uidnext in
    let vanished = delta.vanished in
    let rows = delta.rows in
    let end = row_fields rows ++ rest in
    let gone = range_fields vanished ++ end in
    let next = to_be_bytes w32 uidnext ++ gone in
    let high = to_be_bytes w64 highest ++ next in
    let valid = to_be_bytes w32 validity ++ high in
    let goal : Reading Told = Ok (told_of delta, rest) in
    ap told_at (told_apart (told_of delta) rest)
    ∙ then_by (bit_at (bit whole ∷ valid)) (whole, valid) (λ w. nonzero_at w.1 >>=
    (λ v. modseq_at v.1 >>= (λ h. nonzero_at h.1 >>= (λ u. vanished_at u.1 >>= (λ g. row_list_at g.0 g.1 >>= (λ r.
    Ok (record { whole = w.0; validity = v.0; highest = h.0; uidnext = u.0; vanished = g.0; rows = r.0 }, r.1))))))) goal (bit_read whole valid)
    (then_by (nonzero_at valid) (validity, high) (λ v. modseq_at v.1 >>= (λ h. nonzero_at h.1 >>= (λ u. vanished_at u.1 >>= (λ g. row_list_at g.0 g.1 >>= (λ r.
    Ok (record { whole = whole; validity = v.0; highest = h.0; uidnext = u.0; vanished = g.0; rows = r.0 }, r.1)))))) goal
    (nonzero_read validity high kept.validity)
    (then_by (modseq_at high) (highest, next) (λ h. nonzero_at h.1 >>= (λ u. vanished_at u.1 >>= (λ g. row_list_at g.0 g.1 >>= (λ r.
    Ok (record { whole = whole; validity = validity; highest = h.0; uidnext = u.0; vanished = g.0; rows = r.0 }, r.1))))) goal
    (modseq_read highest next kept.highest)
    (then_by (nonzero_at next) (uidnext, gone) (λ u. vanished_at u.1 >>= (λ g. row_list_at g.0 g.1 >>= (λ r.
    Ok (record { whole = whole; validity = validity; highest = highest; uidnext = u.0; vanished = g.0; rows = r.0 }, r.1)))) goal
    (nonzero_read uidnext gone kept.uidnext)
    (then_by (vanished_at gone) (vanished, end) (λ g. row_list_at g.0 g.1 >>= (λ r.
    Ok (record { whole = whole; validity = validity; highest = highest; uidnext = uidnext; vanished = g.0; rows = r.0 }, r.1))) goal
    (vanished_read vanished end kept.vanished)
    (then_by (row_list_at vanished end) (rows, rest) (λ r.
    Ok (record { whole = whole; validity = validity; highest = highest; uidnext = uidnext; vanished = vanished; rows = r.0 }, r.1)) goal
    (row_list_read vanished rows rest (record { rising = delta.rising; apart = delta.apart; kept = kept.rows; few = few; flags = flags })) refl)))))

-- ---- events

event_read : (event : Event) (rest : List ℕ) → IsKept event → IsWritable event → length (body_of event) ≤ 1073741824 →
    plain_at (body_of event ++ rest) ≡ Ok (plain event, rest)
unfolding plain_at begin_at accept_at intend_at settle_at learn_at old_at reset_at withdraw_at byte_at delta_fields mark_fields
event_read (events.Begin names) rest kept can fits =
    then_by (name_list_at (length names ∷ flat_map counted names ++ rest)) (names, rest) (λ n. Ok (Begin n.0, n.1))
    (Ok (Begin names, rest)) (name_list_read names rest (record { kept = kept; list = can })) refl
event_read (events.Accept id action) rest kept can fits =
    let last = action_fields action ++ rest in
    then_by (nonzero_at (to_be_bytes w32 id ++ last)) (id, last) (λ n. action_at n.1 >>= (λ a. Ok (Accept n.0 a.0, a.1)))
    (Ok (Accept id action, rest)) (nonzero_read id last kept.0)
    (then_by (action_at last) (action, rest) (λ a. Ok (Accept id a.0, a.1)) (Ok (Accept id action, rest))
    (action_read action rest kept.1 can (omega (arith, fits))) refl)
event_read (events.Intend id intent) rest kept can fits =
    let last = intent_fields intent ++ rest in
    then_by (nonzero_at (to_be_bytes w32 id ++ last)) (id, last) (λ n. intent_at n.1 >>= (λ a. Ok (Intend n.0 a.0, a.1)))
    (Ok (Intend id intent, rest)) (nonzero_read id last kept.0)
    (then_by (intent_at last) (intent, rest) (λ a. Ok (Intend id a.0, a.1)) (Ok (Intend id intent, rest)) (intent_read intent rest kept.1) refl)
event_read (events.Settle id outcome) rest kept can fits =
    let last = outcome_fields outcome ++ rest in
    then_by (nonzero_at (to_be_bytes w32 id ++ last)) (id, last) (λ n. outcome_at n.1 >>= (λ a. Ok (Settle n.0 a.0, a.1)))
    (Ok (Settle id outcome, rest)) (nonzero_read id last kept.0)
    (then_by (outcome_at last) (outcome, rest) (λ a. Ok (Settle id a.0, a.1)) (Ok (Settle id outcome, rest)) (outcome_read outcome rest kept.1) refl)
event_read (events.Learn name delta) rest kept can fits =
    let last = told_fields (told_of delta) ++ rest in
    ap plain_at (append_assoc (76 ∷ counted name) (told_fields (told_of delta)) rest)
    ∙ then_by (name_at (counted name ++ last)) (name, last) (λ n. told_at n.1 >>= (λ d. Ok (Learn n.0 d.0, d.1)))
    (Ok (Learn name (told_of delta), rest)) (name_read name last kept.0)
    (then_by (told_at last) (told_of delta, rest) (λ d. Ok (Learn name d.0, d.1)) (Ok (Learn name (told_of delta), rest))
    (told_read delta rest kept.1 can.0 can.1) refl)
event_read (events.Old id action outcome) rest kept can fits =
    let last = outcome_fields outcome ++ rest in
    let later = action_fields action ++ last in
    let goal : Reading Plain = Ok (Old id action outcome, rest) in
    ap (λ (t : List ℕ). plain_at (79 ∷ (to_be_bytes w32 id ++ t))) (append_assoc (action_fields action) (outcome_fields outcome) rest)
    ∙ then_by (nonzero_at (to_be_bytes w32 id ++ later)) (id, later) (λ n. action_at n.1 >>= (λ a. outcome_at a.1 >>= (λ o.
    Ok (Old n.0 a.0 o.0, o.1)))) goal (nonzero_read id later kept.0)
    (then_by (action_at later) (action, last) (λ a. outcome_at a.1 >>= (λ o. Ok (Old id a.0 o.0, o.1))) goal
    (action_read action last kept.1 can (omega (arith, fits, length-append (action_fields action) (outcome_fields outcome))))
    (then_by (outcome_at last) (outcome, rest) (λ o. Ok (Old id action o.0, o.1)) goal (outcome_read outcome rest kept.2) refl))
event_read (events.Reset name old told) rest kept can fits =
    let last = to_be_bytes w32 told ++ rest in
    let later = to_be_bytes w32 old ++ last in
    let goal : Reading Plain = Ok (Reset name old told, rest) in
    ap plain_at (reset_apart name old told rest)
    ∙ then_by (name_at (counted name ++ later)) (name, later) (λ n. nonzero_at n.1 >>= (λ k. nonzero_at k.1 >>= (λ t.
    Ok (Reset n.0 k.0 t.0, t.1)))) goal (name_read name later kept.0)
    (then_by (nonzero_at later) (old, last) (λ k. nonzero_at k.1 >>= (λ t. Ok (Reset name k.0 t.0, t.1))) goal (nonzero_read old last kept.1)
    (then_by (nonzero_at last) (told, rest) (λ t. Ok (Reset name old t.0, t.1)) goal (nonzero_read told rest kept.2) refl))
event_read (events.Withdraw id tries) rest kept can fits =
    let last = tries ∷ rest in
    let goal : Reading Plain = Ok (Withdraw id tries, rest) in
    ap (λ (t : List ℕ). plain_at (87 ∷ t)) (append_assoc (to_be_bytes w32 id) (tries ∷ []) rest)
    ∙ then_by (nonzero_at (to_be_bytes w32 id ++ last)) (id, last) (λ n. byte_at n.1 >>= (λ t. Ok (Withdraw n.0 t.0, t.1))) goal
    (nonzero_read id last kept.0) refl

whole_all : (body : List ℕ) (p : Plain) → length body ≤ 1073741824 → all_of body (Ok (p, [])) ≡ Ok p
whole_all body p fits = ap (λ (t : Bool). if t then Ok p else Err (place_of body 0)) (le-leb (length body) 1073741824 fits)

-- what is spelled is read
pub spelled_read : (body : List ℕ) (event : Event) → Spelled body event → body_at body ≡ Ok (plain event)
unfolding body_at
spelled_read body event spelled =
    let fits = subst (λ (bytes : List ℕ). length bytes ≤ 1073741824) spelled.is spelled.fits in
    let whole : plain_at body ≡ Ok (plain event, []) = ap plain_at (spelled.is ∙ sym (append-nil (body_of event)))
    ∙ event_read event [] spelled.kept spelled.writable fits in
    ap (all_of body) whole ∙ whole_all body (plain event) spelled.fits

-- What an event says of: a target, an action, an intent, an outcome, a delta. What is read is spelled so.
use Rattle.std.proofs.Common.{◌≡◌, inl, inr, ℕ, ◌==◌, List, [], ◌∷◌, ◌++◌, length, Option, Some, None}
use Rattle.std.proofs.Common.{Result, Ok, Err, refl, sym, ap, subst, ◌∙◌, append_assoc, if◌then◌else◌}
use Rattle.std.specs.Int.{w32, w64, to_be_bytes}
use Rattle.mail_header.specs.Identifier.{id_bodies, HasMessageId}
use Rattle.uid_sets.specs.UidSet.{IsCanonical}
use Rattle.action_queue.specs.Writable.{IsWritableAction}
use Rattle.action_queue.specs.declared.target.Target.{Target}
use Rattle.action_queue.specs.declared.target.Target.TheVariants as targets
use Rattle.action_queue.specs.declared.action.Action.{Action}
use Rattle.action_queue.specs.declared.action.Action.TheVariants as actions
use Rattle.action_queue.specs.declared.intent.Intent.{Intent}
use Rattle.action_queue.specs.declared.intent.Intent.TheVariants as intents
use Rattle.action_queue.specs.declared.outcome.Place.{Place}
use Rattle.action_queue.specs.declared.outcome.Kind.{Kind}
use Rattle.action_queue.specs.declared.outcome.Kind.TheVariants as kinds
use Rattle.action_queue.specs.declared.outcome.Outcome.{Outcome}
use Rattle.action_queue.specs.declared.outcome.Outcome.TheVariants as outcomes
use Rattle.record_codec.specs.Fields.{counted, flag_field, target_field, sign, bit}
use Rattle.record_codec.specs.Bodies.{action_fields, intent_fields, place_fields, kind_fields, outcome_fields, range_fields}
use Rattle.record_codec.specs.Bodies.{row_fields}
use Rattle.record_codec.specs.Spelling.{IsNumber, IsModSeq, IsKeptTarget, IsKeptAction, IsKeptIntent, IsKeptPlace, IsKeptKind, IsKeptOutcome}
use Rattle.record_codec.specs.Reading.{Reading, ◌>>=◌, AreBytes, Told}
use Rattle.record_codec.specs.Reading.{number_at}
use Rattle.record_codec.specs.Reading.{nonzero_at, modseq_at, name_at, octets_at, real_at, dummy_at, target_at, sign_at, flags_at, the_id}
use Rattle.record_codec.specs.Reading.{with_id, text_at, flag_at, move_at, append_at, action_at, store_at, shift_at, put_at, intent_at}
use Rattle.record_codec.specs.Reading.{landed_at, place_at, changed_at, unknown_at, unsure_at, ambiguous_at, changed_validity_at, reset_loss_at, kind_by, kind_at, done_at}
use Rattle.record_codec.specs.Reading.{conflict_at, outcome_at, bit_at, vanished_at, row_list_at, told_at}
use Rattle.record_codec.proofs.Ids.{told_id}
use Rattle.record_codec.proofs.OneByOne.{four, target_apart}
use Rattle.record_codec.proofs.Taking.{bound, ok_same, chosen, Sound, Reads, reads_same, lettered, number_reads, nonzero_reads}
use Rattle.record_codec.proofs.Taking.{modseq_reads, name_reads, octets_reads, sign_reads, bit_reads}
use Rattle.record_codec.proofs.Items.{flags_reads, vanished_reads, AreKeptRows, row_list_reads}

-- a byte in front of what was read
pub front : (b : ℕ) (bytes more : List ℕ) → bytes ≡ more → b ∷ bytes ≡ b ∷ more
front b bytes more is = ap (λ (t : List ℕ). b ∷ t) is

pub behind : (start bytes more : List ℕ) → bytes ≡ more → start ++ bytes ≡ start ++ more
behind start bytes more is = ap (λ (t : List ℕ). start ++ t) is

-- what was read behind a letter
abbrev pub Follows : {A : Type 0} → (A → List ℕ) → (A → Type 0) → ℕ → List ℕ → (A × List ℕ) → Type 0
Follows f K b more y = Sound (f y.0) (b ∷ more) y.1 (K y.0)

abbrev pub follows_same : {A : Type 0} (f : A → List ℕ) (K : A → Type 0) (b : ℕ) (more : List ℕ) (x y : A × List ℕ) →
    ◌≡◌ {A = Result (A × List ℕ) ℕ} (Ok x) (Ok y) → Follows f K b more x → Follows f K b more y
follows_same f K b more x y same follows = subst (λ z. Follows f K b more z) (ok_same x y same) follows

pub follow : (start : List ℕ) (b : ℕ) (more rest : List ℕ) (K : Type 0) → AreBytes rest → b ∷ more ≡ start ++ rest → K → Sound start (b ∷ more) rest K
follow start b more rest K clean is kept = record { is = is; kept = kept; clean = clean }

-- the letter was this one
pub lead : {A : Type 0} (f : A → List ℕ) (K : A → Type 0) (bytes : List ℕ) (b k : ℕ) (more : List ℕ) (y : A × List ℕ) → bytes ≡ b ∷ more →
    b ≡ k → Follows f K k more y → Reads f K bytes y
lead f K bytes b k more y is same follows = subst (λ (bs : List ℕ). Reads f K bs y) (sym (is ∙ ap (λ (c : ℕ). c ∷ more) same)) follows

-- ---- messages

real_reads : (bytes : List ℕ) (y : Target × List ℕ) → AreBytes bytes → real_at bytes ≡ Ok y → Follows target_field IsKeptTarget 82 bytes y
unfolding real_at
real_reads bytes y all is =
    let one = bound (name_at bytes) (λ name. nonzero_at name.1 >>=
    (λ validity. nonzero_at validity.1 >>= (λ uid. Ok (targets.Real name.0 validity.0 uid.0, uid.1)))) y is in
    let name = one.value in
    let two = bound (nonzero_at name.1) (λ validity. nonzero_at validity.1 >>= (λ uid. Ok (targets.Real name.0 validity.0 uid.0, uid.1))) y one.later in
    let validity = two.value in
    let three = bound (nonzero_at validity.1) (λ uid. Ok (targets.Real name.0 validity.0 uid.0, uid.1)) y two.later in
    let uid = three.value in
    let n = name_reads bytes name all one.first in
    let v = nonzero_reads name.1 validity n.clean two.first in
    let u = nonzero_reads validity.1 uid v.clean three.first in
    follows_same target_field IsKeptTarget 82 bytes (targets.Real name.0 validity.0 uid.0, uid.1) y three.later
    (follow (target_field (targets.Real name.0 validity.0 uid.0)) 82 bytes uid.1 (IsKeptTarget (targets.Real name.0 validity.0 uid.0)) u.clean
    (front 82 _ _ (n.is ∙ behind (counted name.0) _ _ (v.is ∙ behind (to_be_bytes w32 validity.0) _ _ u.is)) ∙ sym (target_apart name.0 validity.0 uid.0 uid.1))
    (n.kept, v.kept, u.kept))

dummy_reads : (bytes : List ℕ) (y : Target × List ℕ) → AreBytes bytes → dummy_at bytes ≡ Ok y → Follows target_field IsKeptTarget 68 bytes y
unfolding dummy_at
dummy_reads bytes y all is =
    let one = bound (nonzero_at bytes) (λ id. Ok (targets.Dummy id.0, id.1)) y is in
    let id = one.value in
    let n = nonzero_reads bytes id all one.first in
    follows_same target_field IsKeptTarget 68 bytes (targets.Dummy id.0, id.1) y one.later
    (follow (target_field (targets.Dummy id.0)) 68 bytes id.1 (IsNumber id.0) n.clean (front 68 _ _ n.is) n.kept)

target_reads : (bytes : List ℕ) (y : Target × List ℕ) → AreBytes bytes → target_at bytes ≡ Ok y → Reads target_field IsKeptTarget bytes y
unfolding target_at
target_reads bytes y all is =
    let l = lettered bytes (λ letter. if letter.0 == 82 then real_at letter.1 else if letter.0 == 68 then dummy_at letter.1 else Err (length bytes)) y all is in
    elim (chosen l.b 82 (real_at l.more) (if l.b == 68 then dummy_at l.more else Err (length bytes)) y l.later) [
      | inl w ↦ lead target_field IsKeptTarget bytes l.b 82 l.more y l.is w.0 (real_reads l.more y l.clean w.1)
      | inr v ↦ elim (chosen l.b 68 (dummy_at l.more) (Err (length bytes)) y v) [
        | inl w ↦ lead target_field IsKeptTarget bytes l.b 68 l.more y l.is w.0 (dummy_reads l.more y l.clean w.1)
        | inr w ↦ absurd (cc w)
      ]
    ]

-- ---- actions

-- an action that was read
pub record IsReadAction (action : Action) : Type 0 where
  pub kept : IsKeptAction action
  pub writable : IsWritableAction action

flag_reads : (bytes : List ℕ) (y : Action × List ℕ) → AreBytes bytes → flag_at bytes ≡ Ok y → Follows action_fields IsReadAction 70 bytes y
unfolding flag_at
flag_reads bytes y all is =
    let one = bound (target_at bytes) (λ target. sign_at target.1 >>=
    (λ add. flags_at 1 add.1 >>= (λ flags. Ok (actions.Flag target.0 add.0 flags.0, flags.1)))) y is in
    let target = one.value in
    let two = bound (sign_at target.1) (λ add. flags_at 1 add.1 >>= (λ flags. Ok (actions.Flag target.0 add.0 flags.0, flags.1))) y one.later in
    let add = two.value in
    let three = bound (flags_at 1 add.1) (λ flags. Ok (actions.Flag target.0 add.0 flags.0, flags.1)) y two.later in
    let flags = three.value in
    let t = target_reads bytes target all one.first in
    let s = sign_reads target.1 add t.clean two.first in
    let f = flags_reads 1 add.1 flags s.clean three.first in
    follows_same action_fields IsReadAction 70 bytes (actions.Flag target.0 add.0 flags.0, flags.1) y three.later
    (follow (action_fields (actions.Flag target.0 add.0 flags.0)) 70 bytes flags.1 (IsReadAction (actions.Flag target.0 add.0 flags.0)) f.clean
    (front 70 _ _ (t.is ∙ behind (target_field target.0) _ _ (s.is ∙ front (sign add.0) _ _ f.is)
    ∙ sym (append_assoc (target_field target.0) (sign add.0 ∷ flag_field flags.0) flags.1)))
    (record { kept = (t.kept, f.kept.set); writable = (f.kept.some, f.kept.few) }))

move_reads : (bytes : List ℕ) (y : Action × List ℕ) → AreBytes bytes → move_at bytes ≡ Ok y → Follows action_fields IsReadAction 77 bytes y
unfolding move_at
move_reads bytes y all is =
    let one = bound (target_at bytes) (λ target. name_at target.1 >>= (λ to. Ok (actions.Move target.0 to.0, to.1))) y is in
    let target = one.value in
    let two = bound (name_at target.1) (λ to. Ok (actions.Move target.0 to.0, to.1)) y one.later in
    let to = two.value in
    let t = target_reads bytes target all one.first in
    let n = name_reads target.1 to t.clean two.first in
    follows_same action_fields IsReadAction 77 bytes (actions.Move target.0 to.0, to.1) y two.later
    (follow (action_fields (actions.Move target.0 to.0)) 77 bytes to.1 (IsReadAction (actions.Move target.0 to.0)) n.clean
    (front 77 _ _ (t.is ∙ behind (target_field target.0) _ _ n.is ∙ sym (append_assoc (target_field target.0) (counted to.0) to.1)))
    (record { kept = (t.kept, n.kept); writable = tt }))

-- a text and its Message-ID
record TextRead (bytes : List ℕ) (y : (List ℕ × List ℕ) × List ℕ) : Type 0 where
  is : bytes ≡ to_be_bytes w32 (length y.0.0) ++ (y.0.0 ++ y.1)
  id : HasMessageId y.0.0 y.0.1
  clean : AreBytes y.1

id_by : (left : ℕ) (text : List ℕ) (o : Option (List ℕ)) (y : List ℕ × List ℕ) → with_id left text o ≡ Ok y → (y.0 ≡ text) × (o ≡ Some y.1)
id_by left text None y is = absurd (cc)
id_by left text (Some id) y is = let same = ok_same (text, id) y is in
    (ap (λ (p : List ℕ × List ℕ). p.0) (sym same), ap (λ (p : List ℕ × List ℕ). Some p.1) same)

text_reads : (bytes : List ℕ) (y : (List ℕ × List ℕ) × List ℕ) → AreBytes bytes → text_at bytes ≡ Ok y → TextRead bytes y
unfolding text_at
text_reads bytes y all is =
    let one = bound (number_at w32 bytes) (λ size. octets_at size.0 size.1 >>=
    (λ text. with_id (length size.1) text.0 (the_id (id_bodies text.0)) >>= (λ told. Ok (told, text.1)))) y is in
    let size = one.value in
    let two = bound (octets_at size.0 size.1) (λ text. with_id (length size.1) text.0 (the_id (id_bodies text.0)) >>=
    (λ told. Ok (told, text.1))) y one.later in
    let text = two.value in
    let three = bound (with_id (length size.1) text.0 (the_id (id_bodies text.0))) (λ told. Ok (told, text.1)) y two.later in
    let told = three.value in
    let n = number_reads bytes size all one.first in
    let t = octets_reads size.0 size.1 text n.clean two.first in
    let i = id_by (length size.1) text.0 (the_id (id_bodies text.0)) told three.first in
    let id : HasMessageId text.0 told.1 = told_id text.0 told.1 i.1 in
    let long : length text.0 ≡ size.0 = t.kept in
    subst (λ z. TextRead bytes z) (ok_same (told, text.1) y three.later)
    (record {
      is = n.is ∙ behind (to_be_bytes w32 size.0) _ _ t.is ∙ ap (λ (n : ℕ). to_be_bytes w32 n ++ (text.0 ++ text.1)) (sym long)
          ∙ ap (λ (u : List ℕ). to_be_bytes w32 (length u) ++ (u ++ text.1)) (sym i.0);
      id = subst (λ (u : List ℕ). HasMessageId u told.1) (sym i.0) id;
      clean = t.clean;
    })

pub append_apart : (to : List ℕ) (flags : List (List ℕ)) (text id rest : List ℕ) →
    action_fields (actions.Append to flags text id) ++ rest ≡ 80 ∷
    (counted to ++ (flag_field flags ++ (to_be_bytes w32 (length text) ++ (text ++ rest))))
append_apart to flags text id rest =
    append_assoc (80 ∷ counted to ++ flag_field flags ++ to_be_bytes w32 (length text)) text rest
    ∙ four (80 ∷ counted to) (flag_field flags) (to_be_bytes w32 (length text)) (text ++ rest)

append_reads : (bytes : List ℕ) (y : Action × List ℕ) → AreBytes bytes → append_at bytes ≡ Ok y → Follows action_fields IsReadAction 80 bytes y
unfolding append_at
append_reads bytes y all is =
    let one = bound (name_at bytes) (λ to. flags_at 0 to.1 >>= (λ flags. text_at flags.1 >>=
    (λ text. Ok (actions.Append to.0 flags.0 text.0.0 text.0.1, text.1)))) y is in
    let to = one.value in
    let two = bound (flags_at 0 to.1) (λ flags. text_at flags.1 >>= (λ text. Ok (actions.Append to.0 flags.0 text.0.0 text.0.1, text.1))) y one.later in
    let flags = two.value in
    let three = bound (text_at flags.1) (λ text. Ok (actions.Append to.0 flags.0 text.0.0 text.0.1, text.1)) y two.later in
    let text = three.value in
    let n = name_reads bytes to all one.first in
    let f = flags_reads 0 to.1 flags n.clean two.first in
    let t = text_reads flags.1 text f.clean three.first in
    follows_same action_fields IsReadAction 80 bytes (actions.Append to.0 flags.0 text.0.0 text.0.1, text.1) y three.later
    (follow (action_fields (actions.Append to.0 flags.0 text.0.0 text.0.1)) 80 bytes text.1
    (IsReadAction (actions.Append to.0 flags.0 text.0.0 text.0.1)) t.clean
    (front 80 _ _ (n.is ∙ behind (counted to.0) _ _ (f.is ∙ behind (flag_field flags.0) _ _ t.is)) ∙ sym (append_apart to.0 flags.0 text.0.0 text.0.1 text.1))
    (record { kept = (n.kept, f.kept.set); writable = (f.kept.few, t.id) }))

pub action_reads : (bytes : List ℕ) (y : Action × List ℕ) → AreBytes bytes → action_at bytes ≡ Ok y → Reads action_fields IsReadAction bytes y
unfolding action_at
action_reads bytes y all is =
    let l = lettered bytes
    (λ letter. if letter.0 == 70 then flag_at letter.1 else if letter.0 == 77 then move_at letter.1 else if letter.0 == 80 then
    append_at letter.1 else Err (length bytes)) y all is in
    elim (chosen l.b 70 (flag_at l.more) (if l.b == 77 then move_at l.more else if l.b == 80 then append_at l.more else Err (length bytes)) y l.later) [
      | inl w ↦ lead action_fields IsReadAction bytes l.b 70 l.more y l.is w.0 (flag_reads l.more y l.clean w.1)
      | inr v ↦ elim (chosen l.b 77 (move_at l.more) (if l.b == 80 then append_at l.more else Err (length bytes)) y v) [
        | inl w ↦ lead action_fields IsReadAction bytes l.b 77 l.more y l.is w.0 (move_reads l.more y l.clean w.1)
        | inr u ↦ elim (chosen l.b 80 (append_at l.more) (Err (length bytes)) y u) [
          | inl w ↦ lead action_fields IsReadAction bytes l.b 80 l.more y l.is w.0 (append_reads l.more y l.clean w.1)
          | inr w ↦ absurd (cc w)
        ]
      ]
    ]

-- ---- intents

pub store_apart : (name : List ℕ) (validity uid modseq : ℕ) (rest : List ℕ) →
    intent_fields (intents.Store name validity uid modseq) ++ rest
    ≡ 83 ∷ (counted name ++ (to_be_bytes w32 validity ++ (to_be_bytes w32 uid ++ (to_be_bytes w64 modseq ++ rest))))
store_apart name validity uid modseq rest =
    append_assoc (83 ∷ counted name ++ to_be_bytes w32 validity ++ to_be_bytes w32 uid) (to_be_bytes w64 modseq) rest
    ∙ four (83 ∷ counted name) (to_be_bytes w32 validity) (to_be_bytes w32 uid) (to_be_bytes w64 modseq ++ rest)

store_reads : (bytes : List ℕ) (y : Intent × List ℕ) → AreBytes bytes → store_at bytes ≡ Ok y → Follows intent_fields IsKeptIntent 83 bytes y
unfolding store_at
store_reads bytes y all is =
    let one = bound (name_at bytes) (λ name. nonzero_at name.1 >>=
    (λ validity. nonzero_at validity.1 >>= (λ uid. modseq_at uid.1 >>=
    (λ modseq. Ok (intents.Store name.0 validity.0 uid.0 modseq.0, modseq.1))))) y is in
    let name = one.value in
    let two = bound (nonzero_at name.1) (λ validity. nonzero_at validity.1 >>=
    (λ uid. modseq_at uid.1 >>= (λ modseq. Ok (intents.Store name.0 validity.0 uid.0 modseq.0, modseq.1)))) y one.later in
    let validity = two.value in
    let three = bound (nonzero_at validity.1) (λ uid. modseq_at uid.1 >>=
    (λ modseq. Ok (intents.Store name.0 validity.0 uid.0 modseq.0, modseq.1))) y two.later in
    let uid = three.value in
    let last = bound (modseq_at uid.1) (λ modseq. Ok (intents.Store name.0 validity.0 uid.0 modseq.0, modseq.1)) y three.later in
    let modseq = last.value in
    let n = name_reads bytes name all one.first in
    let v = nonzero_reads name.1 validity n.clean two.first in
    let u = nonzero_reads validity.1 uid v.clean three.first in
    let m = modseq_reads uid.1 modseq u.clean last.first in
    follows_same intent_fields IsKeptIntent 83 bytes (intents.Store name.0 validity.0 uid.0 modseq.0, modseq.1) y last.later
    (follow (intent_fields (intents.Store name.0 validity.0 uid.0 modseq.0)) 83 bytes modseq.1
    (IsKeptIntent (intents.Store name.0 validity.0 uid.0 modseq.0)) m.clean
    (front 83 _ _ (n.is ∙ behind (counted name.0) _ _ (v.is ∙ behind (to_be_bytes w32 validity.0) _ _
    (u.is ∙ behind (to_be_bytes w32 uid.0) _ _ m.is))) ∙ sym (store_apart name.0 validity.0 uid.0 modseq.0 modseq.1))
    (n.kept, v.kept, u.kept, m.kept))

pub shift_apart : (from : List ℕ) (validity uid : ℕ) (to rest : List ℕ) →
    intent_fields (intents.Shift from validity uid to) ++ rest ≡ 77 ∷
    (counted from ++ (to_be_bytes w32 validity ++ (to_be_bytes w32 uid ++ (counted to ++ rest))))
shift_apart from validity uid to rest =
    append_assoc (77 ∷ counted from ++ to_be_bytes w32 validity ++ to_be_bytes w32 uid) (counted to) rest
    ∙ four (77 ∷ counted from) (to_be_bytes w32 validity) (to_be_bytes w32 uid) (counted to ++ rest)

shift_reads : (bytes : List ℕ) (y : Intent × List ℕ) → AreBytes bytes → shift_at bytes ≡ Ok y → Follows intent_fields IsKeptIntent 77 bytes y
unfolding shift_at
shift_reads bytes y all is =
    let one = bound (name_at bytes) (λ from. nonzero_at from.1 >>=
    (λ validity. nonzero_at validity.1 >>= (λ uid. name_at uid.1 >>=
    (λ to. Ok (intents.Shift from.0 validity.0 uid.0 to.0, to.1))))) y is in
    let from = one.value in
    let two = bound (nonzero_at from.1) (λ validity. nonzero_at validity.1 >>=
    (λ uid. name_at uid.1 >>= (λ to. Ok (intents.Shift from.0 validity.0 uid.0 to.0, to.1)))) y one.later in
    let validity = two.value in
    let three = bound (nonzero_at validity.1) (λ uid. name_at uid.1 >>= (λ to. Ok (intents.Shift from.0 validity.0 uid.0 to.0, to.1))) y two.later in
    let uid = three.value in
    let last = bound (name_at uid.1) (λ to. Ok (intents.Shift from.0 validity.0 uid.0 to.0, to.1)) y three.later in
    let to = last.value in
    let n = name_reads bytes from all one.first in
    let v = nonzero_reads from.1 validity n.clean two.first in
    let u = nonzero_reads validity.1 uid v.clean three.first in
    let t = name_reads uid.1 to u.clean last.first in
    follows_same intent_fields IsKeptIntent 77 bytes (intents.Shift from.0 validity.0 uid.0 to.0, to.1) y last.later
    (follow (intent_fields (intents.Shift from.0 validity.0 uid.0 to.0)) 77 bytes to.1 (IsKeptIntent (intents.Shift from.0 validity.0 uid.0 to.0)) t.clean
    (front 77 _ _ (n.is ∙ behind (counted from.0) _ _ (v.is ∙ behind (to_be_bytes w32 validity.0) _ _
    (u.is ∙ behind (to_be_bytes w32 uid.0) _ _ t.is))) ∙ sym (shift_apart from.0 validity.0 uid.0 to.0 to.1))
    (n.kept, v.kept, u.kept, t.kept))

put_reads : (bytes : List ℕ) (y : Intent × List ℕ) → AreBytes bytes → put_at bytes ≡ Ok y → Follows intent_fields IsKeptIntent 80 bytes y
unfolding put_at
put_reads bytes y all is =
    let one = bound (name_at bytes) (λ to. nonzero_at to.1 >>= (λ validity. nonzero_at validity.1 >>=
    (λ uidnext. Ok (intents.Put to.0 validity.0 uidnext.0, uidnext.1)))) y is in
    let to = one.value in
    let two = bound (nonzero_at to.1) (λ validity. nonzero_at validity.1 >>= (λ uidnext. Ok (intents.Put to.0 validity.0 uidnext.0, uidnext.1))) y one.later in
    let validity = two.value in
    let three = bound (nonzero_at validity.1) (λ uidnext. Ok (intents.Put to.0 validity.0 uidnext.0, uidnext.1)) y two.later in
    let uidnext = three.value in
    let n = name_reads bytes to all one.first in
    let v = nonzero_reads to.1 validity n.clean two.first in
    let u = nonzero_reads validity.1 uidnext v.clean three.first in
    follows_same intent_fields IsKeptIntent 80 bytes (intents.Put to.0 validity.0 uidnext.0, uidnext.1) y three.later
    (follow (intent_fields (intents.Put to.0 validity.0 uidnext.0)) 80 bytes uidnext.1 (IsKeptIntent (intents.Put to.0 validity.0 uidnext.0)) u.clean
    (front 80 _ _ (n.is ∙ behind (counted to.0) _ _ (v.is ∙ behind (to_be_bytes w32 validity.0) _ _ u.is))
    ∙ sym (four (80 ∷ counted to.0) (to_be_bytes w32 validity.0) (to_be_bytes w32 uidnext.0) uidnext.1))
    (n.kept, v.kept, u.kept))

pub intent_reads : (bytes : List ℕ) (y : Intent × List ℕ) → AreBytes bytes → intent_at bytes ≡ Ok y → Reads intent_fields IsKeptIntent bytes y
unfolding intent_at
intent_reads bytes y all is =
    let l = lettered bytes
    (λ letter. if letter.0 == 83 then store_at letter.1 else if letter.0 == 77 then shift_at letter.1 else if letter.0 == 80 then
    put_at letter.1 else Err (length bytes)) y all is in
    elim (chosen l.b 83 (store_at l.more) (if l.b == 77 then shift_at l.more else if l.b == 80 then put_at l.more else Err (length bytes)) y l.later) [
      | inl w ↦ lead intent_fields IsKeptIntent bytes l.b 83 l.more y l.is w.0 (store_reads l.more y l.clean w.1)
      | inr v ↦ elim (chosen l.b 77 (shift_at l.more) (if l.b == 80 then put_at l.more else Err (length bytes)) y v) [
        | inl w ↦ lead intent_fields IsKeptIntent bytes l.b 77 l.more y l.is w.0 (shift_reads l.more y l.clean w.1)
        | inr u ↦ elim (chosen l.b 80 (put_at l.more) (Err (length bytes)) y u) [
          | inl w ↦ lead intent_fields IsKeptIntent bytes l.b 80 l.more y l.is w.0 (put_reads l.more y l.clean w.1)
          | inr w ↦ absurd (cc w)
        ]
      ]
    ]

-- ---- outcomes

none_reads : (bytes : List ℕ) (y : Option Place × List ℕ) → AreBytes bytes → ◌≡◌ {A = Reading (Option Place)} (Ok (None, bytes)) (Ok y) →
    Follows place_fields IsKeptPlace 0 bytes y
none_reads bytes y all is = follows_same place_fields IsKeptPlace 0 bytes (None, bytes) y is
    (follow (place_fields None) 0 bytes bytes (IsKeptPlace None) all refl tt)

landed_reads : (bytes : List ℕ) (y : Option Place × List ℕ) → AreBytes bytes → landed_at bytes ≡ Ok y → Follows place_fields IsKeptPlace 1 bytes y
unfolding landed_at
landed_reads bytes y all is =
    let one = bound (nonzero_at bytes) (λ validity. nonzero_at validity.1 >>= (λ uid. Ok (Some (record { validity = validity.0; uid = uid.0 }), uid.1))) y is in
    let validity = one.value in
    let two = bound (nonzero_at validity.1) (λ uid. Ok (Some (record { validity = validity.0; uid = uid.0 }), uid.1)) y one.later in
    let uid = two.value in
    let v = nonzero_reads bytes validity all one.first in
    let u = nonzero_reads validity.1 uid v.clean two.first in
    let place : Place = record { validity = validity.0; uid = uid.0 } in
    follows_same place_fields IsKeptPlace 1 bytes (Some place, uid.1) y two.later
    (follow (place_fields (Some place)) 1 bytes uid.1 (IsKeptPlace (Some place)) u.clean
    (front 1 _ _ (v.is ∙ behind (to_be_bytes w32 validity.0) _ _ u.is)) (v.kept, u.kept))

place_reads : (bytes : List ℕ) (y : Option Place × List ℕ) → AreBytes bytes → place_at bytes ≡ Ok y → Reads place_fields IsKeptPlace bytes y
unfolding place_at
place_reads bytes y all is =
    let l = lettered bytes (λ b. if b.0 == 0 then Ok (None, b.1) else if b.0 == 1 then landed_at b.1 else Err (length bytes)) y all is in
    elim (chosen l.b 0 (Ok (None, l.more)) (if l.b == 1 then landed_at l.more else Err (length bytes)) y l.later) [
      | inl w ↦ lead place_fields IsKeptPlace bytes l.b 0 l.more y l.is w.0 (none_reads l.more y l.clean w.1)
      | inr v ↦ elim (chosen l.b 1 (landed_at l.more) (Err (length bytes)) y v) [
        | inl w ↦ lead place_fields IsKeptPlace bytes l.b 1 l.more y l.is w.0 (landed_reads l.more y l.clean w.1)
        | inr w ↦ absurd (cc w)
      ]
    ]

changed_reads : (bytes : List ℕ) (y : Kind × List ℕ) → AreBytes bytes → changed_at bytes ≡ Ok y → Follows kind_fields IsKeptKind 3 bytes y
unfolding changed_at
changed_reads bytes y all is =
    let one = bound (modseq_at bytes) (λ m. Ok (kinds.FlagsChanged m.0, m.1)) y is in
    let m = modseq_reads bytes one.value all one.first in
    follows_same kind_fields IsKeptKind 3 bytes (kinds.FlagsChanged one.value.0, one.value.1) y one.later
    (follow (kind_fields (kinds.FlagsChanged one.value.0)) 3 bytes one.value.1 (IsModSeq one.value.0) m.clean (front 3 _ _ m.is) m.kept)

unknown_reads : (bytes : List ℕ) (y : Kind × List ℕ) → AreBytes bytes → unknown_at bytes ≡ Ok y → Follows kind_fields IsKeptKind 7 bytes y
unfolding unknown_at
unknown_reads bytes y all is =
    let one = bound (nonzero_at bytes) (λ k. Ok (kinds.TargetUnknown k.0, k.1)) y is in
    let k = nonzero_reads bytes one.value all one.first in
    follows_same kind_fields IsKeptKind 7 bytes (kinds.TargetUnknown one.value.0, one.value.1) y one.later
    (follow (kind_fields (kinds.TargetUnknown one.value.0)) 7 bytes one.value.1 (IsNumber one.value.0) k.clean (front 7 _ _ k.is) k.kept)

unsure_reads : (bytes : List ℕ) (y : Kind × List ℕ) → AreBytes bytes → unsure_at bytes ≡ Ok y → Follows kind_fields IsKeptKind 9 bytes y
unfolding unsure_at
unsure_reads bytes y all is =
    let one = bound (modseq_at bytes) (λ m. modseq_at m.1 >>= (λ f. Ok (kinds.StoreUnsure m.0 f.0, f.1))) y is in
    let m = one.value in
    let two = bound (modseq_at m.1) (λ f. Ok (kinds.StoreUnsure m.0 f.0, f.1)) y one.later in
    let f = two.value in
    let a = modseq_reads bytes m all one.first in
    let b = modseq_reads m.1 f a.clean two.first in
    follows_same kind_fields IsKeptKind 9 bytes (kinds.StoreUnsure m.0 f.0, f.1) y two.later
    (follow (kind_fields (kinds.StoreUnsure m.0 f.0)) 9 bytes f.1 (IsKeptKind (kinds.StoreUnsure m.0 f.0)) b.clean
    (front 9 _ _ (a.is ∙ behind (to_be_bytes w64 m.0) _ _ b.is)) (a.kept, b.kept))

ambiguous_reads : (bytes : List ℕ) (y : Kind × List ℕ) → AreBytes bytes → ambiguous_at bytes ≡ Ok y → Follows kind_fields IsKeptKind 12 bytes y
unfolding ambiguous_at
ambiguous_reads bytes y all is =
    let one = bound (nonzero_at bytes) (λ u. nonzero_at u.1 >>= (λ v. Ok (kinds.Ambiguous u.0 v.0, v.1))) y is in
    let u = one.value in
    let two = bound (nonzero_at u.1) (λ v. Ok (kinds.Ambiguous u.0 v.0, v.1)) y one.later in
    let v = two.value in
    let a = nonzero_reads bytes u all one.first in
    let b = nonzero_reads u.1 v a.clean two.first in
    follows_same kind_fields IsKeptKind 12 bytes (kinds.Ambiguous u.0 v.0, v.1) y two.later
    (follow (kind_fields (kinds.Ambiguous u.0 v.0)) 12 bytes v.1 (IsKeptKind (kinds.Ambiguous u.0 v.0)) b.clean
    (front 12 _ _ (a.is ∙ behind (to_be_bytes w32 u.0) _ _ b.is)) (a.kept, b.kept))

changed_validity_reads : (bytes : List ℕ) (y : Kind × List ℕ) → AreBytes bytes → changed_validity_at bytes ≡ Ok y → Follows kind_fields IsKeptKind 13 bytes y
unfolding changed_validity_at
changed_validity_reads bytes y all is =
    let one = bound (nonzero_at bytes) (λ u. nonzero_at u.1 >>= (λ v. Ok (kinds.ValidityChanged u.0 v.0, v.1))) y is in
    let u = one.value in
    let two = bound (nonzero_at u.1) (λ v. Ok (kinds.ValidityChanged u.0 v.0, v.1)) y one.later in
    let v = two.value in
    let a = nonzero_reads bytes u all one.first in
    let b = nonzero_reads u.1 v a.clean two.first in
    follows_same kind_fields IsKeptKind 13 bytes (kinds.ValidityChanged u.0 v.0, v.1) y two.later
    (follow (kind_fields (kinds.ValidityChanged u.0 v.0)) 13 bytes v.1 (IsKeptKind (kinds.ValidityChanged u.0 v.0)) b.clean
    (front 13 _ _ (a.is ∙ behind (to_be_bytes w32 u.0) _ _ b.is)) (a.kept, b.kept))

reset_loss_reads : (bytes : List ℕ) (y : Kind × List ℕ) → AreBytes bytes → reset_loss_at bytes ≡ Ok y → Follows kind_fields IsKeptKind 14 bytes y
unfolding reset_loss_at
reset_loss_reads bytes y all is =
    let one = bound (nonzero_at bytes) (λ u. nonzero_at u.1 >>= (λ v. Ok (kinds.ResetAfterLoss u.0 v.0, v.1))) y is in
    let u = one.value in
    let two = bound (nonzero_at u.1) (λ v. Ok (kinds.ResetAfterLoss u.0 v.0, v.1)) y one.later in
    let v = two.value in
    let a = nonzero_reads bytes u all one.first in
    let b = nonzero_reads u.1 v a.clean two.first in
    follows_same kind_fields IsKeptKind 14 bytes (kinds.ResetAfterLoss u.0 v.0, v.1) y two.later
    (follow (kind_fields (kinds.ResetAfterLoss u.0 v.0)) 14 bytes v.1 (IsKeptKind (kinds.ResetAfterLoss u.0 v.0)) b.clean
    (front 14 _ _ (a.is ∙ behind (to_be_bytes w32 u.0) _ _ b.is)) (a.kept, b.kept))

-- a kind without numbers
bare_reads : (kind : Kind) (b k : ℕ) (bytes more : List ℕ) (y : Kind × List ℕ) → AreBytes more → bytes ≡ b ∷ more →
    kind_fields kind ≡ k ∷ [] → IsKeptKind kind → (b ≡ k) × ◌≡◌ {A = Reading Kind} (Ok (kind, more)) (Ok y) →
    Reads kind_fields IsKeptKind bytes y
bare_reads kind b k bytes more y all is spelled kept w =
    reads_same kind_fields IsKeptKind bytes (kind, more) y w.1
    (record { is = is ∙ ap (λ (c : ℕ). c ∷ more) w.0 ∙ ap (λ (t : List ℕ). t ++ more) (sym spelled); kept = kept; clean = all })

-- the kinds behind the twelfth
renewed_reads : (bytes : List ℕ) (b : ℕ) (more : List ℕ) (y : Kind × List ℕ) → bytes ≡ b ∷ more → AreBytes more →
    (if b == 13 then changed_validity_at more else if b == 14 then reset_loss_at more else Err (length bytes)) ≡ Ok y →
    Reads kind_fields IsKeptKind bytes y
renewed_reads bytes b more y is clean v13 =
    elim (chosen b 13 (changed_validity_at more) (if b == 14 then reset_loss_at more else Err (length bytes)) y v13) [
      | inl w ↦ lead kind_fields IsKeptKind bytes b 13 more y is w.0 (changed_validity_reads more y clean w.1)
      | inr v14 ↦
          elim (chosen b 14 (reset_loss_at more) (Err (length bytes)) y v14) [
            | inl w ↦ lead kind_fields IsKeptKind bytes b 14 more y is w.0 (reset_loss_reads more y clean w.1)
            | inr w ↦ absurd (cc w)
          ]
    ]

kind_reads : (bytes : List ℕ) (y : Kind × List ℕ) → AreBytes bytes → kind_at bytes ≡ Ok y → Reads kind_fields IsKeptKind bytes y
unfolding kind_at
kind_reads bytes y all is =
    let l = lettered bytes (λ b. kind_by b.0 (length bytes) b.1) y all is in
    let b = l.b in
    let more = l.more in
    let bare = λ (kind : Kind) (k : ℕ). bare_reads kind b k bytes more y l.clean l.is in
    let led = λ (k : ℕ). lead kind_fields IsKeptKind bytes b k more y l.is in
    elim (chosen b 1 (Ok (kinds.MessageGone, more)) _ y l.later) [
      | inl w ↦ bare kinds.MessageGone 1 refl tt w
      | inr v2 ↦
          elim (chosen b 2 (Ok (kinds.AlreadySo, more)) _ y v2) [
            | inl w ↦ bare kinds.AlreadySo 2 refl tt w
            | inr v3 ↦
                elim (chosen b 3 (changed_at more) _ y v3) [
                  | inl w ↦ led 3 w.0 (changed_reads more y l.clean w.1)
                  | inr v4 ↦
                      elim (chosen b 4 (Ok (kinds.RefusedNo, more)) _ y v4) [
                        | inl w ↦ bare kinds.RefusedNo 4 refl tt w
                        | inr v5 ↦
                            elim (chosen b 5 (Ok (kinds.RefusedBad, more)) _ y v5) [
                              | inl w ↦ bare kinds.RefusedBad 5 refl tt w
                              | inr v6 ↦
                                  elim (chosen b 6 (Ok (kinds.NotPermanent, more)) _ y v6) [
                                    | inl w ↦ bare kinds.NotPermanent 6 refl tt w
                                    | inr v7 ↦
                                        elim (chosen b 7 (unknown_at more) _ y v7) [
                                          | inl w ↦ led 7 w.0 (unknown_reads more y l.clean w.1)
                                          | inr v8 ↦
                                              elim (chosen b 8 (Ok (kinds.FoundSo, more)) _ y v8) [
                                                | inl w ↦ bare kinds.FoundSo 8 refl tt w
                                                | inr v9 ↦
                                                    elim (chosen b 9 (unsure_at more) _ y v9) [
                                                      | inl w ↦ led 9 w.0 (unsure_reads more y l.clean w.1)
                                                      | inr v10 ↦
                                                          elim (chosen b 10 (Ok (kinds.SourceGone, more)) _ y v10) [
                                                            | inl w ↦ bare kinds.SourceGone 10 refl tt w
                                                            | inr v11 ↦
                                                                elim (chosen b 11 (Ok (kinds.GoneAfterLoss, more)) _ y v11) [
                                                                  | inl w ↦ bare kinds.GoneAfterLoss 11 refl tt w
                                                                  | inr v12 ↦
                                                                      elim (chosen b 12 (ambiguous_at more) _ y v12) [
                                                                        | inl w ↦ led 12 w.0
                                                                            (ambiguous_reads more y l.clean w.1)
                                                                        | inr v13 ↦ renewed_reads bytes b more y l.is l.clean v13
                                                                      ]
                                                                ]
                                                          ]
                                                    ]
                                              ]
                                        ]
                                  ]
                            ]
                      ]
                ]
          ]
    ]

done_reads : (bytes : List ℕ) (y : Outcome × List ℕ) → AreBytes bytes → done_at bytes ≡ Ok y → Follows outcome_fields IsKeptOutcome 68 bytes y
unfolding done_at
done_reads bytes y all is =
    let one = bound (place_at bytes) (λ place. Ok (outcomes.Done place.0, place.1)) y is in
    let p = place_reads bytes one.value all one.first in
    follows_same outcome_fields IsKeptOutcome 68 bytes (outcomes.Done one.value.0, one.value.1) y one.later
    (follow (outcome_fields (outcomes.Done one.value.0)) 68 bytes one.value.1 (IsKeptPlace one.value.0) p.clean (front 68 _ _ p.is) p.kept)

conflict_reads : (bytes : List ℕ) (y : Outcome × List ℕ) → AreBytes bytes → conflict_at bytes ≡ Ok y → Follows outcome_fields IsKeptOutcome 67 bytes y
unfolding conflict_at
conflict_reads bytes y all is =
    let one = bound (kind_at bytes) (λ kind. Ok (outcomes.Conflict kind.0, kind.1)) y is in
    let p = kind_reads bytes one.value all one.first in
    follows_same outcome_fields IsKeptOutcome 67 bytes (outcomes.Conflict one.value.0, one.value.1) y one.later
    (follow (outcome_fields (outcomes.Conflict one.value.0)) 67 bytes one.value.1 (IsKeptKind one.value.0) p.clean (front 67 _ _ p.is) p.kept)

pub outcome_reads : (bytes : List ℕ) (y : Outcome × List ℕ) → AreBytes bytes → outcome_at bytes ≡ Ok y → Reads outcome_fields IsKeptOutcome bytes y
unfolding outcome_at
outcome_reads bytes y all is =
    let l = lettered bytes (λ letter. if letter.0 == 68 then done_at letter.1 else if letter.0 == 67 then conflict_at letter.1 else Err
    (length bytes)) y all is in
    elim (chosen l.b 68 (done_at l.more) (if l.b == 67 then conflict_at l.more else Err (length bytes)) y l.later) [
      | inl w ↦ lead outcome_fields IsKeptOutcome bytes l.b 68 l.more y l.is w.0 (done_reads l.more y l.clean w.1)
      | inr v ↦ elim (chosen l.b 67 (conflict_at l.more) (Err (length bytes)) y v) [
        | inl w ↦ lead outcome_fields IsKeptOutcome bytes l.b 67 l.more y l.is w.0 (conflict_reads l.more y l.clean w.1)
        | inr w ↦ absurd (cc w)
      ]
    ]

-- ---- what a mailbox became

abbrev pub mark_of : Told → List ℕ
mark_of told = to_be_bytes w32 told.validity ++ to_be_bytes w64 told.highest ++ to_be_bytes w32 told.uidnext

abbrev pub told_fields : Told → List ℕ
told_fields told = bit told.whole ∷ mark_of told ++ range_fields told.vanished ++ row_fields told.rows

pub told_apart : (told : Told) (rest : List ℕ) → told_fields told ++ rest
    ≡ bit told.whole ∷ (to_be_bytes w32 told.validity ++ (to_be_bytes w64 told.highest
    ++ (to_be_bytes w32 told.uidnext ++ (range_fields told.vanished ++ (row_fields told.rows ++ rest)))))
told_apart told rest = append_assoc (bit told.whole ∷ mark_of told ++ range_fields told.vanished) (row_fields told.rows) rest

-- a delta that was read
pub record IsKeptTold (told : Told) : Type 0 where
  pub validity : IsNumber told.validity
  pub highest : IsModSeq told.highest
  pub uidnext : IsNumber told.uidnext
  pub vanished : IsCanonical told.vanished
  pub rows : AreKeptRows told.vanished told.rows

pub told_reads : (bytes : List ℕ) (y : Told × List ℕ) → AreBytes bytes → told_at bytes ≡ Ok y → Reads told_fields IsKeptTold bytes y
unfolding told_at
told_reads bytes y all is =
    let one = bound (bit_at bytes) (λ whole. nonzero_at whole.1 >>=
    (λ validity. modseq_at validity.1 >>= (λ highest. nonzero_at highest.1 >>=
    (λ uidnext. vanished_at uidnext.1 >>= (λ vanished. row_list_at vanished.0 vanished.1 >>= (λ rows.
    Ok (record { whole = whole.0; validity = validity.0; highest = highest.0; uidnext = uidnext.0; vanished = vanished.0; rows = rows.0 }, rows.1))))))) y is in
    let whole = one.value in
    let two = bound (nonzero_at whole.1) (λ validity. modseq_at validity.1 >>=
    (λ highest. nonzero_at highest.1 >>= (λ uidnext. vanished_at uidnext.1 >>=
    (λ vanished. row_list_at vanished.0 vanished.1 >>= (λ rows.
    Ok (
      record { whole = whole.0; validity = validity.0; highest = highest.0; uidnext = uidnext.0; vanished = vanished.0; rows = rows.0 },
      rows.1,
    )))))) y one.later in
    let validity = two.value in
    let three = bound (modseq_at validity.1) (λ highest. nonzero_at highest.1 >>=
    (λ uidnext. vanished_at uidnext.1 >>= (λ vanished. row_list_at vanished.0 vanished.1 >>= (λ rows.
    Ok (
      record { whole = whole.0; validity = validity.0; highest = highest.0; uidnext = uidnext.0; vanished = vanished.0; rows = rows.0 },
      rows.1,
    ))))) y two.later in
    let highest = three.value in
    let fourth = bound (nonzero_at highest.1) (λ uidnext. vanished_at uidnext.1 >>= (λ vanished. row_list_at vanished.0 vanished.1 >>= (λ rows.
    Ok (
      record { whole = whole.0; validity = validity.0; highest = highest.0; uidnext = uidnext.0; vanished = vanished.0; rows = rows.0 },
      rows.1,
    )))) y three.later in
    let uidnext = fourth.value in
    let fifth = bound (vanished_at uidnext.1) (λ vanished. row_list_at vanished.0 vanished.1 >>= (λ rows.
    Ok (
      record { whole = whole.0; validity = validity.0; highest = highest.0; uidnext = uidnext.0; vanished = vanished.0; rows = rows.0 },
      rows.1,
    ))) y fourth.later in
    let vanished = fifth.value in
    let last = bound (row_list_at vanished.0 vanished.1) (λ rows.
    Ok (
      record { whole = whole.0; validity = validity.0; highest = highest.0; uidnext = uidnext.0; vanished = vanished.0; rows = rows.0 },
      rows.1,
    )) y fifth.later in
    let rows = last.value in
    let w = bit_reads bytes whole all one.first in
    let v = nonzero_reads whole.1 validity w.clean two.first in
    let h = modseq_reads validity.1 highest v.clean three.first in
    let u = nonzero_reads highest.1 uidnext h.clean fourth.first in
    let g = vanished_reads uidnext.1 vanished u.clean fifth.first in
    let r = row_list_reads vanished.0 vanished.1 rows g.clean last.first in
    let told : Told = record { whole = whole.0; validity = validity.0; highest = highest.0; uidnext = uidnext.0; vanished = vanished.0; rows = rows.0 } in
    reads_same told_fields IsKeptTold bytes (told, rows.1) y last.later
    (record {
      is = w.is ∙ front (bit whole.0) _ _ (v.is ∙ behind (to_be_bytes w32 validity.0) _ _
          (h.is ∙ behind (to_be_bytes w64 highest.0) _ _ (u.is ∙ behind (to_be_bytes w32 uidnext.0) _ _
          (g.is ∙ behind (range_fields vanished.0) _ _ r.is)))) ∙ sym (told_apart told rows.1);
      kept = record { validity = v.kept; highest = h.kept; uidnext = u.kept; vanished = g.kept; rows = r.kept };
      clean = r.clean;
    })

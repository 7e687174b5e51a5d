-- The body of a record tells its event, field by field.
use Rattle.std.proofs.Common.{◌≡◌, ℕ, ◌+◌, ◌<◌, ◌≤◌, ◌^◌, Bool, true, false, Option, Some, None, List, [], ◌∷◌, ◌++◌, length, refl, ap}
use Rattle.std.proofs.Common.{sym, subst, ◌∙◌, append_assoc, arith}
use Rattle.std.specs.Int.{w32, w64, to_be_bytes}
use Rattle.std.specs.List.{flat_map, AllByRecursion}
use Rattle.std.proofs.lemmas.List.{length-append}
use Rattle.mail_base.specs.declared.limits.TheConstants.{MAX_ROWS}
use Rattle.mail_header.specs.Identifier.{PlacedBody, id_bodies, id_of, HasMessageId}
use Rattle.mail_base.proofs.SameFront.{length_same}
use Rattle.uid_sets.specs.UidSet.{RisesAbove, IsCanonical}
use Rattle.uid_sets.specs.declared.uid.UidRange.{UidRange}
use Rattle.mailbox_cache.specs.Rows.{Rises, Rises-prop, AreApart, AreApart-prop}
use Rattle.mailbox_cache.specs.declared.row.Row.{Row}
use Rattle.mailbox_cache.specs.declared.delta.Delta.{Delta}
use Rattle.action_queue.specs.Writable.{IsWritable, IsWritableAction, HaveFewFlags}
use Rattle.action_queue.specs.declared.target.Target.{Target}
use Rattle.action_queue.specs.declared.target.Target.TheVariants as targets
use Rattle.action_queue.specs.declared.action.Action.{Action}
use Rattle.action_queue.specs.declared.action.Action.TheVariants as actions
use Rattle.action_queue.specs.declared.intent.Intent.{Intent}
use Rattle.action_queue.specs.declared.intent.Intent.TheVariants as intents
use Rattle.action_queue.specs.declared.outcome.Place.{Place}
use Rattle.action_queue.specs.declared.outcome.Kind.{Kind}
use Rattle.action_queue.specs.declared.outcome.Kind.TheVariants as kinds
use Rattle.action_queue.specs.declared.outcome.Outcome.{Outcome}
use Rattle.action_queue.specs.declared.outcome.Outcome.TheVariants as outcomes
use Rattle.action_queue.specs.declared.event.Event.{Event}
use Rattle.action_queue.specs.declared.event.Event.TheVariants as events
use Rattle.record_codec.specs.Fields.{counted, flag_field, target_field, sign, bit, range_field, row_field}
use Rattle.record_codec.specs.Bodies.{action_fields, intent_fields, place_fields, kind_fields, outcome_fields, mark_fields, range_fields}
use Rattle.record_codec.specs.Bodies.{row_fields, delta_fields, body_of}
use Rattle.record_codec.specs.Spelling.{IsKeptTarget, IsKeptAction, IsKeptIntent, IsKeptPlace, IsKeptKind, IsKeptOutcome, IsKeptRow}
use Rattle.record_codec.specs.Spelling.{IsKeptDelta, IsKept, OneEvent}
use Rattle.record_codec.proofs.Counts.{few_ranges}
use Rattle.record_codec.proofs.Cutting.{byte_same, number_same, long_same, counted_same, many_same, texts_same, flags_same}

-- with nothing behind it
abbrev ended : List ℕ → List ℕ
ended bytes = bytes ++ []

pub three : (a b c : List ℕ) → (a ++ b) ++ c ≡ a ++ (b ++ c)
three a b c = append_assoc a b c

pub four : (a b c d : List ℕ) → ((a ++ b) ++ c) ++ d ≡ a ++ (b ++ (c ++ d))
four a b c d = append_assoc (a ++ b) c d ∙ append_assoc a b (c ++ d)

pub target_apart : (name : List ℕ) (validity uid : ℕ) (r : List ℕ) →
    target_field (targets.Real name validity uid) ++ r ≡ 82 ∷ (counted name ++ (to_be_bytes w32 validity ++ (to_be_bytes w32 uid ++ r)))
target_apart name validity uid r = four (82 ∷ counted name) (to_be_bytes w32 validity) (to_be_bytes w32 uid) r

target_same : (a b : Target) (r s : List ℕ) → IsKeptTarget a → IsKeptTarget b → target_field a ++ r ≡ target_field b ++ s → (a ≡ b) × (r ≡ s)
target_same (targets.Real n v u) (targets.Real n' v' u') r s kept kept' same =
    let whole = sym (target_apart n v u r) ∙ same ∙ target_apart n' v' u' s in
    let fields = byte_same 82 82 _ _ whole in
    let names = counted_same n n' (to_be_bytes w32 v ++ (to_be_bytes w32 u ++ r)) (to_be_bytes w32 v' ++ (to_be_bytes w32 u' ++ s)) fields.1 in
    let validities = number_same v v' (to_be_bytes w32 u ++ r) (to_be_bytes w32 u' ++ s) kept.1.1 kept'.1.1 names.1 in
    let uids = number_same u u' r s kept.2.1 kept'.2.1 validities.1 in
    (λ i. targets.Real (names.0 i) (validities.0 i) (uids.0 i), uids.1)
target_same (targets.Real n v u) (targets.Dummy k) r s kept kept' same = let first = byte_same 82 68 _ _ same in absurd (omega (arith, first.0))
target_same (targets.Dummy k) (targets.Real n v u) r s kept kept' same = let first = byte_same 68 82 _ _ same in absurd (omega (arith, first.0))
target_same (targets.Dummy k) (targets.Dummy l) r s kept kept' same =
    let fields = byte_same 68 68 (to_be_bytes w32 k ++ r) (to_be_bytes w32 l ++ s) same in
    let numbers = number_same k l r s kept.1 kept'.1 fields.1 in
    (ap targets.Dummy numbers.0, numbers.1)

sign_same : (a b : Bool) → sign a ≡ sign b → a ≡ b
sign_same true true same = refl
sign_same true false same = absurd (omega (arith, same))
sign_same false true same = absurd (omega (arith, same))
sign_same false false same = refl

bit_same : (a b : Bool) → bit a ≡ bit b → a ≡ b
bit_same true true same = refl
bit_same true false same = absurd (omega (arith, same))
bit_same false true same = absurd (omega (arith, same))
bit_same false false same = refl

abbrev first_body : List PlacedBody → List ℕ
first_body [] = []
first_body (b ∷ bs) = b.body

id_same : (text text' id id' : List ℕ) → text ≡ text' → HasMessageId text id → HasMessageId text' id' → id ≡ id'
id_same text text' id id' same has has' =
    let bodies = ap first_body (sym has.one.1 ∙ ap id_bodies same ∙ has'.one.1) in
    has.value ∙ ap id_of bodies ∙ sym has'.value

pub text_fits : (to : List ℕ) (flags : List (List ℕ)) (text id : List ℕ) →
    length (action_fields (actions.Append to flags text id)) ≤ 1073741824 → length text < 2 ^ 32
text_fits to flags text id fits =
    omega (arith, fits, length-append (80 ∷ counted to ++ flag_field flags ++ to_be_bytes w32 (length text)) text)

five : (a b c d e : List ℕ) → (((a ++ b) ++ c) ++ d) ++ e ≡ a ++ (b ++ (c ++ (d ++ e)))
five a b c d e = append_assoc ((a ++ b) ++ c) d e ∙ four a b c (d ++ e)

-- an action's fields tell it, whatever stands behind them
action_cut : (a b : Action) (r s : List ℕ) → IsKeptAction a → IsKeptAction b → IsWritableAction a → IsWritableAction b →
    length (action_fields a) ≤ 1073741824 → length (action_fields b) ≤ 1073741824 → action_fields a ++ r ≡ action_fields b ++ s → (a ≡ b) × (r ≡ s)
action_cut (actions.Flag t add flags) (actions.Flag t' add' flags') r s kept kept' can can' fits fits' same =
    let last = flag_field flags ++ r in
    let last' = flag_field flags' ++ s in
    let whole = sym (append_assoc (70 ∷ target_field t) (sign add ∷ flag_field flags) r) ∙ same
    ∙ append_assoc (70 ∷ target_field t') (sign add' ∷ flag_field flags') s in
    let fields = byte_same 70 70 (target_field t ++ sign add ∷ last) (target_field t' ++ sign add' ∷ last') whole in
    let messages = target_same t t' (sign add ∷ last) (sign add' ∷ last') kept.0 kept'.0 fields.1 in
    let signs = byte_same (sign add) (sign add') last last' messages.1 in
    let sets = flags_same flags flags' r s can.1 can'.1 signs.1 in
    let adds = sign_same add add' signs.0 in
    (λ i. actions.Flag (messages.0 i) (adds i) (sets.0 i), sets.1)
action_cut (actions.Flag t add flags) b r s kept kept' can can' fits fits' same = let first = byte_same _ _ _ _ same in absurd (omega (arith, first.0))
action_cut (actions.Move t to) (actions.Move t' to') r s kept kept' can can' fits fits' same =
    let whole = sym (append_assoc (77 ∷ target_field t) (counted to) r) ∙ same ∙ append_assoc (77 ∷ target_field t') (counted to') s in
    let fields = byte_same 77 77 (target_field t ++ (counted to ++ r)) (target_field t' ++ (counted to' ++ s)) whole in
    let messages = target_same t t' (counted to ++ r) (counted to' ++ s) kept.0 kept'.0 fields.1 in
    let names = counted_same to to' r s messages.1 in
    (λ i. actions.Move (messages.0 i) (names.0 i), names.1)
action_cut (actions.Move t to) b r s kept kept' can can' fits fits' same = let first = byte_same _ _ _ _ same in absurd (omega (arith, first.0))
action_cut (actions.Append to flags text id) (actions.Append to' flags' text' id') r s kept kept' can can' fits fits' same =
    let last = to_be_bytes w32 (length text) ++ (text ++ r) in
    let last' = to_be_bytes w32 (length text') ++ (text' ++ s) in
    let whole = sym (five (80 ∷ counted to) (flag_field flags) (to_be_bytes w32 (length text)) text r) ∙ same
    ∙ five (80 ∷ counted to') (flag_field flags') (to_be_bytes w32 (length text')) text' s in
    let fields = byte_same 80 80 (counted to ++ (flag_field flags ++ last)) (counted to' ++ (flag_field flags' ++ last')) whole in
    let names = counted_same to to' (flag_field flags ++ last) (flag_field flags' ++ last') fields.1 in
    let sets = flags_same flags flags' last last' can.0 can'.0 names.1 in
    let sizes = number_same (length text) (length text') (text ++ r) (text' ++ s) (text_fits to flags text id fits)
    (text_fits to' flags' text' id' fits') sets.1 in
    let texts = length_same text text' r s sizes.0 sizes.1 in
    let ids = id_same text text' id id' texts.0 can.1 can'.1 in
    (λ i. actions.Append (names.0 i) (sets.0 i) (texts.0 i) (ids i), texts.1)
action_cut (actions.Append to flags text id) b r s kept kept' can can' fits fits' same = let first = byte_same _ _ _ _ same in absurd (omega (arith, first.0))

action_same : (a b : Action) → IsKeptAction a → IsKeptAction b → IsWritableAction a → IsWritableAction b →
    length (action_fields a) ≤ 1073741824 → length (action_fields b) ≤ 1073741824 → action_fields a ≡ action_fields b → a ≡ b
action_same a b kept kept' can can' fits fits' same = (action_cut a b [] [] kept kept' can can' fits fits' (ap ended same)).0

intent_same : (a b : Intent) → IsKeptIntent a → IsKeptIntent b → intent_fields a ≡ intent_fields b → a ≡ b
intent_same (intents.Store n v u m) (intents.Store n' v' u' m') kept kept' same =
    let whole = sym (four (83 ∷ counted n) (to_be_bytes w32 v) (to_be_bytes w32 u) (to_be_bytes w64 m)) ∙ same
    ∙ four (83 ∷ counted n') (to_be_bytes w32 v') (to_be_bytes w32 u') (to_be_bytes w64 m') in
    let fields = byte_same 83 83 (counted n ++ (to_be_bytes w32 v ++ (to_be_bytes w32 u ++ to_be_bytes w64 m)))
    (counted n' ++ (to_be_bytes w32 v' ++ (to_be_bytes w32 u' ++ to_be_bytes w64 m'))) whole in
    let names = counted_same n n' (to_be_bytes w32 v ++ (to_be_bytes w32 u ++ to_be_bytes w64 m))
    (to_be_bytes w32 v' ++ (to_be_bytes w32 u' ++ to_be_bytes w64 m')) fields.1 in
    let validities = number_same v v' (to_be_bytes w32 u ++ to_be_bytes w64 m) (to_be_bytes w32 u' ++ to_be_bytes w64 m') kept.1.1 kept'.1.1 names.1 in
    let uids = number_same u u' (to_be_bytes w64 m) (to_be_bytes w64 m') kept.2.1 kept'.2.1 validities.1 in
    let marks = long_same m m' [] [] kept.3.1 kept'.3.1 (ap ended uids.1) in
    λ i. intents.Store (names.0 i) (validities.0 i) (uids.0 i) (marks.0 i)
intent_same (intents.Store n v u m) b kept kept' same = let first = byte_same _ _ _ _ same in absurd (omega (arith, first.0))
intent_same (intents.Shift n v u to) (intents.Shift n' v' u' to') kept kept' same =
    let whole = sym (four (77 ∷ counted n) (to_be_bytes w32 v) (to_be_bytes w32 u) (counted to)) ∙ same
    ∙ four (77 ∷ counted n') (to_be_bytes w32 v') (to_be_bytes w32 u') (counted to') in
    let fields = byte_same 77 77 (counted n ++ (to_be_bytes w32 v ++ (to_be_bytes w32 u ++ counted to)))
    (counted n' ++ (to_be_bytes w32 v' ++ (to_be_bytes w32 u' ++ counted to'))) whole in
    let names = counted_same n n' (to_be_bytes w32 v ++ (to_be_bytes w32 u ++ counted to))
    (to_be_bytes w32 v' ++ (to_be_bytes w32 u' ++ counted to')) fields.1 in
    let validities = number_same v v' (to_be_bytes w32 u ++ counted to) (to_be_bytes w32 u' ++ counted to') kept.1.1 kept'.1.1 names.1 in
    let uids = number_same u u' (counted to) (counted to') kept.2.1 kept'.2.1 validities.1 in
    let boxes = counted_same to to' [] [] (ap ended uids.1) in
    λ i. intents.Shift (names.0 i) (validities.0 i) (uids.0 i) (boxes.0 i)
intent_same (intents.Shift n v u to) b kept kept' same = let first = byte_same _ _ _ _ same in absurd (omega (arith, first.0))
intent_same (intents.Put n v u) (intents.Put n' v' u') kept kept' same =
    let whole = sym (three (80 ∷ counted n) (to_be_bytes w32 v) (to_be_bytes w32 u)) ∙ same
    ∙ three (80 ∷ counted n') (to_be_bytes w32 v') (to_be_bytes w32 u') in
    let fields = byte_same 80 80 (counted n ++ (to_be_bytes w32 v ++ to_be_bytes w32 u)) (counted n' ++ (to_be_bytes w32 v' ++ to_be_bytes w32 u')) whole in
    let names = counted_same n n' (to_be_bytes w32 v ++ to_be_bytes w32 u) (to_be_bytes w32 v' ++ to_be_bytes w32 u') fields.1 in
    let validities = number_same v v' (to_be_bytes w32 u) (to_be_bytes w32 u') kept.1.1 kept'.1.1 names.1 in
    let uids = number_same u u' [] [] kept.2.1 kept'.2.1 (ap ended validities.1) in
    λ i. intents.Put (names.0 i) (validities.0 i) (uids.0 i)
intent_same (intents.Put n v u) b kept kept' same = let first = byte_same _ _ _ _ same in absurd (omega (arith, first.0))

place_same : (a b : Option Place) → IsKeptPlace a → IsKeptPlace b → place_fields a ≡ place_fields b → a ≡ b
place_same None None kept kept' same = refl
place_same None (Some q) kept kept' same = let first = byte_same 0 1 _ _ same in absurd (omega (arith, first.0))
place_same (Some p) None kept kept' same = let first = byte_same 1 0 _ _ same in absurd (omega (arith, first.0))
place_same (Some p) (Some q) kept kept' same =
    let fields = byte_same 1 1 (to_be_bytes w32 p.validity ++ to_be_bytes w32 p.uid) (to_be_bytes w32 q.validity ++ to_be_bytes w32 q.uid) same in
    let validities = number_same p.validity q.validity (to_be_bytes w32 p.uid) (to_be_bytes w32 q.uid) kept.0.1 kept'.0.1 fields.1 in
    let uids = number_same p.uid q.uid [] [] kept.1.1 kept'.1.1 (ap ended validities.1) in
    λ i. Some (record { validity = validities.0 i; uid = uids.0 i })

kind_same : (a b : Kind) → IsKeptKind a → IsKeptKind b → kind_fields a ≡ kind_fields b → a ≡ b
kind_same kinds.MessageGone kinds.MessageGone kept kept' same = refl
kind_same kinds.MessageGone b kept kept' same = let first = byte_same _ _ _ _ same in absurd (omega (arith, first.0))
kind_same kinds.AlreadySo kinds.AlreadySo kept kept' same = refl
kind_same kinds.AlreadySo b kept kept' same = let first = byte_same _ _ _ _ same in absurd (omega (arith, first.0))
kind_same (kinds.FlagsChanged m) (kinds.FlagsChanged m') kept kept' same =
    let fields = byte_same 3 3 (to_be_bytes w64 m) (to_be_bytes w64 m') same in
    ap kinds.FlagsChanged (long_same m m' [] [] kept.1 kept'.1 (ap ended fields.1)).0
kind_same (kinds.FlagsChanged m) b kept kept' same = let first = byte_same _ _ _ _ same in absurd (omega (arith, first.0))
kind_same kinds.RefusedNo kinds.RefusedNo kept kept' same = refl
kind_same kinds.RefusedNo b kept kept' same = let first = byte_same _ _ _ _ same in absurd (omega (arith, first.0))
kind_same kinds.RefusedBad kinds.RefusedBad kept kept' same = refl
kind_same kinds.RefusedBad b kept kept' same = let first = byte_same _ _ _ _ same in absurd (omega (arith, first.0))
kind_same kinds.NotPermanent kinds.NotPermanent kept kept' same = refl
kind_same kinds.NotPermanent b kept kept' same = let first = byte_same _ _ _ _ same in absurd (omega (arith, first.0))
kind_same (kinds.TargetUnknown k) (kinds.TargetUnknown k') kept kept' same =
    let fields = byte_same 7 7 (to_be_bytes w32 k) (to_be_bytes w32 k') same in
    ap kinds.TargetUnknown (number_same k k' [] [] kept.1 kept'.1 (ap ended fields.1)).0
kind_same (kinds.TargetUnknown k) b kept kept' same = let first = byte_same _ _ _ _ same in absurd (omega (arith, first.0))
kind_same kinds.FoundSo kinds.FoundSo kept kept' same = refl
kind_same kinds.FoundSo b kept kept' same = let first = byte_same _ _ _ _ same in absurd (omega (arith, first.0))
kind_same (kinds.StoreUnsure m f) (kinds.StoreUnsure m' f') kept kept' same =
    let fields = byte_same 9 9 (to_be_bytes w64 m ++ to_be_bytes w64 f) (to_be_bytes w64 m' ++ to_be_bytes w64 f') same in
    let marks = long_same m m' (to_be_bytes w64 f) (to_be_bytes w64 f') kept.0.1 kept'.0.1 fields.1 in
    let found = long_same f f' [] [] kept.1.1 kept'.1.1 (ap ended marks.1) in
    λ i. kinds.StoreUnsure (marks.0 i) (found.0 i)
kind_same (kinds.StoreUnsure m f) b kept kept' same = let first = byte_same _ _ _ _ same in absurd (omega (arith, first.0))
kind_same kinds.SourceGone kinds.SourceGone kept kept' same = refl
kind_same kinds.SourceGone b kept kept' same = let first = byte_same _ _ _ _ same in absurd (omega (arith, first.0))
kind_same kinds.GoneAfterLoss kinds.GoneAfterLoss kept kept' same = refl
kind_same kinds.GoneAfterLoss b kept kept' same = let first = byte_same _ _ _ _ same in absurd (omega (arith, first.0))
kind_same (kinds.Ambiguous u v) (kinds.Ambiguous u' v') kept kept' same =
    let fields = byte_same 12 12 (to_be_bytes w32 u ++ to_be_bytes w32 v) (to_be_bytes w32 u' ++ to_be_bytes w32 v') same in
    let firsts = number_same u u' (to_be_bytes w32 v) (to_be_bytes w32 v') kept.0.1 kept'.0.1 fields.1 in
    let seconds = number_same v v' [] [] kept.1.1 kept'.1.1 (ap ended firsts.1) in
    λ i. kinds.Ambiguous (firsts.0 i) (seconds.0 i)
kind_same (kinds.Ambiguous u v) b kept kept' same = let first = byte_same _ _ _ _ same in absurd (omega (arith, first.0))
kind_same (kinds.ValidityChanged o n) (kinds.ValidityChanged o' n') kept kept' same =
    let fields = byte_same 13 13 (to_be_bytes w32 o ++ to_be_bytes w32 n) (to_be_bytes w32 o' ++ to_be_bytes w32 n') same in
    let firsts = number_same o o' (to_be_bytes w32 n) (to_be_bytes w32 n') kept.0.1 kept'.0.1 fields.1 in
    let seconds = number_same n n' [] [] kept.1.1 kept'.1.1 (ap ended firsts.1) in
    λ i. kinds.ValidityChanged (firsts.0 i) (seconds.0 i)
kind_same (kinds.ValidityChanged o n) b kept kept' same = let first = byte_same _ _ _ _ same in absurd (omega (arith, first.0))
kind_same (kinds.ResetAfterLoss o n) (kinds.ResetAfterLoss o' n') kept kept' same =
    let fields = byte_same 14 14 (to_be_bytes w32 o ++ to_be_bytes w32 n) (to_be_bytes w32 o' ++ to_be_bytes w32 n') same in
    let firsts = number_same o o' (to_be_bytes w32 n) (to_be_bytes w32 n') kept.0.1 kept'.0.1 fields.1 in
    let seconds = number_same n n' [] [] kept.1.1 kept'.1.1 (ap ended firsts.1) in
    λ i. kinds.ResetAfterLoss (firsts.0 i) (seconds.0 i)
kind_same (kinds.ResetAfterLoss o n) b kept kept' same = let first = byte_same _ _ _ _ same in absurd (omega (arith, first.0))

outcome_same : (a b : Outcome) → IsKeptOutcome a → IsKeptOutcome b → outcome_fields a ≡ outcome_fields b → a ≡ b
outcome_same (outcomes.Done p) (outcomes.Done q) kept kept' same =
    let fields = byte_same 68 68 (place_fields p) (place_fields q) same in
    ap outcomes.Done (place_same p q kept kept' fields.1)
outcome_same (outcomes.Done p) (outcomes.Conflict k) kept kept' same = let first = byte_same 68 67 _ _ same in absurd (omega (arith, first.0))
outcome_same (outcomes.Conflict k) (outcomes.Done p) kept kept' same = let first = byte_same 67 68 _ _ same in absurd (omega (arith, first.0))
outcome_same (outcomes.Conflict k) (outcomes.Conflict l) kept kept' same =
    let fields = byte_same 67 67 (kind_fields k) (kind_fields l) same in
    ap outcomes.Conflict (kind_same k l kept kept' fields.1)

abbrev IsFitting : UidRange → Type 0
IsFitting range = (range.low < 2 ^ 32) × (range.high < 2 ^ 32)

all_fitting : (floor : ℕ) (ranges : List UidRange) → RisesAbove floor ranges → AllByRecursion IsFitting ranges
all_fitting floor [] rises = tt
all_fitting floor (range ∷ ranges) rises = ((omega (arith, rises.0.ordered, rises.0.fits), rises.0.fits), all_fitting (range.high + 1) ranges rises.1)

range_same : (a b : UidRange) (r s : List ℕ) → IsFitting a → IsFitting b → range_field a ++ r ≡ range_field b ++ s → (a ≡ b) × (r ≡ s)
range_same a b r s fits fits' same =
    let lows = number_same a.low b.low (to_be_bytes w32 a.high ++ r) (to_be_bytes w32 b.high ++ s) fits.0 fits'.0 same in
    let highs = number_same a.high b.high r s fits.1 fits'.1 lows.1 in
    (λ i. record { low = lows.0 i; high = highs.0 i }, highs.1)

record IsGoodRow (r : ℕ × Row) : Type 0 where
  kept : IsKeptRow r
  few : length r.1.flags ≤ 1024

all_good : (rows : List (ℕ × Row)) → AllByRecursion IsKeptRow rows → HaveFewFlags rows → AllByRecursion IsGoodRow rows
all_good [] kept few = tt
all_good (r ∷ rows) kept few = (record { kept = kept.0; few = few.0 }, all_good rows kept.1 few.1)

row_same : (a b : ℕ × Row) (r s : List ℕ) → IsGoodRow a → IsGoodRow b → row_field a ++ r ≡ row_field b ++ s → (a ≡ b) × (r ≡ s)
unfolding row_field
row_same a b r s good good' same =
    let uids = number_same a.0 b.0 (to_be_bytes w64 a.1.modseq ++ (flag_field a.1.flags ++ r))
    (to_be_bytes w64 b.1.modseq ++ (flag_field b.1.flags ++ s)) good.kept.uid.1 good'.kept.uid.1 same in
    let marks = long_same a.1.modseq b.1.modseq (flag_field a.1.flags ++ r) (flag_field b.1.flags ++ s) good.kept.modseq.1 good'.kept.modseq.1 uids.1 in
    let sets = flags_same a.1.flags b.1.flags r s good.few good'.few marks.1 in
    (λ i. (uids.0 i, record { flags = sets.0 i; modseq = marks.0 i }), sets.1)

ranges_same : (xs ys : List UidRange) (r s : List ℕ) → IsCanonical xs → IsCanonical ys → range_fields xs ++ r ≡ range_fields ys ++ s → (xs ≡ ys) × (r ≡ s)
unfolding range_fields
ranges_same xs ys r s set set' same =
    let counts = number_same (length xs) (length ys) (flat_map range_field xs ++ r) (flat_map range_field ys ++ s) (few_ranges xs set)
    (few_ranges ys set') same in
    many_same range_field IsFitting range_same xs ys r s counts.0 (all_fitting 0 xs set) (all_fitting 0 ys set') counts.1

rows_same : (xs ys : List (ℕ × Row)) (r s : List ℕ) → length xs ≤ MAX_ROWS → length ys ≤ MAX_ROWS → AllByRecursion IsGoodRow xs →
    AllByRecursion IsGoodRow ys → row_fields xs ++ r ≡ row_fields ys ++ s → (xs ≡ ys) × (r ≡ s)
unfolding row_fields
rows_same xs ys r s few few' good good' same =
    let counts = number_same (length xs) (length ys) (flat_map row_field xs ++ r) (flat_map row_field ys ++ s) (omega (arith, few))
    (omega (arith, few')) same in
    many_same row_field IsGoodRow row_same xs ys r s counts.0 good good' counts.1

record AreAlike (a b : Delta) : Type 0 where
  whole : a.whole ≡ b.whole
  validity : a.validity ≡ b.validity
  highest : a.highest ≡ b.highest
  uidnext : a.uidnext ≡ b.uidnext
  vanished : a.vanished ≡ b.vanished
  rows : a.rows ≡ b.rows

-- facts of a delta's rows are one each, so deltas that tell the same are the same
delta_with : (w : Bool) (v h u : ℕ) (g other : List UidRange) → g ≡ other → (rows told : List (ℕ × Row)) → rows ≡ told
    → (r : Rises rows) (r' : Rises told) (p : AreApart g rows) (p' : AreApart other told)
    → ◌≡◌ {A = Delta} (record { whole = w; validity = v; highest = h; uidnext = u; vanished = g; rows = rows; rising = r; apart = p })
    (record { whole = w; validity = v; highest = h; uidnext = u; vanished = other; rows = told; rising = r'; apart = p' })
delta_with w v h u g other ranges =
    subst (λ (x : List UidRange). (rows told : List (ℕ × Row)) → rows ≡ told → (r : Rises rows) (r' : Rises told) (p : AreApart g rows) (p' : AreApart x told)
    → ◌≡◌ {A = Delta} (record { whole = w; validity = v; highest = h; uidnext = u; vanished = g; rows = rows; rising = r; apart = p })
    (record { whole = w; validity = v; highest = h; uidnext = u; vanished = x; rows = told; rising = r'; apart = p' })) ranges
    (λ rows told same. subst (λ (y : List (ℕ × Row)). (r : Rises rows) (r' : Rises y) (p : AreApart g rows) (p' : AreApart g y)
    → ◌≡◌ {A = Delta} (record { whole = w; validity = v; highest = h; uidnext = u; vanished = g; rows = rows; rising = r; apart = p })
    (record { whole = w; validity = v; highest = h; uidnext = u; vanished = g; rows = y; rising = r'; apart = p' })) same
    (λ r r' p p'. λ i. record {
      whole = w;
      validity = v;
      highest = h;
      uidnext = u;
      vanished = g;
      rows = rows;
      rising =
          Rises-prop rows r r' i;
      apart = AreApart-prop g rows p p' i;
    }))

delta_from : (a b : Delta) → AreAlike a b → a ≡ b
delta_from a b alike =
    let first : a ≡ record {
      whole = b.whole;
      validity = b.validity;
      highest = b.highest;
      uidnext = b.uidnext;
      vanished =
          a.vanished;
      rows = a.rows;
      rising = a.rising;
      apart = a.apart;
    }
    = λ i. record {
      whole = alike.whole i;
      validity = alike.validity i;
      highest = alike.highest i;
      uidnext = alike.uidnext i;
      vanished =
          a.vanished;
      rows = a.rows;
      rising = a.rising;
      apart = a.apart;
    } in
    first ∙ delta_with b.whole b.validity b.highest b.uidnext a.vanished b.vanished alike.vanished a.rows b.rows alike.rows a.rising b.rising a.apart b.apart

delta_same : (a b : Delta) → IsKeptDelta a → IsKeptDelta b → (length a.rows ≤ MAX_ROWS) × HaveFewFlags a.rows →
    (length b.rows ≤ MAX_ROWS) × HaveFewFlags b.rows → delta_fields a ≡ delta_fields b → a ≡ b
unfolding delta_fields mark_fields
delta_same a b kept kept' can can' same =
    let fields = byte_same (bit a.whole) (bit b.whole) (mark_fields a ++ (range_fields a.vanished ++ row_fields a.rows))
    (mark_fields b ++ (range_fields b.vanished ++ row_fields b.rows)) same in
    let validities = number_same a.validity b.validity (to_be_bytes w64 a.highest
    ++ (to_be_bytes w32 a.uidnext ++ (range_fields a.vanished ++ row_fields a.rows)))
    (to_be_bytes w64 b.highest ++ (to_be_bytes w32 b.uidnext ++ (range_fields b.vanished
    ++ row_fields b.rows))) kept.validity.1 kept'.validity.1 fields.1 in
    let marks = long_same a.highest b.highest (to_be_bytes w32 a.uidnext ++ (range_fields a.vanished ++ row_fields a.rows))
    (to_be_bytes w32 b.uidnext ++ (range_fields b.vanished ++ row_fields b.rows)) kept.highest.1 kept'.highest.1 validities.1 in
    let nexts = number_same a.uidnext b.uidnext (range_fields a.vanished ++ row_fields a.rows)
    (range_fields b.vanished ++ row_fields b.rows) kept.uidnext.1 kept'.uidnext.1 marks.1 in
    let gone = ranges_same a.vanished b.vanished (row_fields a.rows) (row_fields b.rows) kept.vanished kept'.vanished nexts.1 in
    let told = rows_same a.rows b.rows [] [] can.0 can'.0 (all_good a.rows kept.rows can.1) (all_good b.rows kept'.rows can'.1) (ap ended gone.1) in
    delta_from a b (record {
      whole = bit_same a.whole b.whole fields.0;
      validity = validities.0;
      highest = marks.0;
      uidnext =
          nexts.0;
      vanished = gone.0;
      rows = told.0;
    })

event_same : (a b : Event) → IsKept a → IsKept b → IsWritable a → IsWritable b → length (body_of a) ≤ 1073741824 →
    length (body_of b) ≤ 1073741824 → body_of a ≡ body_of b → a ≡ b
event_same (events.Begin names) (events.Begin names') kept kept' can can' fits fits' same =
    let fields = byte_same 66 66 (length names ∷ flat_map counted names) (length names' ∷ flat_map counted names') same in
    let counts = byte_same (length names) (length names') (flat_map counted names) (flat_map counted names') fields.1 in
    ap events.Begin (texts_same names names' [] [] counts.0 (ap ended counts.1)).0
event_same (events.Begin names) b kept kept' can can' fits fits' same = let first = byte_same _ _ _ _ same in absurd (omega (arith, first.0))
event_same (events.Accept id action) (events.Accept id' action') kept kept' can can' fits fits' same =
    let fields = byte_same 65 65 (to_be_bytes w32 id ++ action_fields action) (to_be_bytes w32 id' ++ action_fields action') same in
    let ids = number_same id id' (action_fields action) (action_fields action') kept.0.1 kept'.0.1 fields.1 in
    let asked = action_same action action' kept.1 kept'.1 can can' (omega (arith, fits)) (omega (arith, fits')) ids.1 in
    λ i. events.Accept (ids.0 i) (asked i)
event_same (events.Accept id action) b kept kept' can can' fits fits' same = let first = byte_same _ _ _ _ same in absurd (omega (arith, first.0))
event_same (events.Intend id intent) (events.Intend id' intent') kept kept' can can' fits fits' same =
    let fields = byte_same 73 73 (to_be_bytes w32 id ++ intent_fields intent) (to_be_bytes w32 id' ++ intent_fields intent') same in
    let ids = number_same id id' (intent_fields intent) (intent_fields intent') kept.0.1 kept'.0.1 fields.1 in
    let intended = intent_same intent intent' kept.1 kept'.1 ids.1 in
    λ i. events.Intend (ids.0 i) (intended i)
event_same (events.Intend id intent) b kept kept' can can' fits fits' same = let first = byte_same _ _ _ _ same in absurd (omega (arith, first.0))
event_same (events.Settle id outcome) (events.Settle id' outcome') kept kept' can can' fits fits' same =
    let fields = byte_same 83 83 (to_be_bytes w32 id ++ outcome_fields outcome) (to_be_bytes w32 id' ++ outcome_fields outcome') same in
    let ids = number_same id id' (outcome_fields outcome) (outcome_fields outcome') kept.0.1 kept'.0.1 fields.1 in
    let ends = outcome_same outcome outcome' kept.1 kept'.1 ids.1 in
    λ i. events.Settle (ids.0 i) (ends i)
event_same (events.Settle id outcome) b kept kept' can can' fits fits' same = let first = byte_same _ _ _ _ same in absurd (omega (arith, first.0))
event_same (events.Learn name delta) (events.Learn name' delta') kept kept' can can' fits fits' same =
    let fields = byte_same 76 76 (counted name ++ delta_fields delta) (counted name' ++ delta_fields delta') same in
    let names = counted_same name name' (delta_fields delta) (delta_fields delta') fields.1 in
    let deltas = delta_same delta delta' kept.1 kept'.1 can can' names.1 in
    λ i. events.Learn (names.0 i) (deltas i)
event_same (events.Learn name delta) b kept kept' can can' fits fits' same = let first = byte_same _ _ _ _ same in absurd (omega (arith, first.0))
event_same (events.Old id action outcome) (events.Old id' action' outcome') kept kept' can can' fits fits' same =
    let last = action_fields action ++ outcome_fields outcome in
    let last' = action_fields action' ++ outcome_fields outcome' in
    let fields = byte_same 79 79 (to_be_bytes w32 id ++ last) (to_be_bytes w32 id' ++ last') same in
    let ids = number_same id id' last last' kept.0.1 kept'.0.1 fields.1 in
    let asked = action_cut action action' (outcome_fields outcome) (outcome_fields outcome') kept.1 kept'.1 can can'
    (omega (arith, fits, length-append (action_fields action) (outcome_fields outcome)))
    (omega (arith, fits', length-append (action_fields action') (outcome_fields outcome'))) ids.1 in
    let ends = outcome_same outcome outcome' kept.2 kept'.2 asked.1 in
    λ i. events.Old (ids.0 i) (asked.0 i) (ends i)
event_same (events.Old id action outcome) b kept kept' can can' fits fits' same = let first = byte_same _ _ _ _ same in absurd (omega (arith, first.0))
event_same (events.Reset name old told) (events.Reset name' old' told') kept kept' can can' fits fits' same =
    let last = to_be_bytes w32 old ++ to_be_bytes w32 told in
    let last' = to_be_bytes w32 old' ++ to_be_bytes w32 told' in
    let fields = byte_same 82 82 (counted name ++ last) (counted name' ++ last') same in
    let names = counted_same name name' last last' fields.1 in
    let olds = number_same old old' (to_be_bytes w32 told) (to_be_bytes w32 told') kept.1.1 kept'.1.1 names.1 in
    let tolds = number_same told told' [] [] kept.2.1 kept'.2.1 (ap ended olds.1) in
    λ i. events.Reset (names.0 i) (olds.0 i) (tolds.0 i)
event_same (events.Reset name old told) b kept kept' can can' fits fits' same = let first = byte_same _ _ _ _ same in absurd (omega (arith, first.0))
event_same (events.Withdraw id tries) (events.Withdraw id' tries') kept kept' can can' fits fits' same =
    let fields = byte_same 87 87 (to_be_bytes w32 id ++ (tries ∷ [])) (to_be_bytes w32 id' ++ (tries' ∷ [])) same in
    let ids = number_same id id' (tries ∷ []) (tries' ∷ []) kept.0.1 kept'.0.1 fields.1 in
    let turns = byte_same tries tries' [] [] ids.1 in
    λ i. events.Withdraw (ids.0 i) (turns.0 i)
event_same (events.Withdraw id tries) b kept kept' can can' fits fits' same = let first = byte_same _ _ _ _ same in absurd (omega (arith, first.0))

-- no bytes are the bodies of two events' records
pub one_event : OneEvent
one_event body left right l r =
    event_same left right l.kept r.kept l.writable r.writable (subst (λ (bytes : List ℕ). length bytes ≤ 1073741824) l.is l.fits)
    (subst (λ (bytes : List ℕ). length bytes ≤ 1073741824) r.is r.fits) (sym l.is ∙ r.is)

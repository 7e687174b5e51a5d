-- What holds of a book that is the fold of some events.
use Rattle.std.proofs.Common.{◌≡◌, ℕ, ◌+◌, ◌<◌, ◌≤◌, Bool, true, false, not, cond, List, [], ◌∷◌, length, Option, Some, None}
use Rattle.std.proofs.Common.{refl, arith, length-append, is_some}
use Rattle.std.specs.Prelude.{◌==◌, nat_le}
use Rattle.std.proofs.lemmas.List.{length-map}
use Rattle.std.proofs.lemmas.Bool.{leb-false}
use Rattle.action_queue.specs.Book.{Meaning, after, known_of, learned, cache_at}
use Rattle.action_queue.specs.Events.{IsLawful}
use Rattle.action_queue.specs.Queues.{IsInOrder, accepted, due, due_action, ended, settled, tried, tries_due, tries_of}
use Rattle.action_queue.specs.Rules.{is_unknown_action, is_bad_action}
use Rattle.action_queue.specs.declared.action.Action.{Action}
use Rattle.action_queue.specs.declared.event.Event.{Event}
use Rattle.action_queue.specs.declared.event.Event.TheVariants as events
use Rattle.action_queue.specs.declared.rule.Rule.{Rule}
use Rattle.action_queue.specs.declared.outcome.Outcome.{Outcome}
use Rattle.action_queue.specs.declared.queued.Queued.{Queued}
use Rattle.action_queue.proofs.Queueing.{none_due, order_ended, order_push, order_settled, order_tried, length_change}
use Rattle.book_laws.specs.Sound.{IsSound}
use Rattle.book_laws.proofs.Sounding.{begun_sound, sound_behind}
use Rattle.playback.proofs.Recording.{put_length}
use Rattle.store_core.specs.Fold.{IsFold, begins, follows}

pub fold_sound : (b : Meaning) → IsFold b → IsSound b
fold_sound b (begins names named) = begun_sound names
fold_sound b (follows a event fold lawful writable) = sound_behind a event lawful writable (fold_sound a fold)

tries_by : (b : Meaning) → IsSound b → (o : Option Queued) → due_action b.queue ≡ o → tries_of o ≤ 2
tries_by b sound None e = omega arith
tries_by b sound (Some q) e = sound.tries (due b.queue) q e

-- at most two tries of the action that is due were taken back
pub tries_few : (b : Meaning) → IsFold b → tries_due b.queue ≤ 2
tries_few b fold = tries_by b (fold_sound b fold) (due_action b.queue) refl

unbroken_then : (b : Bool) (r : Rule) (o : Option Rule) → cond b (Some r) o ≡ None → (b ≡ false) × (o ≡ None)
unbroken_then true r o e = absurd cc
unbroken_then false r o e = (refl, e)

-- an action that ended comes where there is room, behind settled ones alone
record HasPlace (queue : List Queued) : Type 0 where
  room : length queue < 1000000
  settled : is_some (due_action queue) ≡ false

place_ended : (b : Meaning) (id : ℕ) (action : Action) (outcome : Outcome) → IsLawful b (events.Old id action outcome) → HasPlace b.queue
place_ended b id action outcome l =
    let number = unbroken_then (not (id == length b.queue + 1)) _ _ l.unbroken in
    let known = unbroken_then (is_unknown_action b.boxes action) _ _ number.1 in
    let good = unbroken_then (is_bad_action b.queue action) _ _ known.1 in
    let room = unbroken_then (nat_le 1000000 (length b.queue)) _ _ good.1 in
    let all = unbroken_then (is_some (due_action b.queue)) _ _ room.1 in
    record { room = leb-false 1000000 (length b.queue) room.0; settled = all.0 }

no_some : {A : Type 0} (o : Option A) → is_some o ≡ false → o ≡ None
no_some None is = refl
no_some (Some x) is = absurd cc

order_after : (b : Meaning) (event : Event) → IsLawful b event → IsInOrder b.queue → IsInOrder (after b event).queue
order_after b (events.Begin names) l o = o
order_after b (events.Accept id action) l o = order_push action b.queue o
order_after b (events.Intend id intent) l o = o
order_after b (events.Settle id outcome) l o = order_settled outcome b.queue o
order_after b (events.Learn name delta) l o = o
order_after b (events.Old id action outcome) l o =
    order_ended action outcome b.queue (none_due b.queue (no_some (due_action b.queue) (place_ended b id action outcome l).settled)) o
order_after b (events.Reset name kept told) l o = o
order_after b (events.Withdraw id tries) l o = order_tried tries b.queue o

pub fold_in_order : (b : Meaning) → IsFold b → IsInOrder b.queue
fold_in_order b (begins names named) = tt
fold_in_order b (follows a event fold lawful writable) = order_after a event lawful (fold_in_order a fold)

boxes_after : (b : Meaning) (event : Event) → length (after b event).boxes ≡ length b.boxes
boxes_after b (events.Begin names) = refl
boxes_after b (events.Accept id action) = refl
boxes_after b (events.Intend id intent) = refl
boxes_after b (events.Settle id outcome) = refl
boxes_after b (events.Learn name delta) = put_length name (Some (learned (cache_at name b.boxes) delta)) b.boxes
boxes_after b (events.Old id action outcome) = refl
boxes_after b (events.Reset name kept told) = put_length name None b.boxes
boxes_after b (events.Withdraw id tries) = refl

-- its names are those of its Begin
pub fold_few : (b : Meaning) → IsFold b → length b.boxes ≤ 32
fold_few b (begins names named) = omega (arith, length-map names known_of, named.few)
fold_few b (follows a event fold lawful writable) = omega (arith, boxes_after a event, fold_few a fold)

room_accepted : (b : Meaning) (id : ℕ) (action : Action) → IsLawful b (events.Accept id action) → length b.queue < 1000000
room_accepted b id action l =
    let number = unbroken_then (not (id == length b.queue + 1)) _ _ l.unbroken in
    let known = unbroken_then (is_unknown_action b.boxes action) _ _ number.1 in
    let good = unbroken_then (is_bad_action b.queue action) _ _ known.1 in
    let room = unbroken_then (nat_le 1000000 (length b.queue)) _ _ good.1 in
    leb-false 1000000 (length b.queue) room.0

actions_after : (b : Meaning) (event : Event) → IsLawful b event → length b.queue ≤ 1000000 → length (after b event).queue ≤ 1000000
actions_after b (events.Begin names) l h = h
actions_after b (events.Accept id action) l h =
    let room = room_accepted b id action l in omega (arith, length-append b.queue (accepted action ∷ []), room)
actions_after b (events.Intend id intent) l h = h
actions_after b (events.Settle id outcome) l h = omega (arith, length_change (settled outcome) b.queue, h)
actions_after b (events.Learn name delta) l h = h
actions_after b (events.Old id action outcome) l h =
    omega (arith, length-append b.queue (ended action outcome ∷ []), (place_ended b id action outcome l).room)
actions_after b (events.Reset name kept told) l h = h
actions_after b (events.Withdraw id tries) l h = omega (arith, length_change (tried tries) b.queue, h)

-- no more actions than an Accept allows
pub fold_actions : (b : Meaning) → IsFold b → length b.queue ≤ 1000000
fold_actions b (begins names named) = omega arith
fold_actions b (follows a event fold lawful writable) = actions_after a event lawful (fold_actions a fold)

-- The first unsettled action of a queue, and what settling it does.
use Rattle.std.proofs.Common.{rules, slice_set, slice_index_or, ◌≡◌, ℕ, suc, ◌<◌, ◌≤◌, List, [], ◌∷◌, ◌++◌, length, Option, Some, None}
use Rattle.std.proofs.Common.{refl, sym, ◌∙◌, ap, subst, arith}
use Rattle.std.specs.Prelude.{IsSome, slice_get}
use Rattle.std.proofs.lemmas.Option.{same_Some}
use Rattle.action_queue.specs.Queues.{due, due_action, settled_then, accepted, ended, settled, tried, tries_of, tries_due, change_first, change_queued, AllSettled, AllOpen, IsInOrder, InOrderThen}
use Rattle.action_queue.specs.declared.action.Action.{Action}
use Rattle.action_queue.specs.declared.outcome.Outcome.{Outcome}
use Rattle.action_queue.specs.declared.queued.Queued.{Queued}

then_within : (o : Option Outcome) (n m : ℕ) → n ≤ m → settled_then o n ≤ suc m
then_within None n m h = omega arith
then_within (Some outcome) n m h = omega arith

-- no more actions are settled than there are
pub due_within : (qs : List Queued) → due qs ≤ length qs
due_within [] = omega arith
due_within (q ∷ qs) = then_within q.outcome (due qs) (length qs) (due_within qs)

all_then : (o : Option Outcome) (n : ℕ) (qs : List Queued) → (n ≡ length qs → AllSettled qs) → settled_then o n ≡ suc (length qs) → IsSome o × AllSettled qs
all_then None n qs h e = absurd (omega arith)
all_then (Some outcome) n qs h e = (search rules, h (omega arith))

-- where as many are settled as there are, all are
pub all_settled : (qs : List Queued) → due qs ≡ length qs → AllSettled qs
all_settled [] e = tt
all_settled (q ∷ qs) e = all_then q.outcome (due qs) qs (all_settled qs) e

then_all : (o : Option Outcome) (n : ℕ) (qs : List Queued) → n ≡ length qs → IsSome o → settled_then o n ≡ suc (length qs)
then_all None n qs h s = absurd (search rules)
then_all (Some outcome) n qs h s = ap suc h

-- and the other way round
pub settled_all : (qs : List Queued) → AllSettled qs → due qs ≡ length qs
settled_all [] a = refl
settled_all (q ∷ qs) a = then_all q.outcome (due qs) qs (settled_all qs a.1) a.0

open_push : (action : Action) (qs : List Queued) → AllOpen qs → AllOpen (qs ++ accepted action ∷ [])
open_push action [] a = (refl, tt)
open_push action (q ∷ qs) a = (a.0, open_push action qs a.1)

-- one more action changes nothing of which one is due
pub due_push : (action : Action) (qs : List Queued) → due (qs ++ accepted action ∷ []) ≡ due qs
due_push action [] = refl
due_push action (q ∷ qs) = ap (settled_then q.outcome) (due_push action qs)

order_then : (action : Action) (qs : List Queued) (o : Option Outcome) → (IsInOrder qs → IsInOrder (qs ++ accepted action ∷ [])) →
    InOrderThen o (AllOpen qs) (IsInOrder qs) → InOrderThen o (AllOpen (qs ++ accepted action ∷ [])) (IsInOrder (qs ++ accepted action ∷ []))
order_then action qs None h a = open_push action qs a
order_then action qs (Some outcome) h a = h a

pub order_push : (action : Action) (qs : List Queued) → IsInOrder qs → IsInOrder (qs ++ accepted action ∷ [])
order_push action [] a = tt
order_push action (q ∷ qs) a = order_then action qs q.outcome (order_push action qs) a

set_then : (f : Queued → Queued) (x q : Queued) (qs changed : List Queued) (n : ℕ) (o : Option Outcome) →
    settled_then o n < suc (length qs) → q ≡ slice_index_or (x ∷ qs) (settled_then o n) q →
    (n < length qs → q ≡ slice_index_or qs n q → slice_set qs n (f q) ≡ changed) →
    slice_set (x ∷ qs) (settled_then o n) (f q) ≡ change_queued f x qs changed o
set_then f x q qs changed n None l e h = ap (λ (y : Queued). f y ∷ qs) e
set_then f x q qs changed n (Some outcome) l e h = ap (λ (ys : List Queued). x ∷ ys) (h (omega arith) e)

-- the first unsettled action stands at the place of the one that is due
pub set_first : (f : Queued → Queued) (qs : List Queued) (q : Queued) → due qs < length qs → q ≡ slice_index_or qs (due qs) q →
    slice_set qs (due qs) (f q) ≡ change_first f qs
set_first f [] q l e = absurd (omega arith)
set_first f (x ∷ qs) q l e = set_then f x q qs (change_first f qs) (due qs) x.outcome l e (set_first f qs q)

due_open : (qs : List Queued) → AllOpen qs → due qs ≡ 0
due_open [] a = refl
due_open (q ∷ qs) a = ap (λ (o : Option Outcome). settled_then o (due qs)) a.0

open_order : (qs : List Queued) → AllOpen qs → IsInOrder qs
open_order [] a = tt
open_order (q ∷ qs) a = subst (λ (o : Option Outcome). InOrderThen o (AllOpen qs) (IsInOrder qs)) (sym a.0) a.1

due_then : (outcome : Outcome) (x : Queued) (qs changed : List Queued) (o : Option Outcome) → x.outcome ≡ o →
    settled_then o (due qs) < suc (length qs) → InOrderThen o (AllOpen qs) (IsInOrder qs) →
    (IsInOrder qs → due qs < length qs → due changed ≡ suc (due qs)) →
    due (change_queued (settled outcome) x qs changed o) ≡ suc (settled_then o (due qs))
due_then outcome x qs changed None e l a h = ap suc (due_open qs a)
due_then outcome x qs changed (Some old) e l a h = ap (λ (o : Option Outcome). settled_then o (due changed)) e ∙ ap suc (h a (omega arith))

-- once the action that is due is settled, one more is settled
pub due_settled : (outcome : Outcome) (qs : List Queued) → IsInOrder qs → due qs < length qs → due (change_first (settled outcome) qs) ≡ suc (due qs)
due_settled outcome [] a l = absurd (omega arith)
due_settled outcome (q ∷ qs) a l = due_then outcome q qs (change_first (settled outcome) qs) q.outcome refl l a (due_settled outcome qs)

order_settled_then : (outcome : Outcome) (x : Queued) (qs changed : List Queued) (o : Option Outcome) → x.outcome ≡ o →
    InOrderThen o (AllOpen qs) (IsInOrder qs) → (IsInOrder qs → IsInOrder changed) → IsInOrder (change_queued (settled outcome) x qs changed o)
order_settled_then outcome x qs changed None e a h = open_order qs a
order_settled_then outcome x qs changed (Some old) e a h = subst (λ (o : Option Outcome). InOrderThen o (AllOpen changed) (IsInOrder changed)) (sym e) (h a)

pub order_settled : (outcome : Outcome) (qs : List Queued) → IsInOrder qs → IsInOrder (change_first (settled outcome) qs)
order_settled outcome [] a = tt
order_settled outcome (q ∷ qs) a = order_settled_then outcome q qs (change_first (settled outcome) qs) q.outcome refl a (order_settled outcome qs)

length_then : (f : Queued → Queued) (x : Queued) (qs changed : List Queued) (o : Option Outcome) → length changed ≡ length qs →
    length (change_queued f x qs changed o) ≡ suc (length qs)
length_then f x qs changed None h = refl
length_then f x qs changed (Some old) h = ap suc h

pub length_change : (f : Queued → Queued) (qs : List Queued) → length (change_first f qs) ≡ length qs
length_change f [] = refl
length_change f (q ∷ qs) = length_then f q qs (change_first f qs) q.outcome (length_change f qs)

none_then : (o : Option Outcome) (n : ℕ) (q : Queued) (qs : List Queued) → (slice_get qs n ≡ None → n ≡ length qs) →
    slice_get (q ∷ qs) (settled_then o n) ≡ None → settled_then o n ≡ suc (length qs)
none_then None n q qs h e = absurd cc
none_then (Some outcome) n q qs h e = ap suc (h e)

-- where no action is due, as many are settled as there are
pub none_due : (qs : List Queued) → due_action qs ≡ None → due qs ≡ length qs
none_due [] e = refl
none_due (q ∷ qs) e = none_then q.outcome (due qs) q qs (none_due qs) e

ended_then : (o : Option Outcome) (n m later : ℕ) → settled_then o n ≡ suc m → (n ≡ m → later ≡ suc m) → settled_then o later ≡ suc (suc m)
ended_then None n m later e h = absurd (omega (arith, e))
ended_then (Some outcome) n m later e h = ap suc (h (omega (arith, e)))

-- one more action that ended, behind settled ones
pub due_ended : (action : Action) (outcome : Outcome) (qs : List Queued) → due qs ≡ length qs → due (qs ++ ended action outcome ∷ []) ≡ suc (length qs)
due_ended action outcome [] e = refl
due_ended action outcome (q ∷ qs) e = ended_then q.outcome (due qs) (length qs) (due (qs ++ ended action outcome ∷ [])) e (due_ended action outcome qs)

order_ended_then : (o : Option Outcome) (n m : ℕ) (open_now open_later now later : Type 0) → settled_then o n ≡ suc m → (n ≡ m → now → later) →
    InOrderThen o open_now now → InOrderThen o open_later later
order_ended_then None n m a b c d e h i = absurd (omega (arith, e))
order_ended_then (Some outcome) n m a b c d e h i = h (omega (arith, e)) i

pub order_ended : (action : Action) (outcome : Outcome) (qs : List Queued) → due qs ≡ length qs → IsInOrder qs → IsInOrder (qs ++ ended action outcome ∷ [])
order_ended action outcome [] e a = tt
order_ended action outcome (q ∷ qs) e a =
    order_ended_then q.outcome (due qs) (length qs) (AllOpen qs) (AllOpen (qs ++ ended action outcome ∷ [])) (IsInOrder qs)
    (IsInOrder (qs ++ ended action outcome ∷ [])) e (order_ended action outcome qs) a

-- ---- tries

try_due : (tries : ℕ) (q : Queued) (qs : List Queued) (o : Option Outcome) → q.outcome ≡ o → due (change_first (tried tries) qs) ≡ due qs →
    due (change_queued (tried tries) q qs (change_first (tried tries) qs) o) ≡ settled_then o (due qs)
try_due tries q qs None e h = ap (λ (o : Option Outcome). settled_then o (due qs)) e
try_due tries q qs (Some outcome) e h = ap (λ (o : Option Outcome). settled_then o (due (change_first (tried tries) qs))) e ∙ ap suc h

-- a try that is taken back changes nothing of which action is due
pub due_try : (tries : ℕ) (qs : List Queued) → due (change_first (tried tries) qs) ≡ due qs
due_try tries [] = refl
due_try tries (q ∷ qs) = try_due tries q qs q.outcome refl (due_try tries qs)

order_tried_then : (tries : ℕ) (q : Queued) (qs : List Queued) (o : Option Outcome) → q.outcome ≡ o →
    InOrderThen o (AllOpen qs) (IsInOrder qs) → (IsInOrder qs → IsInOrder (change_first (tried tries) qs)) →
    IsInOrder (change_queued (tried tries) q qs (change_first (tried tries) qs) o)
order_tried_then tries q qs None e a h = subst (λ (o : Option Outcome). InOrderThen o (AllOpen qs) (IsInOrder qs)) (sym e) a
order_tried_then tries q qs (Some old) e a h =
    let changed = change_first (tried tries) qs in
    subst (λ (o : Option Outcome). InOrderThen o (AllOpen changed) (IsInOrder changed)) (sym e) (h a)

pub order_tried : (tries : ℕ) (qs : List Queued) → IsInOrder qs → IsInOrder (change_first (tried tries) qs)
order_tried tries [] a = tt
order_tried tries (q ∷ qs) a = order_tried_then tries q qs q.outcome refl a (order_tried tries qs)

try_action : (tries : ℕ) (q x : Queued) (qs : List Queued) (o : Option Outcome) → q.outcome ≡ o → slice_get (q ∷ qs) (settled_then o (due qs)) ≡ Some x →
    (due_action qs ≡ Some x → due_action (change_first (tried tries) qs) ≡ Some (tried tries x)) →
    due_action (change_queued (tried tries) q qs (change_first (tried tries) qs) o) ≡ Some (tried tries x)
try_action tries q x qs None e is h =
    ap (λ (o : Option Outcome). slice_get (tried tries q ∷ qs) (settled_then o (due qs))) e ∙ ap (λ (y : Queued). Some (tried tries y)) (same_Some q x is)
try_action tries q x qs (Some old) e is h =
    let changed = change_first (tried tries) qs in
    ap (λ (o : Option Outcome). slice_get (q ∷ changed) (settled_then o (due changed))) e ∙ h is

-- the action that is due, with its new number of tries
pub due_tried : (tries : ℕ) (qs : List Queued) (x : Queued) → due_action qs ≡ Some x → due_action (change_first (tried tries) qs) ≡ Some (tried tries x)
due_tried tries [] x e = absurd cc
due_tried tries (q ∷ qs) x e = try_action tries q x qs q.outcome refl e (due_tried tries qs x)

twice_then : (f : Queued → Queued) (more : ℕ) (q : Queued) (qs : List Queued) (o : Option Outcome) → ((x : Queued) → f (tried more x) ≡ f x) → q.outcome ≡ o →
    change_first f (change_first (tried more) qs) ≡ change_first f qs →
    change_first f (change_queued (tried more) q qs (change_first (tried more) qs) o) ≡ change_queued f q qs (change_first f qs) o
twice_then f more q qs None same e h =
    ap (λ (o : Option Outcome). change_queued f (tried more q) qs (change_first f qs) o) e ∙ ap (λ (x : Queued). x ∷ qs) (same q)
twice_then f more q qs (Some old) same e h =
    let changed = change_first (tried more) qs in
    ap (λ (o : Option Outcome). change_queued f q changed (change_first f changed) o) e ∙ ap (λ (xs : List Queued). q ∷ xs) h

-- a change of the action that is due that doesn't depend on its tries
pub tried_then : (f : Queued → Queued) (more : ℕ) → ((x : Queued) → f (tried more x) ≡ f x) → (qs : List Queued) →
    change_first f (change_first (tried more) qs) ≡ change_first f qs
tried_then f more same [] = refl
tried_then f more same (q ∷ qs) = twice_then f more q qs q.outcome same refl (tried_then f more same qs)

tries_then : (q : Queued) (qs : List Queued) (o : Option Outcome) (n : ℕ) → tries_of (slice_get (q ∷ qs) (settled_then o (due qs))) ≡ n →
    (tries_due qs ≡ n → change_first (tried n) qs ≡ qs) → change_queued (tried n) q qs (change_first (tried n) qs) o ≡ q ∷ qs
tries_then q qs None n e h = ap (λ (k : ℕ). tried k q ∷ qs) (sym e)
tries_then q qs (Some old) n e h = ap (λ (xs : List Queued). q ∷ xs) (h e)

-- with the number of its tries as it is, a queue stays
pub same_tries : (qs : List Queued) (n : ℕ) → tries_due qs ≡ n → change_first (tried n) qs ≡ qs
same_tries [] n e = refl
same_tries (q ∷ qs) n e = tries_then q qs q.outcome n e (same_tries qs n)

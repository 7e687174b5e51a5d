-- What is needed here of an event that breaks no rule.
use Rattle.std.proofs.Common.{◌≡◌, ◌≤◌, ◌||◌, ℕ, Bool, true, false, not, length, Option, Some, None, arith, refl}
use Rattle.std.proofs.lemmas.Bool.{eqb-true}
use Rattle.std.specs.Prelude.{is_none, is_some, nat_le, cond, ◌&&◌, ◌==◌, ◌+◌}
use Rattle.action_queue.specs.Queues.{due, due_action}
use Rattle.action_queue.specs.Rules.{is_wrong_turn, suits, is_unsuited, is_unknown_intent, is_unknown_action, is_bad_action}
use Rattle.action_queue.specs.Rules.{rests_on_intent, comes_before_intent, is_misplaced, is_misplaced_of, is_no_flag, is_no_turn, is_wrong_tries}
use Rattle.action_queue.specs.Book.{Meaning}
use Rattle.action_queue.specs.Events.{IsLawful}
use Rattle.action_queue.specs.declared.event.Event.TheVariants as events
use Rattle.action_queue.specs.declared.action.Action.{Action}
use Rattle.action_queue.specs.declared.intent.Intent.{Intent}
use Rattle.action_queue.specs.declared.outcome.Outcome.{Outcome}
use Rattle.action_queue.specs.declared.queued.Queued.{Queued}
use Rattle.action_queue.specs.declared.rule.Rule.{Rule}
use Rattle.action_queue.specs.declared.rule.Version.{Version}
use Rattle.action_queue.specs.declared.rule.Version.TheVariants as versions
use Rattle.book_laws.specs.Sound.{HasIntent}

-- the first rule isn't broken, nor one of the others
both_unbroken : (b : Bool) (r : Rule) (o : Option Rule) → cond b (Some r) o ≡ None → (b ≡ false) × (o ≡ None)
both_unbroken true r o = λ e. absurd (cc)
both_unbroken false r o = λ e. (refl, e)

-- The action that is due, where one is: this outcome has a place exactly where it makes a message.
pub record IsDue (b : Meaning) (outcome : Outcome) : Type 0 where
  pub queued : Queued
  pub is : due_action b.queue ≡ Some queued
  pub placed : is_misplaced_of queued.action outcome ≡ false

due_there : (b : Meaning) (outcome : Outcome) (o : Option Queued) → due_action b.queue ≡ o → is_none o ≡ false →
    is_misplaced o outcome ≡ false → IsDue b outcome
due_there b outcome None = λ e n p. absurd (cc)
due_there b outcome (Some q) = λ e n p. record { queued = q; is = e; placed = p }

not_not : (b : Bool) → not b ≡ false → b ≡ true
not_not true = λ e. refl
not_not false = λ e. absurd (cc)

intent_there : (b : Meaning) (intent : Intent) (o : Option Queued) → due_action b.queue ≡ o → is_none o ≡ false →
    is_unsuited b.queue o intent ≡ false → HasIntent b intent
intent_there b intent None = λ e n u. absurd (cc)
intent_there b intent (Some q) = λ e n u. record { queued = q; there = e; suits_it = not_not (suits b.queue q.action intent) u }

-- an action's mailboxes are known, and its dummy is one of a move or an append of the queue
accept_both : (b : Meaning) (id : ℕ) (action : Action) → IsLawful b (events.Accept id action) →
    (is_unknown_action b.boxes action ≡ false) × (is_bad_action b.queue action ≡ false)
accept_both b id action l =
    let number = both_unbroken (not (id == length b.queue + 1)) _ _ l.unbroken in
    let known = both_unbroken (is_unknown_action b.boxes action) _ _ number.1 in
    let good = both_unbroken (is_bad_action b.queue action) _ _ known.1 in
    (known.0, good.0)

pub accept_known : (b : Meaning) (id : ℕ) (action : Action) → IsLawful b (events.Accept id action) → is_unknown_action b.boxes action ≡ false
accept_known b id action l = (accept_both b id action l).0

pub accept_good : (b : Meaning) (id : ℕ) (action : Action) → IsLawful b (events.Accept id action) → is_bad_action b.queue action ≡ false
accept_good b id action l = (accept_both b id action l).1

-- An action that ended and is told anew: besides, every other one ended, and its outcome has a place exactly where it makes a message.
pub record IsEnded (b : Meaning) (action : Action) (outcome : Outcome) : Type 0 where
  pub known : is_unknown_action b.boxes action ≡ false
  pub good : is_bad_action b.queue action ≡ false
  pub all : due_action b.queue ≡ None
  pub placed : is_misplaced_of action outcome ≡ false

none_there : (o : Option Queued) → is_some o ≡ false → o ≡ None
none_there None e = refl
none_there (Some q) e = absurd (cc)

pub old_ended : (b : Meaning) (id : ℕ) (action : Action) (outcome : Outcome) → IsLawful b (events.Old id action outcome) → IsEnded b action outcome
old_ended b id action outcome l =
    let number = both_unbroken (not (id == length b.queue + 1)) _ _ l.unbroken in
    let known = both_unbroken (is_unknown_action b.boxes action) _ _ number.1 in
    let good = both_unbroken (is_bad_action b.queue action) _ _ known.1 in
    let few = both_unbroken (nat_le 1000000 (length b.queue)) _ _ good.1 in
    let all = both_unbroken (is_some (due_action b.queue)) _ _ few.1 in
    let placed = both_unbroken (is_misplaced_of action outcome) _ _ all.1 in
    record { known = known.0; good = good.0; all = none_there (due_action b.queue) all.0; placed = placed.0 }

pub intend_due : (b : Meaning) (id : ℕ) (intent : Intent) → IsLawful b (events.Intend id intent) → HasIntent b intent
intend_due b id intent l =
    let known = both_unbroken (is_unknown_intent b.boxes intent) _ _ l.unbroken in
    let free = both_unbroken (is_some b.pending) _ _ known.1 in
    let waits = both_unbroken (is_none (due_action b.queue)) _ _ free.1 in
    let number = both_unbroken (not (id == due b.queue + 1)) _ _ waits.1 in
    let suited = both_unbroken (is_unsuited b.queue (due_action b.queue) intent) _ _ number.1 in
    intent_there b intent (due_action b.queue) refl waits.0 suited.0

pub settle_due : (b : Meaning) (id : ℕ) (outcome : Outcome) → IsLawful b (events.Settle id outcome) → IsDue b outcome
settle_due b id outcome l =
    let waits = both_unbroken (is_none (due_action b.queue)) _ _ l.unbroken in
    let number = both_unbroken (not (id == due b.queue + 1)) _ _ waits.1 in
    let needs = both_unbroken (is_none b.pending && rests_on_intent outcome) _ _ number.1 in
    let before = both_unbroken (is_some b.pending && comes_before_intent outcome) _ _ needs.1 in
    let placed = both_unbroken (is_misplaced (due_action b.queue) outcome) _ _ before.1 in
    due_there b outcome (due_action b.queue) refl waits.0 placed.0

-- only two are taken back
one_or_two : (tries : ℕ) (one two : Bool) → (tries == 1) ≡ one → (tries == 2) ≡ two → not (one || two) ≡ false → tries ≤ 2
one_or_two tries true two e f h = let is : tries ≡ 1 = eqb-true tries 1 e in omega (arith, is)
one_or_two tries false true e f h = let is : tries ≡ 2 = eqb-true tries 2 f in omega (arith, is)
one_or_two tries false false e f h = absurd (cc)

either_false : (x y : Bool) → (x || y) ≡ false → x ≡ false
either_false true y e = absurd (cc)
either_false false y e = refl

turn_most : (o : Option Queued) (pending : Option Intent) (tries : ℕ) → is_none o ≡ false → is_wrong_turn o pending tries ≡ false → tries ≤ 2
turn_most None pending tries there right = absurd (cc)
turn_most (Some q) pending tries there right =
    one_or_two tries (tries == 1) (tries == 2) refl refl
    (either_false (not (tries == 1 || tries == 2)) (is_no_turn pending q.tries tries) right)

right_number : (b : Meaning) (tries : ℕ) (version : Version) → is_none (due_action b.queue) ≡ false → is_wrong_tries version b tries ≡ false → tries ≤ 2
right_number b tries versions.First there right = absurd (cc)
right_number b tries versions.Second there right = turn_most (due_action b.queue) b.pending tries there right

-- the action that is due changes flags
pub withdraw_flag : (b : Meaning) (id tries : ℕ) → IsLawful b (events.Withdraw id tries) → is_no_flag (due_action b.queue) ≡ false
withdraw_flag b id tries l =
    let waits = both_unbroken (is_none (due_action b.queue)) _ _ l.unbroken in
    let number = both_unbroken (not (id == due b.queue + 1)) _ _ waits.1 in
    (both_unbroken (is_no_flag (due_action b.queue)) _ _ number.1).0

pub withdraw_few : (b : Meaning) (id tries : ℕ) → IsLawful b (events.Withdraw id tries) → tries ≤ 2
withdraw_few b id tries l =
    let waits = both_unbroken (is_none (due_action b.queue)) _ _ l.unbroken in
    let number = both_unbroken (not (id == due b.queue + 1)) _ _ waits.1 in
    let flag = both_unbroken (is_no_flag (due_action b.queue)) _ _ number.1 in
    let right = both_unbroken (is_wrong_tries l.version b tries) _ _ flag.1 in
    right_number b tries l.version waits.0 right.0

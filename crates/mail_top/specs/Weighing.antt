-- What a book answers to an action that is asked for, and to a question for a mailbox's rows.
use Rattle.std.specs.Prelude.{◌≡◌, ℕ, ◌+◌, ◌≤◌, ◌<◌, true, false, List, length, Some, Result, Ok, Err, ⊤}
use Rattle.std.specs.List.{list_any}
use Rattle.mail_base.specs.declared.limits.TheConstants.{MAX_ACTIONS}
use Rattle.flag_set.specs.declared.flag_fault.FlagFault.{FlagFault}
use Rattle.flag_set.specs.declared.flag_fault.FlagFault.TheVariants as flaws
use Rattle.action_queue.specs.Book.{Meaning}
use Rattle.action_queue.specs.Rules.{is_unknown}
use Rattle.action_queue.specs.declared.action.Action.{Action}
use Rattle.action_queue.specs.declared.queued.Queued.{Queued}
use Rattle.action_queue.specs.declared.target.Target.{Target}
use Rattle.local_view.specs.declared.seen.Ident.{Ident}
use Rattle.mail_top.specs.Actions.{Becomes, keys_of, next_id, target_of}
use Rattle.mail_top.specs.Reading.{Awaits}
use Rattle.mail_top.specs.Reasons.{IsFirst, IsFree, NoneStops, at_once, is_absent, is_bad_flag}
use Rattle.mail_top.specs.Words.{Addition, Wanted, Append}
use Rattle.mail_top.specs.declared.reason.Reason.TheVariants as reasons
use Rattle.mail_top.specs.declared.refusal.Refusal.{Refusal}
use Rattle.mail_top.specs.declared.refusal.Refusal.TheVariants as refusals

-- The book admits this action, under this number.
pub record Admits (wanted : Wanted) (b : Meaning) (id : ℕ) (action : Action) : Type 0 where
  pub free : IsFree wanted b
  pub few : length b.queue < MAX_ACTIONS
  pub number : id ≡ next_id b
  pub is : Becomes wanted b action

-- No reason speaks against the action, and it becomes this one; or a reason is the first against it. Or the input fails, where none of the
-- reasons that are looked for at once speaks against it; or memory is wanting.
abbrev pub Weighed : Wanted → Meaning → Result Action Refusal → Type 0
Weighed wanted b (Ok action) = IsFree wanted b × Becomes wanted b action
Weighed wanted b (Err (refusals.Reason reason)) = IsFirst wanted b reason
Weighed wanted b (Err refusals.Input) = Awaits wanted b
Weighed wanted b (Err refusals.Actions) = ⊥
Weighed wanted b (Err refusals.Memory) = ⊤
Weighed wanted b (Err refusals.Disk) = ⊥
Weighed wanted b (Err refusals.Already) = ⊥
Weighed wanted b (Err (refusals.NotAJournal why)) = ⊥
Weighed wanted b (Err (refusals.Full end)) = ⊥
Weighed wanted b (Err refusals.Generation) = ⊥

-- The message is in the view of the mailbox, and this is its target.
pub record IsThere (name : List ℕ) (id : Ident) (b : Meaning) (target : Target) : Type 0 where
  pub known : is_unknown b.boxes name ≡ false
  pub there : is_absent b name id ≡ false
  pub of : target_of b name id ≡ Some target

-- the message's target; or the mailbox isn't known, or else the message isn't there; or memory is wanting
abbrev pub Found : List ℕ → Ident → Meaning → Result Target Refusal → Type 0
Found name id b (Ok target) = IsThere name id b target
Found name id b (Err (refusals.Reason reasons.NoMailbox)) = is_unknown b.boxes name ≡ true
Found name id b (Err (refusals.Reason reasons.NoMessage)) = (is_unknown b.boxes name ≡ false) × (is_absent b name id ≡ true)
Found name id b (Err (refusals.Reason reasons.BadFlag)) = ⊥
Found name id b (Err (refusals.Reason reasons.SameMailbox)) = ⊥
Found name id b (Err (refusals.Reason reasons.QueueFull)) = ⊥
Found name id b (Err (refusals.Reason reasons.TooLarge)) = ⊥
Found name id b (Err (refusals.Reason reasons.BadText)) = ⊥
Found name id b (Err (refusals.Reason reasons.NoMessageId)) = ⊥
Found name id b (Err refusals.Memory) = ⊤
Found name id b (Err refusals.Input) = ⊥
Found name id b (Err refusals.Actions) = ⊥
Found name id b (Err refusals.Disk) = ⊥
Found name id b (Err refusals.Already) = ⊥
Found name id b (Err (refusals.NotAJournal why)) = ⊥
Found name id b (Err (refusals.Full end)) = ⊥
Found name id b (Err refusals.Generation) = ⊥

-- these are the keys of the flags, all of which a user may ask for; or one of them isn't such; or memory is wanting
abbrev pub FlagsAsked : List (List ℕ) → Result (List (List ℕ)) FlagFault → Type 0
FlagsAsked flags (Ok keys) = (list_any is_bad_flag flags ≡ false) × (keys ≡ keys_of flags)
FlagsAsked flags (Err (flaws.TooLong n)) = list_any is_bad_flag flags ≡ true
FlagsAsked flags (Err (flaws.BadFlag at)) = list_any is_bad_flag flags ≡ true
FlagsAsked flags (Err (flaws.TooMany n)) = list_any is_bad_flag flags ≡ true
FlagsAsked flags (Err flaws.Memory) = ⊤

-- the queue takes one more action under this number, or has too many
abbrev pub HasNumber : List Queued → Result ℕ Refusal → Type 0
HasNumber queue (Ok id) = (length queue < MAX_ACTIONS) × (id ≡ length queue + 1)
HasNumber queue (Err refusals.Actions) = MAX_ACTIONS ≤ length queue
HasNumber queue (Err (refusals.Reason reason)) = ⊥
HasNumber queue (Err refusals.Memory) = ⊥
HasNumber queue (Err refusals.Input) = ⊥
HasNumber queue (Err refusals.Disk) = ⊥
HasNumber queue (Err refusals.Already) = ⊥
HasNumber queue (Err (refusals.NotAJournal why)) = ⊥
HasNumber queue (Err (refusals.Full end)) = ⊥
HasNumber queue (Err refusals.Generation) = ⊥

-- The keys of a new message's flags, where none of the reasons that are looked for at once speaks against it; or the first of them;
-- or memory is wanting.
abbrev pub Received : Addition → List ℕ → Meaning → Result (List (List ℕ)) Refusal → Type 0
Received addition input b (Ok keys) = NoneStops (Append addition input) b at_once × (keys ≡ keys_of addition.flags)
Received addition input b (Err (refusals.Reason reason)) = IsFirst (Append addition input) b reason
Received addition input b (Err refusals.Memory) = ⊤
Received addition input b (Err refusals.Input) = ⊥
Received addition input b (Err refusals.Actions) = ⊥
Received addition input b (Err refusals.Disk) = ⊥
Received addition input b (Err refusals.Already) = ⊥
Received addition input b (Err (refusals.NotAJournal why)) = ⊥
Received addition input b (Err (refusals.Full end)) = ⊥
Received addition input b (Err refusals.Generation) = ⊥

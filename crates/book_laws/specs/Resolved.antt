-- What the target of the action that is due resolves to: it is never one that is still to come (RFC 9051, section 2.3.1.1).
use Rattle.std.specs.Prelude.{◌≡◌, ◌⊎◌, ℕ, Bool, false, List, Some}
use Rattle.action_queue.specs.Queues.{due_action}
use Rattle.action_queue.specs.Rules.{is_unknown}
use Rattle.action_queue.specs.Targets.{resolved}
use Rattle.action_queue.specs.Book.{Meaning}
use Rattle.action_queue.specs.declared.target.Target.{Target}
use Rattle.action_queue.specs.declared.action.Action.TheVariants as actions
use Rattle.action_queue.specs.declared.queued.Queued.{Queued}
use Rattle.action_queue.specs.declared.found.Found.TheVariants as found
use Rattle.book_laws.specs.Sound.{IsSound}

-- it is a message of a mailbox that is one of the book's
pub record IsMessage (b : Meaning) (target : Target) : Type 0 where
  pub name : List ℕ
  pub validity : ℕ
  pub uid : ℕ
  pub is : resolved b.queue target ≡ found.Real name validity uid
  pub known : is_unknown b.boxes name ≡ false

-- it is a message that an action never makes
pub record NeverComes (b : Meaning) (target : Target) : Type 0 where
  pub by : ℕ
  pub is : resolved b.queue target ≡ found.Never by

-- one or the other
abbrev pub Resolves : Meaning → Target → Type 0
Resolves b target = IsMessage b target ⊎ NeverComes b target

-- Where a flag action or a move of a sound book is due, its target resolves.
pub record TargetsResolve : Type 0 where
  pub of_flag : (b : Meaning) (q : Queued) (target : Target) (add : Bool) (flags : List (List ℕ)) → IsSound b →
      due_action b.queue ≡ Some q → q.action ≡ actions.Flag target add flags → Resolves b target
  pub of_move : (b : Meaning) (q : Queued) (target : Target) (to : List ℕ) → IsSound b → due_action b.queue ≡ Some q →
      q.action ≡ actions.Move target to → Resolves b target

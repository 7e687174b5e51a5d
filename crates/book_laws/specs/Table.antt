-- How many deeds an action has, row by row (RFC 4549, section 4.2): none before its intent, at most one from there on, and as its outcome
-- says once it is settled. On a sound book it is the same as `Once`.
use Rattle.std.specs.Prelude.{◌≡◌, ℕ, suc, ◌≤◌, ◌==◌, List, [], length, slice_get, Option, Some, None, if◌then◌else◌}
use Rattle.imap_model.specs.Ours.{ours}
use Rattle.imap_model.specs.declared.deed.Deed.{Deed}
use Rattle.action_queue.specs.Queues.{due}
use Rattle.action_queue.specs.Book.{Meaning}
use Rattle.action_queue.specs.declared.intent.Intent.{Intent}
use Rattle.action_queue.specs.declared.outcome.Outcome.{Outcome}
use Rattle.action_queue.specs.declared.queued.Queued.{Queued}
use Rattle.book_laws.specs.Sound.{IsSound}
use Rattle.book_laws.specs.Once.{AllOwned, Fits, Once}

-- the pending intent, where it is that of the action in this place
abbrev pub intent_of : Meaning → ℕ → Option Intent
intent_of b i = if i == due b.queue then b.pending else None

abbrev pub RowFits : Option Intent → Option Outcome → List Deed → Type 0
RowFits intent (Some outcome) mine = Fits outcome mine
RowFits None None mine = mine ≡ []
RowFits (Some intent) None mine = length mine ≤ 1

pub record OnceByAction (b : Meaning) (history : List Deed) : Type 0 where
  pub owned : AllOwned b.queue history
  pub each : (i : ℕ) (q : Queued) → slice_get b.queue i ≡ Some q → RowFits (intent_of b i) q.outcome (ours (suc i) history)

-- the two ways to count are one
pub record CountsByAction : Type 0 where
  pub from_rows : (b : Meaning) (h : List Deed) → IsSound b → OnceByAction b h → Once b h
  pub into_rows : (b : Meaning) (h : List Deed) → Once b h → OnceByAction b h

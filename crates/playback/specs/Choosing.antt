-- What the player keeps of a mailbox that was selected anew, and what follows a record (RFC 7162, section 3.2.5; RFC 9051, section
-- 2.3.1.1).
use Rattle.action_queue.specs.Book.{Meaning, cache_at, learned}
use Rattle.action_queue.specs.Queues.{due, due_action, tries_due}
use Rattle.action_queue.specs.Writable.{HaveFewFlags}
use Rattle.action_queue.specs.declared.action.Action.{Action}
use Rattle.action_queue.specs.declared.event.Event.{Event}
use Rattle.action_queue.specs.declared.queued.Queued.{Queued}
use Rattle.mail_base.specs.declared.limits.TheConstants.{MAX_ROWS}
use Rattle.mailbox_cache.specs.declared.cache.Cache.{Cache}
use Rattle.mailbox_cache.specs.declared.delta.Delta.{Delta}
use Rattle.playback.specs.Needs.{need_of}
use Rattle.playback.specs.Steps.{step_of}
use Rattle.playback.specs.Why.{is_open}
use Rattle.playback.specs.declared.finding.Finding.{Finding}
use Rattle.playback.specs.declared.finding.Resynced.{Resynced}
use Rattle.playback.specs.declared.need.Unheard.{Unheard}
use Rattle.playback.specs.declared.player.Player.{Player}
use Rattle.playback.specs.declared.step.Step.{Step}
use Rattle.qresync_core.specs.declared.fault.ResyncFault.{ResyncFault}
use Rattle.std.specs.Option.{is_some}
use Rattle.std.specs.Prelude.{Err, List, None, Ok, Option, Result, Some, if◌then◌else◌, length, nat_lt, true, ℕ, ◌&&◌, ◌+◌, ◌≡◌, ◌≤◌, ◌⊎◌}
use Rattle.std.specs.declared.alloc.Global.{Global}
use Rattle.action_queue.specs.declared.action.Action.TheVariants as actions
use Rattle.action_queue.specs.declared.event.Event.TheVariants as events
use Rattle.playback.specs.declared.finding.Finding.TheVariants as findings
use Rattle.qresync_core.specs.Fitting as fitting
use Rattle.playback.specs.declared.need.Need.TheVariants as needs
use Rattle.qresync_core.specs.declared.fault.ResyncFault.TheVariants as resyncs
use Rattle.playback.specs.declared.step.Step.TheVariants as steps
use Rattle.playback.specs.declared.need.Unheard.TheVariants as unheards

-- a fault of a resynchronisation, as one of the player
abbrev pub of_resync : ResyncFault → Unheard
of_resync resyncs.Memory = unheards.Memory
of_resync resyncs.NoModSeq = unheards.Resync resyncs.NoModSeq
of_resync resyncs.NotSticky = unheards.Resync resyncs.NotSticky
of_resync (resyncs.NoCode which) = unheards.Resync (resyncs.NoCode which)
of_resync (resyncs.Validity old new) = unheards.Resync (resyncs.Validity old new)
of_resync (resyncs.Unfit mark highest) = unheards.Resync (resyncs.Unfit mark highest)
of_resync (resyncs.BareRow index) = unheards.Resync (resyncs.BareRow index)

-- the mailbox that is to be selected, with the UIDVALIDITY that it is to have where that is known
pub record WantedBox : Type 0 where
  pub name : List ℕ
  pub under : Option ℕ

-- the mailbox that the step selects
abbrev pub wanted_by : Step → Option WantedBox
wanted_by steps.Learn = None
wanted_by (steps.Select name under) = Some (record { name = name; under = under })
wanted_by (steps.AskRow uid) = None
wanted_by (steps.Search uidnext) = None
wanted_by steps.AskIds = None
wanted_by (steps.Intend intent) = None
wanted_by (steps.Settle outcome) = None
wanted_by steps.Send = None
wanted_by steps.Finished = None

-- the mailbox that is to be selected next
abbrev pub wanted : Player → Meaning → Option WantedBox
wanted p b = wanted_by (step_of p b)

-- where a SELECT told this UIDVALIDITY above that of the cache, the cache is to be taken away
abbrev pub reset_of : List ℕ → Option Cache → ℕ → Option Event
reset_of name None told = None
reset_of name (Some cache) told = if nat_lt cache.validity told then Some (events.Reset name cache.validity told) else None

-- the same of the mailbox that is to be selected
abbrev pub reset_in : Meaning → ℕ → Option WantedBox → Option Event
reset_in b told None = None
reset_in b told (Some box) = reset_of box.name (cache_at box.name b.boxes) told

-- of an append the UIDNEXT is kept
abbrev pub chosen_for : Action → Delta → Finding
chosen_for (actions.Flag target add flags) delta = findings.Nothing
chosen_for (actions.Move target to) delta = findings.Nothing
chosen_for (actions.Append to flags text id) delta = findings.Next delta.validity delta.uidnext

-- what is kept of the mailbox for the action that is due
abbrev pub chosen_due : Option Queued → Delta → Finding
chosen_due None delta = findings.Nothing
chosen_due (Some q) delta = chosen_for q.action delta

-- the mailbox is selected under the UIDVALIDITY that was told, and what was told is to be recorded
abbrev pub chosen_box : Player → Meaning → Delta → List ℕ → Player
chosen_box p b delta name = record p {
  selected = Some (record { name = name; validity = delta.validity });
  told = chosen_due (due_action b.queue) delta;
  learns = Some (record { name = name; delta = delta });
}

-- and where no mailbox is to be selected, all stays
abbrev pub chosen_in : Player → Meaning → Delta → Option WantedBox → Player
chosen_in p b delta None = p
chosen_in p b delta (Some box) = chosen_box p b delta box.name

-- the player behind a SELECT that is taken
abbrev pub chosen : Player → Meaning → Delta → Player
chosen p b delta = chosen_in p b delta (wanted p b)

-- the mailbox has a UIDVALIDITY below the one that it is to have
abbrev pub is_below : Option ℕ → ℕ → Option (ℕ × ℕ)
is_below None told = None
is_below (Some old) told = if nat_lt told old then Some (old, told) else None

-- so many rows are more than a cache may have
abbrev pub is_many : ℕ → Option ℕ
is_many count = if nat_lt MAX_ROWS count then Some count else None

-- how many rows the mailbox's cache would have
abbrev pub rows_with : List ℕ → Meaning → Delta → ℕ
rows_with name b delta = length (learned (cache_at name b.boxes) delta).rows

-- the cache would have too many rows
abbrev pub rows_fault : Option ℕ → Option Unheard
rows_fault None = None
rows_fault (Some count) = Some (unheards.Rows count)

-- the lower UIDVALIDITY comes before any later fault
abbrev pub target_fault : Option (ℕ × ℕ) → Option Unheard → Option Unheard
target_fault None later = later
target_fault (Some pair) later = Some (unheards.Target pair.0 pair.1)

-- why the delta of this mailbox isn't taken
abbrev pub box_fault : Meaning → Delta → Option WantedBox → Option Unheard
box_fault b delta None = None
box_fault b delta (Some box) = target_fault (is_below box.under delta.validity) (rows_fault (is_many (rows_with box.name b delta)))

-- why a delta isn't taken: the first that holds
abbrev pub chosen_fault : Player → Meaning → Delta → Option Unheard
chosen_fault p b delta = box_fault b delta (wanted p b)

-- want of memory may stand in place of any fault
abbrev pub IsChosenFault : Player → Meaning → Result Delta ResyncFault → Unheard → Type 0
IsChosenFault p b (Err fault) unheard = (unheard ≡ of_resync fault) ⊎ (unheard ≡ unheards.Memory)
IsChosenFault p b (Ok delta) unheard = (chosen_fault p b delta ≡ Some unheard) ⊎ (unheard ≡ unheards.Memory)

-- the delta was taken
abbrev pub IsChosen : Player → Meaning → Result Delta ResyncFault → Player → Type 0
IsChosen p b (Err fault) new = ⊥
IsChosen p b (Ok delta) new = (chosen_fault p b delta ≡ None) × (new ≡ chosen p b delta)

-- what a resynchronisation told was recorded, and what was found beside it stays; behind any other record nothing is known of the action
-- that is due now
abbrev pub told_after : Option Resynced → Finding → Finding
told_after None told = findings.Nothing
told_after (Some resynced) told = told

-- a mailbox that was resynchronised while every action is settled counts
abbrev pub counted : Option Resynced → Option Queued → ℕ → ℕ → ℕ
counted None queued boxes count = count
counted (Some resynced) None boxes count = if nat_lt count boxes then count + 1 else count
counted (Some resynced) (Some q) boxes count = count

-- the player behind a record, by the book as it is then
abbrev pub committed : Player → Meaning → Player
committed p b = record p {
  told = told_after p.learns p.told;
  resumed = p.resumed && is_some b.pending;
  learns = None;
  resynced = counted p.learns (due_action b.queue) (length b.boxes) p.resynced;
}

-- What is handed over is a fault, or a delta for the mailbox that is to be selected: one for the cache that the book has of it, with rows
-- that have few enough flags.
abbrev pub FitsWanted : Player → Meaning → Result Delta ResyncFault → Type 0
FitsWanted p b (Err fault) = Unit {0}
FitsWanted p b (Ok delta) = (name : List ℕ) → need_of p b ≡ needs.Select name → fitting.Fits (cache_at name b.boxes) delta × HaveFewFlags delta.rows

-- a player as a connection begins
abbrev pub begun_with : Global → Meaning → Player
begun_with alloc b =
    record { alloc = alloc; resumed = is_some b.pending; selected = None; told = findings.Nothing; learns = None; resynced = 0 }

-- An intent of an earlier run is pending for the player exactly where one was pending in the book with which the run began, its action is
-- due still, and its try wasn't taken back. The run's book is at its beginning or further on.
pub record IsEntered (entry : Meaning) (p : Player) (b : Meaning) : Type 0 where
  pub same : p.resumed ≡ is_open entry b
  pub further : due entry.queue ≤ due b.queue
  pub tries : due entry.queue ≡ due b.queue → tries_due entry.queue ≤ tries_due b.queue
  pub pending : due entry.queue ≡ due b.queue → tries_due entry.queue ≡ tries_due b.queue → is_some entry.pending ≡ true → is_some b.pending ≡ true

-- That playback comes to its end: a number falls with each record and each reply (this client's profile of RFC 4549, section 4.2).
use Rattle.action_queue.specs.Book.{Meaning}
use Rattle.action_queue.specs.Queues.{due, due_action, tries_due}
use Rattle.action_queue.specs.declared.queued.Queued.{Queued}
use Rattle.playback.specs.Choosing.{begun_with}
use Rattle.playback.specs.Steps.{step_action, step_of}
use Rattle.playback.specs.declared.finding.Resynced.{Resynced}
use Rattle.playback.specs.declared.need.Need.{Need}
use Rattle.playback.specs.declared.player.Player.{Player}
use Rattle.playback.specs.declared.step.Step.{Step}
use Rattle.std.specs.Prelude.{List, None, Option, Some, length, ℕ, ◌*◌, ◌+◌, ◌-◌, ◌≤◌}
use Rattle.std.specs.declared.alloc.Global.{Global}
use Rattle.playback.specs.declared.need.Need.TheVariants as needs
use Rattle.playback.specs.declared.step.Step.TheVariants as steps

-- how far a step is from the end of the action's try, or of the mailbox, at most
abbrev pub rank : Step → ℕ
rank steps.Learn = 6
rank (steps.Select name under) = 7
rank (steps.AskRow uid) = 4
rank (steps.Search uidnext) = 5
rank steps.AskIds = 4
rank (steps.Intend intent) = 3
rank (steps.Settle outcome) = 1
rank steps.Send = 2
rank steps.Finished = 0

-- the step behind the record of what was told; where every action is settled the mailbox counts only then
abbrev pub rank_behind : Player → Meaning → Option Queued → ℕ
rank_behind p b None = 6
rank_behind p b (Some q) = 1 + rank (step_action p b q.action)

-- how far the step that is due is from the end
abbrev pub rank_of : Player → Meaning → Option Resynced → ℕ
rank_of p b None = rank (step_of p b)
rank_of p b (Some told) = rank_behind p b (due_action b.queue)

-- how many actions are unsettled
abbrev pub unsettled : List Queued → ℕ
unsettled queue = length queue - due queue

-- How many records and replies are left at most: sixteen for each unsettled action, sixteen for each mailbox that is still to be
-- resynchronised, four for each try that can be taken back still, and those of what is under way.
abbrev pub left : Player → Meaning → ℕ
left p b = rank_of p b p.learns + 4 * (2 - tries_due b.queue) + 16 * unsettled b.queue + 16 * (length b.boxes - p.resynced)

-- a reply is awaited for what is needed
abbrev pub Awaits : Need → Type 0
Awaits (needs.Select name) = ⊥
Awaits (needs.Ask command) = Unit {0}
Awaits (needs.Commit event) = ⊥
Awaits (needs.Settle n outcome) = ⊥
Awaits (needs.Withdraw n tries) = ⊥
Awaits (needs.Send n command) = Unit {0}
Awaits needs.Finished = ⊥

-- A player as a connection begins has at most this much left.
abbrev pub LeftAtFirst : Type 0
LeftAtFirst = (alloc : Global) (b : Meaning) → left (begun_with alloc b) b ≤ 15 + 16 * unsettled b.queue + 16 * length b.boxes

-- What is needed for the step that is due (RFC 9051, section 6; RFC 7162, sections 3.1.3 and 3.2.5).
use Rattle.action_queue.specs.Book.{Meaning}
use Rattle.action_queue.specs.Events.{IsLawful}
use Rattle.action_queue.specs.Queues.{AllSettled, due, due_action, tries_due}
use Rattle.action_queue.specs.Rules.{is_unknown}
use Rattle.action_queue.specs.Writable.{IsWritable}
use Rattle.action_queue.specs.declared.action.Action.{Action}
use Rattle.action_queue.specs.declared.book.Known.{Known}
use Rattle.action_queue.specs.declared.event.Event.{Event}
use Rattle.action_queue.specs.declared.intent.Intent.{Intent}
use Rattle.action_queue.specs.declared.outcome.Kind.{Kind}
use Rattle.action_queue.specs.declared.outcome.Outcome.{Outcome}
use Rattle.action_queue.specs.declared.queued.Queued.{Queued}
use Rattle.append_probe.specs.Question.{question_of}
use Rattle.imap_model.specs.Mutating.{is_mutating}
use Rattle.imap_model.specs.declared.command.Command.{Command}
use Rattle.book_laws.specs.Open.{intent_name, intent_validity}
use Rattle.playback.specs.Steps.{is_selected_at, step_of}
use Rattle.playback.specs.declared.finding.Finding.{Finding}
use Rattle.playback.specs.declared.finding.Resynced.{Resynced}
use Rattle.playback.specs.declared.need.Need.{Need}
use Rattle.playback.specs.declared.player.Player.{Player}
use Rattle.playback.specs.declared.step.Step.{Step}
use Rattle.std.specs.Option.{is_some}
use Rattle.std.specs.Prelude.{Contains, List, None, Option, Some, false, if◌then◌else◌, length, nat_lt, slice_get, suc, true, ℕ, ◌+◌, ◌<◌, ◌≡◌, ◌≤◌}
use Rattle.action_queue.specs.declared.action.Action.TheVariants as actions
use Rattle.imap_model.specs.declared.command.Command.TheVariants as commands
use Rattle.action_queue.specs.declared.event.Event.TheVariants as events
use Rattle.playback.specs.declared.finding.Finding.TheVariants as findings
use Rattle.action_queue.specs.declared.intent.Intent.TheVariants as intents
use Rattle.action_queue.specs.declared.outcome.Kind.TheVariants as kinds
use Rattle.action_queue.specs.declared.outcome.Outcome.TheVariants as outcomes
use Rattle.action_queue.specs.declared.rule.Version.TheVariants as versions
use Rattle.playback.specs.declared.need.Need.TheVariants as needs
use Rattle.playback.specs.declared.step.Step.TheVariants as steps

-- the number of the action that is due
abbrev pub due_id : Meaning → ℕ
due_id b = suc (due b.queue)

-- what was told of a mailbox is recorded
abbrev pub need_learn : Option Resynced → Need
need_learn None = needs.Finished
need_learn (Some told) = needs.Commit (events.Learn told.name told.delta)

-- the question for the messages from this UID on that may have an append's Message-ID
abbrev pub search_of : ℕ → Action → Need
search_of uidnext (actions.Flag target add flags) = needs.Finished
search_of uidnext (actions.Move target to) = needs.Finished
search_of uidnext (actions.Append to flags text id) = needs.Ask (question_of uidnext id)

-- the same for the action that is due
abbrev pub need_search : ℕ → Option Queued → Need
need_search uidnext None = needs.Finished
need_search uidnext (Some q) = search_of uidnext q.action

-- the question for the Message-ID fields of the candidates
abbrev pub need_ids : Finding → Need
need_ids findings.Nothing = needs.Finished
need_ids findings.NoRow = needs.Finished
need_ids (findings.Row modseq so) = needs.Finished
need_ids findings.Barred = needs.Finished
need_ids (findings.Ended outcome) = needs.Finished
need_ids (findings.Next validity uidnext) = needs.Finished
need_ids (findings.Candidates uids) = needs.Ask (commands.FetchIds uids)
need_ids (findings.Probed verdict) = needs.Finished

-- the command that an intent and its action give is sent
abbrev pub send_of : ℕ → Action → Intent → Need
send_of n (actions.Flag target add flags) (intents.Store name validity uid modseq) = needs.Send n (commands.Store uid modseq add flags)
send_of n (actions.Flag target add flags) (intents.Shift from validity uid to) = needs.Finished
send_of n (actions.Flag target add flags) (intents.Put to validity uidnext) = needs.Finished
send_of n (actions.Move target other) (intents.Store name validity uid modseq) = needs.Finished
send_of n (actions.Move target other) (intents.Shift from validity uid to) = needs.Send n (commands.Shift uid to)
send_of n (actions.Move target other) (intents.Put to validity uidnext) = needs.Finished
send_of n (actions.Append other flags text id) (intents.Store name validity uid modseq) = needs.Finished
send_of n (actions.Append other flags text id) (intents.Shift from validity uid to) = needs.Finished
send_of n (actions.Append other flags text id) (intents.Put to validity uidnext) = needs.Send n (commands.Append to flags text)

-- the command of the pending intent is sent
abbrev pub send_meant : ℕ → Action → Option Intent → Need
send_meant n action None = needs.Finished
send_meant n action (Some intent) = send_of n action intent

-- the command of the action that is due is sent
abbrev pub need_send : ℕ → Option Queued → Option Intent → Need
need_send n None pending = needs.Finished
need_send n (Some q) pending = send_meant n q.action pending

-- How many tries are taken back then, where a try ended so behind this many: the message was changed before the STORE that asked for it
-- unchanged, so that this had no effect, and fewer than two tries were taken back before.
abbrev pub again_as : ℕ → Kind → Option ℕ
again_as tries kinds.MessageGone = None
again_as tries kinds.AlreadySo = None
again_as tries (kinds.FlagsChanged m) = if nat_lt tries 2 then Some (tries + 1) else None
again_as tries kinds.RefusedNo = None
again_as tries kinds.RefusedBad = None
again_as tries kinds.NotPermanent = None
again_as tries (kinds.TargetUnknown k) = None
again_as tries kinds.FoundSo = None
again_as tries (kinds.StoreUnsure m f) = None
again_as tries kinds.SourceGone = None
again_as tries kinds.GoneAfterLoss = None
again_as tries (kinds.Ambiguous u v) = None
again_as tries (kinds.ValidityChanged o n) = None
again_as tries (kinds.ResetAfterLoss o n) = None

abbrev pub again : ℕ → Outcome → Option ℕ
again tries (outcomes.Done place) = None
again tries (outcomes.Conflict kind) = again_as tries kind

-- the action ends, or its try is taken back
abbrev pub end_of : ℕ → Outcome → Option ℕ → Event
end_of n outcome None = events.Settle n outcome
end_of n outcome (Some tries) = events.Withdraw n tries

-- the event for the action that is due
abbrev pub end_due : Meaning → Outcome → Event
end_due b outcome = end_of (due_id b) outcome (again (tries_due b.queue) outcome)

abbrev pub need_end : ℕ → Outcome → Option ℕ → Need
need_end n outcome None = needs.Settle n outcome
need_end n outcome (Some tries) = needs.Withdraw n tries

-- what the step needs
abbrev pub need_for : Step → Player → Meaning → Need
need_for steps.Learn p b = need_learn p.learns
need_for (steps.Select name under) p b = needs.Select name
need_for (steps.AskRow uid) p b = needs.Ask (commands.FetchRow uid)
need_for (steps.Search uidnext) p b = need_search uidnext (due_action b.queue)
need_for steps.AskIds p b = need_ids p.told
need_for (steps.Intend intent) p b = needs.Commit (events.Intend (due_id b) intent)
need_for (steps.Settle outcome) p b = need_end (due_id b) outcome (again (tries_due b.queue) outcome)
need_for steps.Send p b = need_send (due_id b) (due_action b.queue) b.pending
need_for steps.Finished p b = needs.Finished

-- what playback needs next
abbrev pub need_of : Player → Meaning → Need
need_of p b = need_for (step_of p b) p b

-- what is needed takes no memory: the action that is due may always be settled, and its try taken back
abbrev pub NeedsNoMemory : Need → Type 0
NeedsNoMemory (needs.Select name) = Unit {0}
NeedsNoMemory (needs.Ask command) = ⊥
NeedsNoMemory (needs.Commit event) = ⊥
NeedsNoMemory (needs.Settle n outcome) = Unit {0}
NeedsNoMemory (needs.Withdraw n tries) = Unit {0}
NeedsNoMemory (needs.Send n command) = ⊥
NeedsNoMemory needs.Finished = Unit {0}

-- every action is settled, what was told is recorded, and each mailbox was resynchronised since
pub record IsFinished (p : Player) (b : Meaning) : Type 0 where
  pub recorded : p.learns ≡ None
  pub settled : AllSettled b.queue
  pub resynced : length b.boxes ≤ p.resynced

-- the event may come next, by the rules of the second version, and has a record
pub record IsReadyEvent (b : Meaning) (event : Event) : Type 0 where
  pub lawful : IsLawful b event
  pub second : lawful.version ≡ versions.Second
  pub writable : IsWritable event

-- the mailbox is one of the book's
abbrev pub IsKnown : List ℕ → Meaning → Type 0
IsKnown name b = is_unknown b.boxes name ≡ false

-- a question that playback asks; what it searches for can be sent
abbrev pub IsPlayQuestion : Command → Type 0
IsPlayQuestion commands.Capability = ⊥
IsPlayQuestion (commands.Login account) = ⊥
IsPlayQuestion (commands.Plain account) = ⊥
IsPlayQuestion (commands.Enable rev2) = ⊥
IsPlayQuestion (commands.Select name since) = ⊥
IsPlayQuestion commands.FetchAll = ⊥
IsPlayQuestion (commands.FetchRow uid) = Unit {0}
IsPlayQuestion (commands.Search from id) = ¬ (Contains id 0)
IsPlayQuestion (commands.FetchIds uids) = Unit {0}
IsPlayQuestion (commands.FetchText uid) = ⊥
IsPlayQuestion (commands.Store uid since add flags) = ⊥
IsPlayQuestion (commands.Shift uid to) = ⊥
IsPlayQuestion (commands.Copy uid to) = ⊥
IsPlayQuestion (commands.Expunge uid) = ⊥
IsPlayQuestion (commands.Append to flags text) = ⊥
IsPlayQuestion commands.Logout = ⊥

-- Whatever the replies were, what is needed can be done: the mailbox is one of the book's; a question and a command are asked while a
-- mailbox is selected, the command as that of the action that is due; and what is to be recorded may come next in the book and has a
-- record.
abbrev pub IsLawfulNeed : Need → Player → Meaning → Type 0
IsLawfulNeed (needs.Select name) p b = IsKnown name b
IsLawfulNeed (needs.Ask command) p b = IsPlayQuestion command × (is_some p.selected ≡ true)
IsLawfulNeed (needs.Commit event) p b = IsReadyEvent b event
IsLawfulNeed (needs.Settle n outcome) p b = IsReadyEvent b (events.Settle n outcome)
IsLawfulNeed (needs.Withdraw n tries) p b = IsReadyEvent b (events.Withdraw n tries)
IsLawfulNeed (needs.Send n command) p b = (n ≡ due_id b) × (is_mutating command ≡ true) × (is_some p.selected ≡ true)
IsLawfulNeed needs.Finished p b = Unit {0}

-- what was told of a mailbox may be recorded
abbrev pub MayRecord : Option Resynced → Meaning → Type 0
MayRecord None b = Unit {0}
MayRecord (Some told) b = IsReadyEvent b (events.Learn told.name told.delta)

-- the action that is due may end so, or its try be taken back
abbrev pub MayEnd : Finding → Meaning → Type 0
MayEnd findings.Nothing b = Unit {0}
MayEnd findings.NoRow b = Unit {0}
MayEnd (findings.Row modseq so) b = Unit {0}
MayEnd findings.Barred b = Unit {0}
MayEnd (findings.Ended outcome) b = IsReadyEvent b (end_due b outcome)
MayEnd (findings.Next validity uidnext) b = Unit {0}
MayEnd (findings.Candidates uids) b = Unit {0}
MayEnd (findings.Probed verdict) b = Unit {0}

-- nothing, or the UIDNEXT of a mailbox that was selected anew
abbrev pub IsPlain : Finding → Type 0
IsPlain findings.Nothing = Unit {0}
IsPlain findings.NoRow = ⊥
IsPlain (findings.Row modseq so) = ⊥
IsPlain findings.Barred = ⊥
IsPlain (findings.Ended outcome) = ⊥
IsPlain (findings.Next validity uidnext) = Unit {0}
IsPlain (findings.Candidates uids) = ⊥
IsPlain (findings.Probed verdict) = ⊥

-- what was told of a mailbox while every action is settled is that of the next mailbox in the book's order
abbrev pub IsNextBox : Option Queued → Option Resynced → ℕ → List Known → Type 0
IsNextBox (Some q) told count boxes = Unit {0}
IsNextBox None None count boxes = Unit {0}
IsNextBox None (Some told) count boxes = (known : Known) × (slice_get boxes count ≡ Some known) × (known.name ≡ told.name)

-- the mailbox of the intent is selected under its UIDVALIDITY
abbrev pub IsPlaced : Intent → Player → Type 0
IsPlaced intent p = is_selected_at p.selected (intent_name intent) (intent_validity intent) ≡ true

-- What the player is about to record may come next in the book; an intent of an earlier run is one that is pending; where the command of the
-- pending one was answered, its mailbox is selected still; and the first
-- mailboxes of the book, as many as it counted, were resynchronised since every action was settled, each in its turn. Where the book
-- changes by the player's needs alone, this holds all the time, whatever the replies are.
pub record IsBeside (p : Player) (b : Meaning) : Type 0 where
  pub learns : MayRecord p.learns b
  pub ends : MayEnd p.told b
  pub plain : is_some p.learns ≡ true → IsPlain p.told
  pub fresh : b.pending ≡ None → p.resumed ≡ false
  pub placed : (outcome : Outcome) → p.told ≡ findings.Ended outcome → (intent : Intent) → b.pending ≡ Some intent → IsPlaced intent p
  pub within : p.resynced ≤ length b.boxes
  pub last : 0 < p.resynced → due_action b.queue ≡ None
  pub next : IsNextBox (due_action b.queue) p.learns p.resynced b.boxes

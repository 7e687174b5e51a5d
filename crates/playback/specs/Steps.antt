-- What is due next: by the book, by what is selected, and by what was found out about the action that is due (this client's profile of
-- RFC 4549, section 4.2; RFC 7162, section 3.1.3; RFC 9051, sections 6.3.12 and 6.4.8).
use Rattle.action_queue.specs.Book.{Meaning}
use Rattle.action_queue.specs.Queues.{due_action}
use Rattle.action_queue.specs.Targets.{resolved}
use Rattle.action_queue.specs.declared.action.Action.{Action}
use Rattle.action_queue.specs.declared.book.Known.{Known}
use Rattle.action_queue.specs.declared.found.Found.{Found}
use Rattle.action_queue.specs.declared.intent.Intent.{Intent}
use Rattle.action_queue.specs.declared.outcome.Kind.{Kind}
use Rattle.action_queue.specs.declared.queued.Queued.{Queued}
use Rattle.action_queue.specs.declared.target.Target.{Target}
use Rattle.append_probe.specs.declared.verdict.Verdict.{Verdict}
use Rattle.playback.specs.declared.finding.Finding.{Finding}
use Rattle.playback.specs.declared.finding.Resynced.{Resynced}
use Rattle.playback.specs.declared.finding.Selected.{Selected}
use Rattle.playback.specs.declared.finding.Spot.{Spot}
use Rattle.playback.specs.declared.player.Player.{Player}
use Rattle.playback.specs.declared.step.Step.{Step}
use Rattle.std.specs.Prelude.{Bool, List, None, Option, Some, bytes_eq, false, if◌then◌else◌, nat_lt, slice_get, true, ℕ, ◌&&◌, ◌==◌}
use Rattle.action_queue.specs.declared.action.Action.TheVariants as actions
use Rattle.playback.specs.declared.finding.Finding.TheVariants as findings
use Rattle.action_queue.specs.declared.found.Found.TheVariants as found
use Rattle.action_queue.specs.declared.intent.Intent.TheVariants as intents
use Rattle.action_queue.specs.declared.outcome.Kind.TheVariants as kinds
use Rattle.action_queue.specs.declared.outcome.Outcome.TheVariants as outcomes
use Rattle.playback.specs.declared.step.Step.TheVariants as steps
use Rattle.append_probe.specs.declared.verdict.Verdict.TheVariants as verdicts

-- this mailbox is selected under this UIDVALIDITY
abbrev pub is_selected_at : Option Selected → List ℕ → ℕ → Bool
is_selected_at None name validity = false
is_selected_at (Some selected) name validity = bytes_eq selected.name name && (selected.validity == validity)

-- the mailbox of the message is selected under its UIDVALIDITY
abbrev pub is_selected : Option Selected → Spot → Bool
is_selected selected spot = is_selected_at selected spot.name spot.validity

-- the action ends as a conflict
abbrev pub conflict : Kind → Step
conflict kind = steps.Settle (outcomes.Conflict kind)

-- the mailbox is selected anew, and is to have this UIDVALIDITY
abbrev pub select_under : List ℕ → ℕ → Step
select_under name validity = steps.Select name (Some validity)

-- the mailbox of the message is selected, under its UIDVALIDITY
abbrev pub select_box : Spot → Step
select_box spot = select_under spot.name spot.validity

-- the UIDVALIDITY under which this mailbox is selected, where that is above this one
abbrev pub above_at : Option Selected → List ℕ → ℕ → Option ℕ
above_at None name validity = None
above_at (Some selected) name validity =
    if bytes_eq selected.name name && nat_lt validity selected.validity then Some selected.validity else None

-- how an action ends whose mailbox was renewed: no intent is pending for it, or one is
abbrev pub renewed_as : Bool → ℕ → ℕ → Kind
renewed_as false o n = kinds.ValidityChanged o n
renewed_as true o n = kinds.ResetAfterLoss o n

-- the mailbox is selected under a greater UIDVALIDITY, and the action ends; or it is selected first
abbrev pub elsewhere : Bool → Option ℕ → List ℕ → ℕ → Step
elsewhere meant None name validity = select_under name validity
elsewhere meant (Some n) name validity = conflict (renewed_as meant validity n)

-- This step, where the mailbox of the message is selected under its UIDVALIDITY. Else the action ends, or the mailbox is selected first.
abbrev pub in_box : Option Selected → Bool → Spot → Step → Step
in_box selected meant spot step =
    if is_selected selected spot then step else elsewhere meant (above_at selected spot.name spot.validity) spot.name spot.validity

-- A flag action, and the row of its message is known. Where the flags are as asked nothing is to be done, and else the intent is
-- recorded, with the row's mod-sequence.
abbrev pub flag_new : ℕ → Bool → Spot → Step
flag_new modseq so spot =
    if so then conflict kinds.AlreadySo else steps.Intend (intents.Store spot.name spot.validity spot.uid modseq)

-- a flag action without an intent: its message's row is asked for first
abbrev pub flag_first : Finding → Spot → Step
flag_first findings.Nothing spot = steps.AskRow spot.uid
flag_first findings.NoRow spot = conflict kinds.MessageGone
flag_first (findings.Row modseq so) spot = flag_new modseq so spot
flag_first findings.Barred spot = conflict kinds.NotPermanent
flag_first (findings.Ended outcome) spot = steps.AskRow spot.uid
flag_first (findings.Next validity uidnext) spot = steps.AskRow spot.uid
flag_first (findings.Candidates uids) spot = steps.AskRow spot.uid
flag_first (findings.Probed verdict) spot = steps.AskRow spot.uid

-- The row of a message whose STORE may have been carried out. With the intent's mod-sequence it wasn't, and it is sent again; with
-- another one it may have been, or another changed the message.
abbrev pub flag_judged : ℕ → ℕ → Bool → Step
flag_judged mark modseq so =
    if modseq == mark then steps.Send else (if so then conflict kinds.FoundSo else conflict (kinds.StoreUnsure mark modseq))

-- a flag action whose intent an earlier run recorded
abbrev pub flag_open : ℕ → Finding → Spot → Step
flag_open mark findings.Nothing spot = steps.AskRow spot.uid
flag_open mark findings.NoRow spot = conflict kinds.GoneAfterLoss
flag_open mark (findings.Row modseq so) spot = flag_judged mark modseq so
flag_open mark findings.Barred spot = steps.AskRow spot.uid
flag_open mark (findings.Ended outcome) spot = steps.AskRow spot.uid
flag_open mark (findings.Next validity uidnext) spot = steps.AskRow spot.uid
flag_open mark (findings.Candidates uids) spot = steps.AskRow spot.uid
flag_open mark (findings.Probed verdict) spot = steps.AskRow spot.uid

-- the intent is of this run, so that its command wasn't sent yet; or an earlier run recorded it
abbrev pub flag_again : Bool → ℕ → Finding → Spot → Step
flag_again false mark told spot = steps.Send
flag_again true mark told spot = flag_open mark told spot

-- a flag action with a pending STORE: where that was answered, the action ends
abbrev pub flag_meant : Player → ℕ → Spot → Finding → Step
flag_meant p mark spot findings.Nothing = in_box p.selected true spot (flag_again p.resumed mark findings.Nothing spot)
flag_meant p mark spot findings.NoRow = in_box p.selected true spot (flag_again p.resumed mark findings.NoRow spot)
flag_meant p mark spot (findings.Row modseq so) = in_box p.selected true spot (flag_again p.resumed mark (findings.Row modseq so) spot)
flag_meant p mark spot findings.Barred = in_box p.selected true spot (flag_again p.resumed mark findings.Barred spot)
flag_meant p mark spot (findings.Ended outcome) = steps.Settle outcome
flag_meant p mark spot (findings.Next validity uidnext) =
    in_box p.selected true spot (flag_again p.resumed mark (findings.Next validity uidnext) spot)
flag_meant p mark spot (findings.Candidates uids) = in_box p.selected true spot (flag_again p.resumed mark (findings.Candidates uids) spot)
flag_meant p mark spot (findings.Probed verdict) = in_box p.selected true spot (flag_again p.resumed mark (findings.Probed verdict) spot)

-- A flag action on this message. (An intent of another kind isn't one of a lawful book; then nothing is done but to select the mailbox.)
abbrev pub step_flag_at : Player → Option Intent → Spot → Step
step_flag_at p None spot = in_box p.selected false spot (flag_first p.told spot)
step_flag_at p (Some (intents.Store name validity uid modseq)) spot = flag_meant p modseq spot p.told
step_flag_at p (Some (intents.Shift from validity uid to)) spot = select_box spot
step_flag_at p (Some (intents.Put to validity uidnext)) spot = select_box spot

-- a message that is never made ends the action (one that is still to be made isn't one of a lawful book)
abbrev pub step_flag_found : Player → Option Intent → Found → Step
step_flag_found p pending (found.Real name validity uid) = step_flag_at p pending (record { name = name; validity = validity; uid = uid })
step_flag_found p pending (found.NotYet by) = conflict (kinds.TargetUnknown by)
step_flag_found p pending (found.Never by) = conflict (kinds.TargetUnknown by)

-- a flag action on this target
abbrev pub step_flag : Player → Meaning → Target → Step
step_flag p b target = step_flag_found p b.pending (resolved b.queue target)

-- a move without an intent: its message's row is asked for first, and where there is one the intent is recorded
abbrev pub move_first : Finding → Spot → List ℕ → Step
move_first findings.Nothing spot to = steps.AskRow spot.uid
move_first findings.NoRow spot to = conflict kinds.MessageGone
move_first (findings.Row modseq so) spot to = steps.Intend (intents.Shift spot.name spot.validity spot.uid to)
move_first findings.Barred spot to = steps.AskRow spot.uid
move_first (findings.Ended outcome) spot to = steps.AskRow spot.uid
move_first (findings.Next validity uidnext) spot to = steps.AskRow spot.uid
move_first (findings.Candidates uids) spot to = steps.AskRow spot.uid
move_first (findings.Probed verdict) spot to = steps.AskRow spot.uid

-- a move whose intent an earlier run recorded: as long as the message is there, it wasn't carried out, and is sent again
abbrev pub move_open : Finding → Spot → Step
move_open findings.Nothing spot = steps.AskRow spot.uid
move_open findings.NoRow spot = conflict kinds.SourceGone
move_open (findings.Row modseq so) spot = steps.Send
move_open findings.Barred spot = steps.AskRow spot.uid
move_open (findings.Ended outcome) spot = steps.AskRow spot.uid
move_open (findings.Next validity uidnext) spot = steps.AskRow spot.uid
move_open (findings.Candidates uids) spot = steps.AskRow spot.uid
move_open (findings.Probed verdict) spot = steps.AskRow spot.uid

-- the intent is of this run, or an earlier run recorded it
abbrev pub move_again : Bool → Finding → Spot → Step
move_again false told spot = steps.Send
move_again true told spot = move_open told spot

-- a move whose intent is pending: where its command was answered, the action ends
abbrev pub move_meant : Player → Spot → Finding → Step
move_meant p spot findings.Nothing = in_box p.selected true spot (move_again p.resumed findings.Nothing spot)
move_meant p spot findings.NoRow = in_box p.selected true spot (move_again p.resumed findings.NoRow spot)
move_meant p spot (findings.Row modseq so) = in_box p.selected true spot (move_again p.resumed (findings.Row modseq so) spot)
move_meant p spot findings.Barred = in_box p.selected true spot (move_again p.resumed findings.Barred spot)
move_meant p spot (findings.Ended outcome) = steps.Settle outcome
move_meant p spot (findings.Next validity uidnext) = in_box p.selected true spot (move_again p.resumed (findings.Next validity uidnext) spot)
move_meant p spot (findings.Candidates uids) = in_box p.selected true spot (move_again p.resumed (findings.Candidates uids) spot)
move_meant p spot (findings.Probed verdict) = in_box p.selected true spot (move_again p.resumed (findings.Probed verdict) spot)

-- a move of this message
abbrev pub step_move_at : Player → Option Intent → Spot → List ℕ → Step
step_move_at p None spot to = in_box p.selected false spot (move_first p.told spot to)
step_move_at p (Some (intents.Store name validity uid modseq)) spot to = select_box spot
step_move_at p (Some (intents.Shift from validity uid other)) spot to = move_meant p spot p.told
step_move_at p (Some (intents.Put other validity uidnext)) spot to = select_box spot

-- and the same of a move
abbrev pub step_move_found : Player → Option Intent → List ℕ → Found → Step
step_move_found p pending to (found.Real name validity uid) = step_move_at p pending (record { name = name; validity = validity; uid = uid }) to
step_move_found p pending to (found.NotYet by) = conflict (kinds.TargetUnknown by)
step_move_found p pending to (found.Never by) = conflict (kinds.TargetUnknown by)

-- a move of this target
abbrev pub step_move : Player → Meaning → Target → List ℕ → Step
step_move p b target to = step_move_found p b.pending to (resolved b.queue target)

-- the append's mailbox is selected anew, whatever its UIDVALIDITY is
abbrev pub select_any : List ℕ → Step
select_any to = steps.Select to None

-- an append whose mailbox was selected anew: the intent is recorded, with the UIDNEXT that was told
abbrev pub append_new : Option Selected → List ℕ → ℕ → ℕ → Step
append_new selected to validity uidnext =
    if is_selected_at selected to validity then steps.Intend (intents.Put to validity uidnext) else select_any to

-- an append without an intent: its mailbox is selected anew first
abbrev pub append_first : Option Selected → Finding → List ℕ → Step
append_first selected findings.Nothing to = select_any to
append_first selected findings.NoRow to = select_any to
append_first selected (findings.Row modseq so) to = select_any to
append_first selected findings.Barred to = select_any to
append_first selected (findings.Ended outcome) to = select_any to
append_first selected (findings.Next validity uidnext) to = append_new selected to validity uidnext
append_first selected (findings.Candidates uids) to = select_any to
append_first selected (findings.Probed verdict) to = select_any to

-- how many messages have the Message-ID, from the recorded UIDNEXT on: the append wasn't carried out and is sent again; the one message
-- is its; or there are several, and it can't be said which
abbrev pub append_judged : Verdict → ℕ → Step
append_judged verdicts.NotThere validity = steps.Send
append_judged (verdicts.There uid) validity = steps.Settle (outcomes.Done (Some (record { validity = validity; uid = uid })))
append_judged (verdicts.Several first second) validity = conflict (kinds.Ambiguous first second)

-- an append whose intent an earlier run recorded: its mailbox is selected anew and searched
abbrev pub append_open : Finding → List ℕ → ℕ → ℕ → Step
append_open findings.Nothing to validity uidnext = select_under to validity
append_open findings.NoRow to validity uidnext = select_under to validity
append_open (findings.Row modseq so) to validity uidnext = select_under to validity
append_open findings.Barred to validity uidnext = select_under to validity
append_open (findings.Ended outcome) to validity uidnext = select_under to validity
append_open (findings.Next told next) to validity uidnext = steps.Search uidnext
append_open (findings.Candidates uids) to validity uidnext = steps.AskIds
append_open (findings.Probed verdict) to validity uidnext = append_judged verdict validity

-- the intent is of this run, or an earlier run recorded it
abbrev pub append_again : Bool → Finding → List ℕ → ℕ → ℕ → Step
append_again false told to validity uidnext = steps.Send
append_again true told to validity uidnext = append_open told to validity uidnext

-- an append whose intent is pending, in its mailbox
abbrev pub append_in_box : Player → List ℕ → ℕ → ℕ → Finding → Step
append_in_box p to validity uidnext told =
    if is_selected_at p.selected to validity then append_again p.resumed told to validity uidnext
    else elsewhere true (above_at p.selected to validity) to validity

-- an append whose intent is pending: where its command was answered, the action ends
abbrev pub append_meant : Player → List ℕ → ℕ → ℕ → Finding → Step
append_meant p to validity uidnext findings.Nothing = append_in_box p to validity uidnext findings.Nothing
append_meant p to validity uidnext findings.NoRow = append_in_box p to validity uidnext findings.NoRow
append_meant p to validity uidnext (findings.Row modseq so) = append_in_box p to validity uidnext (findings.Row modseq so)
append_meant p to validity uidnext findings.Barred = append_in_box p to validity uidnext findings.Barred
append_meant p to validity uidnext (findings.Ended outcome) = steps.Settle outcome
append_meant p to validity uidnext (findings.Next told next) = append_in_box p to validity uidnext (findings.Next told next)
append_meant p to validity uidnext (findings.Candidates uids) = append_in_box p to validity uidnext (findings.Candidates uids)
append_meant p to validity uidnext (findings.Probed verdict) = append_in_box p to validity uidnext (findings.Probed verdict)

-- the same by what was found out so far
abbrev pub step_put : Player → List ℕ → ℕ → ℕ → Step
step_put p to validity uidnext = append_meant p to validity uidnext p.told

-- an append
abbrev pub step_append : Player → Option Intent → List ℕ → Step
step_append p None to = append_first p.selected p.told to
step_append p (Some (intents.Store name validity uid modseq)) to = select_any to
step_append p (Some (intents.Shift from validity uid other)) to = select_any to
step_append p (Some (intents.Put other validity uidnext)) to = step_put p to validity uidnext

-- the action that is due
abbrev pub step_action : Player → Meaning → Action → Step
step_action p b (actions.Flag target add flags) = step_flag p b target
step_action p b (actions.Move target to) = step_move p b target to
step_action p b (actions.Append to flags text id) = step_append p b.pending to

-- every action is settled: the next mailbox in the book's order is resynchronised, if one is left
abbrev pub step_box : Option Known → Step
step_box None = steps.Finished
step_box (Some known) = select_any known.name

-- the mailbox that is resynchronised next
abbrev pub step_last : ℕ → Meaning → Step
step_last resynced b = step_box (slice_get b.boxes resynced)

-- the action that is due is played, and where none is, a mailbox is resynchronised
abbrev pub step_due : Player → Meaning → Option Queued → Step
step_due p b None = step_last p.resynced b
step_due p b (Some q) = step_action p b q.action

-- what a resynchronisation told is recorded first
abbrev pub step_learn : Player → Meaning → Option Resynced → Step
step_learn p b None = step_due p b (due_action b.queue)
step_learn p b (Some told) = steps.Learn

-- what is due next
abbrev pub step_of : Player → Meaning → Step
step_of p b = step_learn p b p.learns

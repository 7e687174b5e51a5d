-- What the reply to a question or to a command of an action tells of it (RFC 9051, sections 6.3.12, 6.4.5, 6.4.6, 6.4.8 and 7.5.2; RFC
-- 7162, section 3.1.3; RFC 4315, section 3).
use Rattle.action_queue.specs.Book.{Meaning}
use Rattle.action_queue.specs.Queues.{due_action}
use Rattle.action_queue.specs.declared.action.Action.{Action}
use Rattle.action_queue.specs.declared.intent.Intent.{Intent}
use Rattle.action_queue.specs.declared.outcome.Outcome.{Outcome}
use Rattle.action_queue.specs.declared.queued.Queued.{Queued}
use Rattle.append_probe.specs.Candidates.{AreCandidates}
use Rattle.append_probe.specs.Verdict.{IsVerdict, Matches}
use Rattle.append_probe.specs.declared.verdict.Verdict.{Verdict}
use Rattle.flag_set.specs.FlagSet.{has}
use Rattle.imap_model.specs.declared.code.Code.{Code}
use Rattle.imap_model.specs.declared.ending.Ending.{Ending}
use Rattle.imap_model.specs.declared.fetched.Fetched.{Fetched}
use Rattle.imap_model.specs.declared.item.Item.{Item}
use Rattle.imap_model.specs.declared.replies.Replies.{Replies}
use Rattle.imap_model.specs.declared.response.Response.{Response}
use Rattle.mailbox_cache.specs.Rows.{has_uid}
use Rattle.playback.specs.Steps.{step_of}
use Rattle.playback.specs.declared.finding.Finding.{Finding}
use Rattle.playback.specs.declared.need.Unheard.{Unheard}
use Rattle.playback.specs.declared.player.Player.{Player}
use Rattle.playback.specs.declared.step.Step.{Step}
use Rattle.std.specs.List.{list_all}
use Rattle.std.specs.Option.{is_none, is_some, option_or}
use Rattle.std.specs.Prelude.{Bool, Err, List, None, Ok, Option, Result, Some, [], false, if◌then◌else◌, not, true, ℕ, ◌&&◌, ◌==◌, ◌∷◌, ◌≡◌}
use Rattle.uid_sets.specs.declared.uid.UidRange.{UidRange}
use Rattle.action_queue.specs.declared.action.Action.TheVariants as actions
use Rattle.imap_model.specs.declared.code.Code.TheVariants as codings
use Rattle.imap_model.specs.declared.ending.Ending.TheVariants as endings
use Rattle.playback.specs.declared.finding.Finding.TheVariants as findings
use Rattle.action_queue.specs.declared.intent.Intent.TheVariants as intents
use Rattle.imap_model.specs.declared.item.Item.TheVariants as items
use Rattle.action_queue.specs.declared.outcome.Kind.TheVariants as kinds
use Rattle.action_queue.specs.declared.outcome.Outcome.TheVariants as outcomes
use Rattle.imap_model.specs.declared.response.Response.TheVariants as responses
use Rattle.playback.specs.declared.step.Step.TheVariants as steps
use Rattle.playback.specs.declared.need.Unheard.TheVariants as unheards
use Rattle.append_probe.specs.declared.verdict.Verdict.TheVariants as verdicts

-- the UID that was told is this one
abbrev pub names_uid : ℕ → Option ℕ → Bool
names_uid uid None = false
names_uid uid (Some other) = other == uid

-- the FETCH of this UID that the response is, if it is one
abbrev pub fetch_of : ℕ → Response → Option Fetched
fetch_of uid (responses.Done tag ending code) = None
fetch_of uid (responses.Untagged ending code) = None
fetch_of uid responses.Bye = None
fetch_of uid (responses.Preauth code) = None
fetch_of uid responses.Go = None
fetch_of uid (responses.Capability words) = None
fetch_of uid (responses.Enabled words) = None
fetch_of uid (responses.Exists count) = None
fetch_of uid (responses.Fetch fetched) = if names_uid uid fetched.uid then Some fetched else None
fetch_of uid (responses.Vanished earlier uids) = None
fetch_of uid (responses.Found uids) = None
fetch_of uid responses.Other = None

-- of several FETCH responses that name a UID the one that is told last
abbrev pub last_fetch : ℕ → List Response → Option Fetched
last_fetch uid [] = None
last_fetch uid (response ∷ told) = option_or (last_fetch uid told) (fetch_of uid response)

-- the flags are as a flag action asks: all of the asked ones are there, or none of them
abbrev pub has_asked : Bool → List (List ℕ) → List (List ℕ) → Bool
has_asked true asked flags = list_all (λ key. has flags key) asked
has_asked false asked flags = list_all (λ key. not (has flags key)) asked

-- the flags are as the action asks; of a move and of an append they never are
abbrev pub is_so : Action → List (List ℕ) → Bool
is_so (actions.Flag target add asked) flags = has_asked add asked flags
is_so (actions.Move target to) flags = false
is_so (actions.Append to asked text id) flags = false

-- a row that was told; `barred` says that the mailbox doesn't keep the asked flags
abbrev pub found_row : Bool → Action → ℕ → List (List ℕ) → Finding
found_row barred action modseq flags =
    if barred && not (is_so action flags) then findings.Barred else findings.Row modseq (is_so action flags)

-- FLAGS and MODSEQ of a FETCH, or the first of them that it lacks
abbrev pub read_items : Bool → Action → Option (List (List ℕ)) → Option ℕ → Result Finding Item
read_items barred action None modseq = Err items.Flags
read_items barred action (Some flags) None = Err items.ModSeq
read_items barred action (Some flags) (Some modseq) = Ok (found_row barred action modseq flags)

-- the reply to the question for a row
abbrev pub read_row : Bool → Action → Option Fetched → Result Finding Item
read_row barred action None = Ok findings.NoRow
read_row barred action (Some fetched) = read_items barred action fetched.flags fetched.modseq

-- the action ended so
abbrev pub ended : Outcome → Finding
ended outcome = findings.Ended outcome

-- how an action ends that the server answers NO
abbrev pub refused_no : Finding
refused_no = ended (outcomes.Conflict kinds.RefusedNo)

-- and one that the server answers BAD
abbrev pub refused_bad : Finding
refused_bad = ended (outcomes.Conflict kinds.RefusedBad)

-- how a flag action ends whose message isn't there: after a loss an earlier STORE may have been carried out
abbrev pub flag_gone : Bool → Finding
flag_gone resumed = if resumed then ended (outcomes.Conflict kinds.GoneAfterLoss) else ended (outcomes.Conflict kinds.MessageGone)

-- how a move ends whose message isn't there, in the same two cases
abbrev pub move_gone : Bool → Finding
move_gone resumed = if resumed then ended (outcomes.Conflict kinds.SourceGone) else ended (outcomes.Conflict kinds.MessageGone)

-- the code is MODIFIED and names this UID
abbrev pub names_modified : ℕ → Code → Bool
names_modified uid codings.None = false
names_modified uid (codings.Capability words) = false
names_modified uid (codings.UidNext next) = false
names_modified uid (codings.UidValidity validity) = false
names_modified uid (codings.PermanentFlags flags any) = false
names_modified uid (codings.HighestModSeq modseq) = false
names_modified uid codings.NoModSeq = false
names_modified uid codings.UidNotSticky = false
names_modified uid (codings.AppendUid validity other) = false
names_modified uid (codings.CopyUid validity source target) = false
names_modified uid (codings.Modified uids) = has_uid uids uid
names_modified uid codings.Closed = false
names_modified uid codings.Other = false

-- A STORE that is answered OK was carried out where a FETCH of the message is told, and else the message isn't there.
abbrev pub read_stored : ℕ → Bool → List Response → Ending → Finding
read_stored uid resumed told endings.Ok = if is_some (last_fetch uid told) then ended (outcomes.Done None) else flag_gone resumed
read_stored uid resumed told endings.No = refused_no
read_stored uid resumed told endings.Bad = refused_bad

-- the reply to a STORE on condition of a mod-sequence: MODIFIED comes first, also in a NO or a BAD
abbrev pub read_store : ℕ → ℕ → Bool → Replies → Finding
read_store uid mark resumed r =
    if names_modified uid r.code then ended (outcomes.Conflict (kinds.FlagsChanged mark)) else read_stored uid resumed r.untagged r.ending

-- the code is a COPYUID
abbrev pub copied_code : Code → Option Code
copied_code codings.None = None
copied_code (codings.Capability words) = None
copied_code (codings.UidNext uid) = None
copied_code (codings.UidValidity validity) = None
copied_code (codings.PermanentFlags flags any) = None
copied_code (codings.HighestModSeq modseq) = None
copied_code codings.NoModSeq = None
copied_code codings.UidNotSticky = None
copied_code (codings.AppendUid validity uid) = None
copied_code (codings.CopyUid validity source target) = Some (codings.CopyUid validity source target)
copied_code (codings.Modified uids) = None
copied_code codings.Closed = None
copied_code codings.Other = None

-- the COPYUID of an untagged OK
abbrev pub copied_untagged : Ending → Code → Option Code
copied_untagged endings.Ok code = copied_code code
copied_untagged endings.No code = None
copied_untagged endings.Bad code = None

-- the COPYUID that a response tells
abbrev pub copied_in : Response → Option Code
copied_in (responses.Done tag ending code) = None
copied_in (responses.Untagged ending code) = copied_untagged ending code
copied_in responses.Bye = None
copied_in (responses.Preauth code) = None
copied_in responses.Go = None
copied_in (responses.Capability words) = None
copied_in (responses.Enabled words) = None
copied_in (responses.Exists count) = None
copied_in (responses.Fetch fetched) = None
copied_in (responses.Vanished earlier uids) = None
copied_in (responses.Found uids) = None
copied_in responses.Other = None

-- of several COPYUIDs in untagged OKs and in the completion the one that is told last
abbrev pub last_copied : List Response → Code → Option Code
last_copied [] code = copied_code code
last_copied (response ∷ told) code = option_or (last_copied told code) (copied_in response)

-- the one UID of a set, if it has one
abbrev pub one_of : List UidRange → Option ℕ
one_of [] = None
one_of (range ∷ []) = if range.low == range.high then Some range.low else None
one_of (range ∷ next ∷ ranges) = None

-- the message is at this place
abbrev pub done_at : ℕ → ℕ → Finding
done_at validity uid = ended (outcomes.Done (Some (record { validity = validity; uid = uid })))

-- the place of the one message that was copied, where the source is this UID alone
abbrev pub place_if : Bool → ℕ → Option ℕ → Result Finding Item
place_if true validity (Some target) = Ok (done_at validity target)
place_if true validity None = Err items.CopyUid
place_if false validity target = Err items.CopyUid

-- the place that a COPYUID tells of the message with this UID
abbrev pub read_copied : ℕ → Code → Result Finding Item
read_copied uid codings.None = Err items.CopyUid
read_copied uid (codings.Capability words) = Err items.CopyUid
read_copied uid (codings.UidNext next) = Err items.CopyUid
read_copied uid (codings.UidValidity validity) = Err items.CopyUid
read_copied uid (codings.PermanentFlags flags any) = Err items.CopyUid
read_copied uid (codings.HighestModSeq modseq) = Err items.CopyUid
read_copied uid codings.NoModSeq = Err items.CopyUid
read_copied uid codings.UidNotSticky = Err items.CopyUid
read_copied uid (codings.AppendUid validity other) = Err items.CopyUid
read_copied uid (codings.CopyUid validity source target) = place_if (names_uid uid (one_of source)) validity (one_of target)
read_copied uid (codings.Modified uids) = Err items.CopyUid
read_copied uid codings.Closed = Err items.CopyUid
read_copied uid codings.Other = Err items.CopyUid

-- a MOVE that is answered OK was carried out where COPYUID is told, and else the message isn't there
abbrev pub read_moved : ℕ → Bool → Option Code → Result Finding Item
read_moved uid resumed None = Ok (move_gone resumed)
read_moved uid resumed (Some code) = read_copied uid code

-- the reply to a MOVE, by the COPYUID that is told last and by how it ends
abbrev pub read_move_by : ℕ → Bool → Option Code → Ending → Result Finding Item
read_move_by uid resumed copied endings.Ok = read_moved uid resumed copied
read_move_by uid resumed copied endings.No = Ok refused_no
read_move_by uid resumed copied endings.Bad = Ok refused_bad

-- the reply to a MOVE
abbrev pub read_move : ℕ → Bool → Replies → Result Finding Item
read_move uid resumed r = read_move_by uid resumed (last_copied r.untagged r.code) r.ending

-- an APPEND that is answered OK was carried out, and APPENDUID is told in the completion
abbrev pub read_appended : Code → Result Finding Item
read_appended codings.None = Err items.AppendUid
read_appended (codings.Capability words) = Err items.AppendUid
read_appended (codings.UidNext uid) = Err items.AppendUid
read_appended (codings.UidValidity validity) = Err items.AppendUid
read_appended (codings.PermanentFlags flags any) = Err items.AppendUid
read_appended (codings.HighestModSeq modseq) = Err items.AppendUid
read_appended codings.NoModSeq = Err items.AppendUid
read_appended codings.UidNotSticky = Err items.AppendUid
read_appended (codings.AppendUid validity uid) = Ok (done_at validity uid)
read_appended (codings.CopyUid validity source target) = Err items.AppendUid
read_appended (codings.Modified uids) = Err items.AppendUid
read_appended codings.Closed = Err items.AppendUid
read_appended codings.Other = Err items.AppendUid

-- the reply to an APPEND, by its code and by how it ends
abbrev pub read_append_by : Code → Ending → Result Finding Item
read_append_by code endings.Ok = read_appended code
read_append_by code endings.No = Ok refused_no
read_append_by code endings.Bad = Ok refused_bad

-- the reply to an APPEND
abbrev pub read_append : Replies → Result Finding Item
read_append r = read_append_by r.code r.ending

-- the reply to the command that an intent and its action give (other pairs give none)
abbrev pub read_sent : Bool → Action → Intent → Replies → Result Finding Item
read_sent resumed (actions.Flag target add flags) (intents.Store name validity uid modseq) r = Ok (read_store uid modseq resumed r)
read_sent resumed (actions.Flag target add flags) (intents.Shift from validity uid to) r = Ok findings.Nothing
read_sent resumed (actions.Flag target add flags) (intents.Put to validity uidnext) r = Ok findings.Nothing
read_sent resumed (actions.Move target other) (intents.Store name validity uid modseq) r = Ok findings.Nothing
read_sent resumed (actions.Move target other) (intents.Shift from validity uid to) r = read_move uid resumed r
read_sent resumed (actions.Move target other) (intents.Put to validity uidnext) r = Ok findings.Nothing
read_sent resumed (actions.Append other flags text id) (intents.Store name validity uid modseq) r = Ok findings.Nothing
read_sent resumed (actions.Append other flags text id) (intents.Shift from validity uid to) r = Ok findings.Nothing
read_sent resumed (actions.Append other flags text id) (intents.Put to validity uidnext) r = read_append r

-- the reply to the command of the pending intent
abbrev pub read_meant : Bool → Action → Option Intent → Replies → Result Finding Item
read_meant resumed action None r = Ok findings.Nothing
read_meant resumed action (Some intent) r = read_sent resumed action intent r

-- the mailbox doesn't keep the flags that a flag action asks for, and this counts: only before an intent is recorded
abbrev pub is_barred : Bool → Action → Option Intent → Bool
is_barred permits (actions.Flag target add asked) pending = not permits && is_none pending
is_barred permits (actions.Move target to) pending = false
is_barred permits (actions.Append to asked text id) pending = false

-- The reply to the question or the command that is due, as far as it is read by a function. (What a search and the Message-ID fields
-- tell is said by `Hears`.)
abbrev pub read_of : Step → Bool → Action → Option Intent → Bool → Replies → Result Finding Item
read_of steps.Learn resumed action pending permits r = Ok findings.Nothing
read_of (steps.Select name under) resumed action pending permits r = Ok findings.Nothing
read_of (steps.AskRow uid) resumed action pending permits r = read_row (is_barred permits action pending) action (last_fetch uid r.untagged)
read_of (steps.Search uidnext) resumed action pending permits r = Ok findings.Nothing
read_of steps.AskIds resumed action pending permits r = Ok findings.Nothing
read_of (steps.Intend intent) resumed action pending permits r = Ok findings.Nothing
read_of (steps.Settle outcome) resumed action pending permits r = Ok findings.Nothing
read_of steps.Send resumed action pending permits r = read_meant resumed action pending r
read_of steps.Finished resumed action pending permits r = Ok findings.Nothing

-- the item that the reply lacks
abbrev pub lacked_in : Result Finding Item → Option Item
lacked_in (Ok finding) = None
lacked_in (Err item) = Some item

-- the item that the reply to an action's question or command lacks
abbrev pub lacked_by : Player → Meaning → Option Queued → Bool → Replies → Option Item
lacked_by p b None permits r = None
lacked_by p b (Some q) permits r = lacked_in (read_of (step_of p b) p.resumed q.action b.pending permits r)

-- the item that the reply to what is due lacks, if it lacks one
abbrev pub lacks : Player → Meaning → Bool → Replies → Option Item
lacks p b permits r = lacked_by p b (due_action b.queue) permits r

-- what a search found: no candidate, so none of them has the Message-ID; or some
abbrev pub found_uids : List UidRange → Finding
found_uids [] = findings.Probed verdicts.NotThere
found_uids (range ∷ ranges) = findings.Candidates (range ∷ ranges)

-- the UIDs that were found, from the intent's UIDNEXT on
pub record HearsFound (uidnext : ℕ) (r : Replies) (finding : Finding) : Type 0 where
  pub uids : List UidRange
  pub found : AreCandidates uidnext r.untagged uids
  pub is : finding ≡ found_uids uids

-- the verdict on these candidates
pub record HearsIds (uids : List UidRange) (id : List ℕ) (r : Replies) (finding : Finding) : Type 0 where
  pub verdict : Verdict
  pub judged : IsVerdict (Matches uids r.untagged id) verdict
  pub is : finding ≡ findings.Probed verdict

-- the verdict is kept where the action is an append
abbrev pub HearsIdsFor : List UidRange → Finding → Action → Replies → Finding → Type 0
HearsIdsFor uids told (actions.Flag target add flags) r finding = finding ≡ told
HearsIdsFor uids told (actions.Move target to) r finding = finding ≡ told
HearsIdsFor uids told (actions.Append to flags text id) r finding = HearsIds uids id r finding

-- the verdict on the candidates that were found, where some were
abbrev pub HearsIdsOf : Finding → Action → Replies → Finding → Type 0
HearsIdsOf findings.Nothing action r finding = finding ≡ findings.Nothing
HearsIdsOf findings.NoRow action r finding = finding ≡ findings.NoRow
HearsIdsOf (findings.Row modseq so) action r finding = finding ≡ findings.Row modseq so
HearsIdsOf findings.Barred action r finding = finding ≡ findings.Barred
HearsIdsOf (findings.Ended outcome) action r finding = finding ≡ findings.Ended outcome
HearsIdsOf (findings.Next validity uidnext) action r finding = finding ≡ findings.Next validity uidnext
HearsIdsOf (findings.Candidates uids) action r finding = HearsIdsFor uids (findings.Candidates uids) action r finding
HearsIdsOf (findings.Probed verdict) action r finding = finding ≡ findings.Probed verdict

-- What the player keeps of the reply to what is due. Where no question and no command is due, it keeps what it kept.
abbrev pub HearsStep : Step → Player → Action → Option Intent → Bool → Replies → Finding → Type 0
HearsStep steps.Learn p action pending permits r finding = finding ≡ p.told
HearsStep (steps.Select name under) p action pending permits r finding = finding ≡ p.told
HearsStep (steps.AskRow uid) p action pending permits r finding =
    read_row (is_barred permits action pending) action (last_fetch uid r.untagged) ≡ Ok finding
HearsStep (steps.Search uidnext) p action pending permits r finding = HearsFound uidnext r finding
HearsStep steps.AskIds p action pending permits r finding = HearsIdsOf p.told action r finding
HearsStep (steps.Intend intent) p action pending permits r finding = finding ≡ p.told
HearsStep (steps.Settle outcome) p action pending permits r finding = finding ≡ p.told
HearsStep steps.Send p action pending permits r finding = read_meant p.resumed action pending r ≡ Ok finding
HearsStep steps.Finished p action pending permits r finding = finding ≡ p.told

-- what the player keeps of the reply, where this action is due
abbrev pub HearsDue : Player → Meaning → Option Queued → Bool → Replies → Finding → Type 0
HearsDue p b None permits r finding = finding ≡ p.told
HearsDue p b (Some q) permits r finding = HearsStep (step_of p b) p q.action b.pending permits r finding

-- what the player keeps of the reply
abbrev pub Hears : Player → Meaning → Bool → Replies → Finding → Type 0
Hears p b permits r finding = HearsDue p b (due_action b.queue) permits r finding

-- the reply was taken: it lacks nothing, and the player keeps what it tells
pub record IsHeard (p : Player) (b : Meaning) (permits : Bool) (r : Replies) (new : Player) : Type 0 where
  pub finding : Finding
  pub hears : Hears p b permits r finding
  pub whole : lacks p b permits r ≡ None
  pub is : new ≡ record p { told = finding }

-- an item is lacking, or memory
abbrev pub IsHeardFault : Player → Meaning → Bool → Replies → Unheard → Type 0
IsHeardFault p b permits r unheards.Memory = Unit {0}
IsHeardFault p b permits r (unheards.Resync fault) = ⊥
IsHeardFault p b permits r (unheards.Target old new) = ⊥
IsHeardFault p b permits r (unheards.Lacks item) = lacks p b permits r ≡ Some item
IsHeardFault p b permits r (unheards.Rows count) = ⊥

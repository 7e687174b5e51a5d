-- What is taken of a reply to the step that is due, or why nothing is (RFC 9051, sections 6.4.4, 6.4.5 and 7.5.2).
use Rattle.action_queue.specs.Book.{Meaning}
use Rattle.action_queue.specs.declared.action.Action.{Action}
use Rattle.action_queue.specs.declared.intent.Intent.{Intent}
use Rattle.action_queue.specs.declared.queued.Queued.{Queued}
use Rattle.append_probe.specs.Marked.{IsIdentifier}
use Rattle.imap_model.specs.declared.item.Item.{Item}
use Rattle.imap_model.specs.declared.replies.Replies.{Replies}
use Rattle.playback.specs.Replying.{HearsFound, HearsIds, is_barred, last_fetch, read_meant, read_row}
use Rattle.playback.specs.Steps.{step_of}
use Rattle.playback.specs.declared.finding.Finding.{Finding}
use Rattle.playback.specs.declared.need.Unheard.{Unheard}
use Rattle.playback.specs.declared.player.Player.{Player}
use Rattle.playback.specs.declared.step.Step.{Step}
use Rattle.std.specs.Prelude.{IfErr, IfOk, Bool, Err, List, None, Ok, Option, Result, Some, ℕ, ◌≡◌}
use Rattle.std.specs.Option.{unwrap_or}
use Rattle.uid_sets.specs.declared.uid.UidRange.{UidRange}
use Rattle.action_queue.specs.declared.action.Action.TheVariants as actions
use Rattle.playback.specs.declared.finding.Finding.TheVariants as findings
use Rattle.playback.specs.declared.need.Unheard.TheVariants as unheards
use Rattle.playback.specs.declared.step.Step.TheVariants as steps

-- what a reply told, or the item that it lacks
abbrev pub taken : Result Finding Item → Result (Option Finding) Unheard
taken (Ok finding) = Ok (Some finding)
taken (Err item) = Err (unheards.Lacks item)

-- the player with what is kept
abbrev pub with_kept : Player → Option Finding → Player
with_kept p kept = record p { told = unwrap_or kept p.told }

-- something is kept, and it is so
abbrev pub Keeps : (Finding → Type 0) → Option Finding → Type 0
Keeps So None = ⊥
Keeps So (Some finding) = So finding

-- something is taken that is so, or memory is wanting
pub record Takes (So : Finding → Type 0) (result : Result (Option Finding) Unheard) : Type 0 where
  pub value : IfOk result (Keeps So)
  pub fault : IfErr result (λ fault. fault ≡ unheards.Memory)

-- a verdict is taken, which is right where the identifier has the form of one; or memory is wanting
pub record TakesVerdict (uids : List UidRange) (id : List ℕ) (r : Replies) (result : Result (Option Finding) Unheard) : Type 0 where
  pub value : IfOk result (λ kept. IsIdentifier id → Keeps (HearsIds uids id r) kept)
  pub fault : IfErr result (λ fault. fault ≡ unheards.Memory)

-- the reply to the question for the candidates' Message-ID fields
abbrev pub TakesIdsFor : List UidRange → Action → Replies → Result (Option Finding) Unheard → Type 0
TakesIdsFor uids (actions.Flag target add flags) r result = result ≡ Ok None
TakesIdsFor uids (actions.Move target to) r result = result ≡ Ok None
TakesIdsFor uids (actions.Append to flags text id) r result = TakesVerdict uids id r result

-- the same by what was found: without candidates nothing is taken
abbrev pub TakesIds : Finding → Action → Replies → Result (Option Finding) Unheard → Type 0
TakesIds findings.Nothing action r result = result ≡ Ok None
TakesIds findings.NoRow action r result = result ≡ Ok None
TakesIds (findings.Row modseq so) action r result = result ≡ Ok None
TakesIds findings.Barred action r result = result ≡ Ok None
TakesIds (findings.Ended outcome) action r result = result ≡ Ok None
TakesIds (findings.Next validity uidnext) action r result = result ≡ Ok None
TakesIds (findings.Candidates uids) action r result = TakesIdsFor uids action r result
TakesIds (findings.Probed verdict) action r result = result ≡ Ok None

-- The reply to the step that is due. Where that is neither a question nor a command, nothing is taken.
abbrev pub TakesStep : Step → Player → Action → Option Intent → Bool → Replies → Result (Option Finding) Unheard → Type 0
TakesStep steps.Learn p action pending permits r result = result ≡ Ok None
TakesStep (steps.Select name under) p action pending permits r result = result ≡ Ok None
TakesStep (steps.AskRow uid) p action pending permits r result =
    result ≡ taken (read_row (is_barred permits action pending) action (last_fetch uid r.untagged))
TakesStep (steps.Search uidnext) p action pending permits r result = Takes (HearsFound uidnext r) result
TakesStep steps.AskIds p action pending permits r result = TakesIds p.told action r result
TakesStep (steps.Intend intent) p action pending permits r result = result ≡ Ok None
TakesStep (steps.Settle outcome) p action pending permits r result = result ≡ Ok None
TakesStep steps.Send p action pending permits r result = result ≡ taken (read_meant p.resumed action pending r)
TakesStep steps.Finished p action pending permits r result = result ≡ Ok None

-- the reply to the step of the action that is due
abbrev pub TakesDue : Player → Meaning → Option Queued → Bool → Replies → Result (Option Finding) Unheard → Type 0
TakesDue p b None permits r result = result ≡ Ok None
TakesDue p b (Some q) permits r result = TakesStep (step_of p b) p q.action b.pending permits r result

-- What is taken of a reply is what the player is to keep of it, and what isn't taken lacks an item.
use Rattle.action_queue.specs.Book.{Meaning}
use Rattle.action_queue.specs.Queues.{due, due_action}
use Rattle.action_queue.specs.Writable.{IsWritableAction}
use Rattle.action_queue.specs.declared.action.Action.{Action}
use Rattle.action_queue.specs.declared.intent.Intent.{Intent}
use Rattle.action_queue.specs.declared.queued.Queued.{Queued}
use Rattle.imap_model.specs.declared.item.Item.{Item}
use Rattle.imap_model.specs.declared.replies.Replies.{Replies}
use Rattle.playback.specs.Replying.{HearsDue, HearsFound, HearsIds, HearsIdsOf, HearsStep, IsHeard, IsHeardFault, is_barred, lacked_by}
use Rattle.playback.specs.Replying.{lacked_in, lacks, last_fetch, read_meant, read_of, read_row}
use Rattle.mail_header.specs.Identifier.{HasMessageId}
use Rattle.book_laws.specs.Sound.{IsSound}
use Rattle.playback.specs.Steps.{step_of}
use Rattle.playback.specs.Taken.{Keeps, TakesDue, TakesIds, TakesStep, TakesVerdict, taken, with_kept}
use Rattle.playback.specs.declared.finding.Finding.{Finding}
use Rattle.playback.specs.declared.need.Unheard.{Unheard}
use Rattle.playback.specs.declared.player.Player.{Player}
use Rattle.playback.specs.declared.step.Step.{Step}
use Rattle.std.proofs.Common.{Bool, Err, List, None, Ok, Option, Result, Some, refl, subst, sym, ℕ, ◌≡◌}
use Rattle.std.specs.Option.{unwrap_or}
use Rattle.std.specs.Prelude.{IfErr, IfOk}
use Rattle.uid_sets.specs.declared.uid.UidRange.{UidRange}
use Rattle.action_queue.specs.declared.action.Action.TheVariants as actions
use Rattle.playback.specs.declared.finding.Finding.TheVariants as findings
use Rattle.playback.specs.declared.need.Unheard.TheVariants as unheards
use Rattle.playback.specs.declared.step.Step.TheVariants as steps

-- what the readers of replies give
abbrev Given : Type 0
Given = Result (Option Finding) Unheard

none_kept : (kept : Option Finding) (told : Finding) → ◌≡◌ {A = Given} (Ok kept) (Ok None) → unwrap_or kept told ≡ told
none_kept None told e = refl
none_kept (Some finding) told e = absurd (cc)

read_kept : (read : Result Finding Item) (kept : Option Finding) (told : Finding) → Ok kept ≡ taken read → read ≡ Ok (unwrap_or kept told)
read_kept (Ok finding) None told e = absurd (cc)
read_kept (Ok finding) (Some other) told e = cc
read_kept (Err item) kept told e = absurd (cc)

read_whole : (read : Result Finding Item) (kept : Option Finding) → Ok kept ≡ taken read → lacked_in read ≡ None
read_whole (Ok finding) kept e = refl
read_whole (Err item) kept e = absurd (cc)

something : (So : Finding → Type 0) (kept : Option Finding) (told : Finding) → Keeps So kept → So (unwrap_or kept told)
something So None told k = absurd k
something So (Some finding) told k = k

verdict_kept : (uids : List UidRange) (text id : List ℕ) (r : Replies) (kept : Option Finding) (told : Finding) → HasMessageId text id →
    TakesVerdict uids id r (Ok kept) → HearsIds uids id r (unwrap_or kept told)
verdict_kept uids text id r kept told has t = something (HearsIds uids id r) kept told (t.value (record { few = has.few; form = has.form }))

ids_kept : (told : Finding) (action : Action) (r : Replies) (kept : Option Finding) → IsWritableAction action →
    TakesIds told action r (Ok kept) → HearsIdsOf told action r (unwrap_or kept told)
ids_kept findings.Nothing action r kept writable t = none_kept kept findings.Nothing t
ids_kept findings.NoRow action r kept writable t = none_kept kept findings.NoRow t
ids_kept (findings.Row modseq so) action r kept writable t = none_kept kept (findings.Row modseq so) t
ids_kept findings.Barred action r kept writable t = none_kept kept findings.Barred t
ids_kept (findings.Ended outcome) action r kept writable t = none_kept kept (findings.Ended outcome) t
ids_kept (findings.Next validity uidnext) action r kept writable t = none_kept kept (findings.Next validity uidnext) t
ids_kept (findings.Candidates uids) (actions.Flag target add flags) r kept writable t = none_kept kept (findings.Candidates uids) t
ids_kept (findings.Candidates uids) (actions.Move target to) r kept writable t = none_kept kept (findings.Candidates uids) t
ids_kept (findings.Candidates uids) (actions.Append to flags text id) r kept writable t =
    verdict_kept uids text id r kept (findings.Candidates uids) writable.1 t
ids_kept (findings.Probed verdict) action r kept writable t = none_kept kept (findings.Probed verdict) t

module _ (p : Player) (action : Action) (pending : Option Intent) (permits : Bool) (r : Replies) where
  step_kept : (step : Step) (kept : Option Finding) → IsWritableAction action → TakesStep step p action pending permits r (Ok kept) →
      HearsStep step p action pending permits r (unwrap_or kept p.told)
  step_kept steps.Learn kept writable t = none_kept kept p.told t
  step_kept (steps.Select name under) kept writable t = none_kept kept p.told t
  step_kept (steps.AskRow uid) kept writable t =
      read_kept (read_row (is_barred permits action pending) action (last_fetch uid r.untagged)) kept p.told t
  step_kept (steps.Search uidnext) kept writable t = something (HearsFound uidnext r) kept p.told t.value
  step_kept steps.AskIds kept writable t = ids_kept p.told action r kept writable t
  step_kept (steps.Intend intent) kept writable t = none_kept kept p.told t
  step_kept (steps.Settle outcome) kept writable t = none_kept kept p.told t
  step_kept steps.Send kept writable t = read_kept (read_meant p.resumed action pending r) kept p.told t
  step_kept steps.Finished kept writable t = none_kept kept p.told t

  step_whole : (step : Step) (kept : Option Finding) → TakesStep step p action pending permits r (Ok kept) →
      lacked_in (read_of step p.resumed action pending permits r) ≡ None
  step_whole steps.Learn kept t = refl
  step_whole (steps.Select name under) kept t = refl
  step_whole (steps.AskRow uid) kept t = read_whole (read_row (is_barred permits action pending) action (last_fetch uid r.untagged)) kept t
  step_whole (steps.Search uidnext) kept t = refl
  step_whole steps.AskIds kept t = refl
  step_whole (steps.Intend intent) kept t = refl
  step_whole (steps.Settle outcome) kept t = refl
  step_whole steps.Send kept t = read_whole (read_meant p.resumed action pending r) kept t
  step_whole steps.Finished kept t = refl

due_kept : (p : Player) (b : Meaning) (queued : Option Queued) (permits : Bool) (r : Replies) (kept : Option Finding) →
    due_action b.queue ≡ queued → IsSound b → TakesDue p b queued permits r (Ok kept) →
    HearsDue p b queued permits r (unwrap_or kept p.told)
due_kept p b None permits r kept e sound t = none_kept kept p.told t
due_kept p b (Some q) permits r kept e sound t =
    step_kept p q.action b.pending permits r (step_of p b) kept (sound.writable (due b.queue) q e) t

due_whole : (p : Player) (b : Meaning) (queued : Option Queued) (permits : Bool) (r : Replies) (kept : Option Finding) →
    TakesDue p b queued permits r (Ok kept) → lacked_by p b queued permits r ≡ None
due_whole p b None permits r kept t = refl
due_whole p b (Some q) permits r kept t = step_whole p q.action b.pending permits r (step_of p b) kept t

pub kept_heard : (p : Player) (b : Meaning) (permits : Bool) (r : Replies) (given : Given) →
    TakesDue p b (due_action b.queue) permits r given → IfOk given (λ kept. IsSound b → IsHeard p b permits r (with_kept p kept))
kept_heard p b permits r (Ok kept) t = λ sound. record {
  finding = unwrap_or kept p.told;
  hears = due_kept p b (due_action b.queue) permits r kept refl sound t;
  whole = due_whole p b (due_action b.queue) permits r kept t;
  is = refl;
}
kept_heard p b permits r (Err fault) t = tt {0}

-- the item is lacking, or memory
abbrev Lacking : Option Item → Unheard → Type 0
Lacking lacked unheards.Memory = Unit {0}
Lacking lacked (unheards.Resync fault) = ⊥
Lacking lacked (unheards.Target old new) = ⊥
Lacking lacked (unheards.Lacks item) = lacked ≡ Some item
Lacking lacked (unheards.Rows count) = ⊥

none_lacking : (lacked : Option Item) (fault : Unheard) (kept : Option Finding) → ◌≡◌ {A = Given} (Err fault) (Ok kept) →
    Lacking lacked fault
none_lacking lacked fault kept e = absurd (cc)

memory_lacking : (lacked : Option Item) (fault : Unheard) → fault ≡ unheards.Memory → Lacking lacked fault
memory_lacking lacked fault e = subst (λ (x : Unheard). Lacking lacked x) (sym e) (tt {0})

lacks_it : (fault : Unheard) (item : Item) → ◌≡◌ {A = Given} (Err fault) (Err (unheards.Lacks item)) → fault ≡ unheards.Lacks item
lacks_it fault item e = cc

read_lacking : (read : Result Finding Item) (fault : Unheard) → Err fault ≡ taken read → Lacking (lacked_in read) fault
read_lacking (Ok finding) fault e = absurd (cc)
read_lacking (Err item) fault e = subst (λ (x : Unheard). Lacking (Some item) x) (sym (lacks_it fault item e)) refl

ids_lacking : (told : Finding) (action : Action) (r : Replies) (fault : Unheard) → TakesIds told action r (Err fault) → Lacking None fault
ids_lacking findings.Nothing action r fault t = none_lacking None fault None t
ids_lacking findings.NoRow action r fault t = none_lacking None fault None t
ids_lacking (findings.Row modseq so) action r fault t = none_lacking None fault None t
ids_lacking findings.Barred action r fault t = none_lacking None fault None t
ids_lacking (findings.Ended outcome) action r fault t = none_lacking None fault None t
ids_lacking (findings.Next validity uidnext) action r fault t = none_lacking None fault None t
ids_lacking (findings.Candidates uids) (actions.Flag target add flags) r fault t = none_lacking None fault None t
ids_lacking (findings.Candidates uids) (actions.Move target to) r fault t = none_lacking None fault None t
ids_lacking (findings.Candidates uids) (actions.Append to flags text id) r fault t = memory_lacking None fault t.fault
ids_lacking (findings.Probed verdict) action r fault t = none_lacking None fault None t

module _ (p : Player) (action : Action) (pending : Option Intent) (permits : Bool) (r : Replies) where
  step_lacking : (step : Step) (fault : Unheard) → TakesStep step p action pending permits r (Err fault) →
      Lacking (lacked_in (read_of step p.resumed action pending permits r)) fault
  step_lacking steps.Learn fault t = none_lacking None fault None t
  step_lacking (steps.Select name under) fault t = none_lacking None fault None t
  step_lacking (steps.AskRow uid) fault t =
      read_lacking (read_row (is_barred permits action pending) action (last_fetch uid r.untagged)) fault t
  step_lacking (steps.Search uidnext) fault t = memory_lacking None fault t.fault
  step_lacking steps.AskIds fault t = ids_lacking p.told action r fault t
  step_lacking (steps.Intend intent) fault t = none_lacking None fault None t
  step_lacking (steps.Settle outcome) fault t = none_lacking None fault None t
  step_lacking steps.Send fault t = read_lacking (read_meant p.resumed action pending r) fault t
  step_lacking steps.Finished fault t = none_lacking None fault None t

due_lacking : (p : Player) (b : Meaning) (queued : Option Queued) (permits : Bool) (r : Replies) (fault : Unheard) →
    TakesDue p b queued permits r (Err fault) → Lacking (lacked_by p b queued permits r) fault
due_lacking p b None permits r fault t = none_lacking None fault None t
due_lacking p b (Some q) permits r fault t = step_lacking p q.action b.pending permits r (step_of p b) fault t

as_fault : (p : Player) (b : Meaning) (permits : Bool) (r : Replies) (fault : Unheard) → Lacking (lacks p b permits r) fault →
    IsHeardFault p b permits r fault
as_fault p b permits r unheards.Memory l = l
as_fault p b permits r (unheards.Resync fault) l = l
as_fault p b permits r (unheards.Target old new) l = l
as_fault p b permits r (unheards.Lacks item) l = l
as_fault p b permits r (unheards.Rows count) l = l

pub fault_heard : (p : Player) (b : Meaning) (permits : Bool) (r : Replies) (given : Given) →
    TakesDue p b (due_action b.queue) permits r given → IfErr given (IsHeardFault p b permits r)
fault_heard p b permits r (Ok kept) t = tt {0}
fault_heard p b permits r (Err fault) t = as_fault p b permits r fault (due_lacking p b (due_action b.queue) permits r fault t)

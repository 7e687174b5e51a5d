-- What is so of each finding that a reply may give is so of the one that it gives.
use Rattle.action_queue.specs.declared.action.Action.{Action}
use Rattle.action_queue.specs.declared.outcome.Kind.{Kind}
use Rattle.action_queue.specs.declared.outcome.Outcome.{Outcome}
use Rattle.imap_model.specs.declared.code.Code.{Code}
use Rattle.imap_model.specs.declared.ending.Ending.{Ending}
use Rattle.imap_model.specs.declared.fetched.Fetched.{Fetched}
use Rattle.imap_model.specs.declared.item.Item.{Item}
use Rattle.imap_model.specs.declared.replies.Replies.{Replies}
use Rattle.imap_model.specs.declared.response.Response.{Response}
use Rattle.playback.specs.Replying.{ended, flag_gone, found_row, is_so, last_fetch, names_modified, names_uid, one_of, place_if}
use Rattle.playback.specs.Replying.{read_append_by, read_appended, read_copied, read_items, read_move_by, read_moved, read_row, read_store}
use Rattle.playback.specs.Replying.{read_stored}
use Rattle.playback.specs.declared.finding.Finding.{Finding}
use Rattle.std.proofs.Common.{Bool, Err, List, None, Ok, Option, Result, Some, cond, false, not, subst, true, ℕ, ◌&&◌, ◌≡◌}
use Rattle.std.proofs.lemmas.Bool.{and_parts, cond_both}
use Rattle.std.specs.Option.{is_some}
use Rattle.imap_model.specs.declared.code.Code.TheVariants as codings
use Rattle.imap_model.specs.declared.ending.Ending.TheVariants as endings
use Rattle.playback.specs.declared.finding.Finding.TheVariants as findings
use Rattle.action_queue.specs.declared.outcome.Kind.TheVariants as kinds
use Rattle.action_queue.specs.declared.outcome.Outcome.TheVariants as outcomes

pub same_finding : (x y : Finding) → ◌≡◌ {A = Result Finding Item} (Ok x) (Ok y) → x ≡ y
same_finding x y e = cc

-- what is so of each finding that a row may give is so of the one that it gives
module _ (P : Finding → Type 0) (barred : Bool) (action : Action) (none : P findings.NoRow)
    (row : (modseq : ℕ) (so : Bool) → P (findings.Row modseq so)) (bars : barred ≡ true → P findings.Barred) where
  items_any : (flags : Option (List (List ℕ))) (modseq : Option ℕ) (finding : Finding) →
      read_items barred action flags modseq ≡ Ok finding → P finding
  items_any None modseq finding e = absurd (cc)
  items_any (Some flags) None finding e = absurd (cc)
  items_any (Some flags) (Some modseq) finding e =
      subst P (same_finding (found_row barred action modseq flags) finding e)
      (cond_both (barred && not (is_so action flags)) findings.Barred (findings.Row modseq (is_so action flags)) P
      (λ t. bars (and_parts barred (not (is_so action flags)) t).0) (λ f. row modseq (is_so action flags)))

  pub row_any : (fetched : Option Fetched) (finding : Finding) → read_row barred action fetched ≡ Ok finding → P finding
  row_any None finding e = subst P (same_finding findings.NoRow finding e) none
  row_any (Some fetched) finding e = items_any fetched.flags fetched.modseq finding e

-- of what is read, where it lacks nothing
abbrev pub IfRead : (Finding → Type 0) → Result Finding Item → Type 0
IfRead P (Ok finding) = P finding
IfRead P (Err item) = Unit {0}

pub if_read : (P : Finding → Type 0) (read : Result Finding Item) (finding : Finding) → read ≡ Ok finding → IfRead P read → P finding
if_read P read finding e h = subst (IfRead P) e h

-- the reply to an action's command ends the action
module _ (P : Finding → Type 0) (ended_so : (outcome : Outcome) → P (findings.Ended outcome)) where
  if_either : (test : Bool) (x y : Finding) → P x → P y → P (cond test x y)
  if_either test x y a b = cond_both test x y P (λ t. a) (λ f. b)

  gone_ends : (resumed : Bool) (first second : Kind) → P (cond resumed (ended (outcomes.Conflict first)) (ended (outcomes.Conflict second)))
  gone_ends resumed first second =
      if_either resumed (ended (outcomes.Conflict first)) (ended (outcomes.Conflict second)) (ended_so (outcomes.Conflict first))
      (ended_so (outcomes.Conflict second))

  stored_ends : (uid : ℕ) (resumed : Bool) (told : List Response) (ending : Ending) → P (read_stored uid resumed told ending)
  stored_ends uid resumed told endings.Ok =
      if_either (is_some (last_fetch uid told)) (ended (outcomes.Done None)) (flag_gone resumed) (ended_so (outcomes.Done None))
      (gone_ends resumed kinds.GoneAfterLoss kinds.MessageGone)
  stored_ends uid resumed told endings.No = ended_so (outcomes.Conflict kinds.RefusedNo)
  stored_ends uid resumed told endings.Bad = ended_so (outcomes.Conflict kinds.RefusedBad)

  pub store_ends : (uid mark : ℕ) (resumed : Bool) (r : Replies) → P (read_store uid mark resumed r)
  store_ends uid mark resumed r =
      if_either (names_modified uid r.code) (ended (outcomes.Conflict (kinds.FlagsChanged mark))) (read_stored uid resumed r.untagged r.ending)
      (ended_so (outcomes.Conflict (kinds.FlagsChanged mark))) (stored_ends uid resumed r.untagged r.ending)

  place_ends : (is : Bool) (validity : ℕ) (target : Option ℕ) → IfRead P (place_if is validity target)
  place_ends true validity (Some target) = ended_so (outcomes.Done (Some (record { validity = validity; uid = target })))
  place_ends true validity None = tt
  place_ends false validity target = tt

  copied_ends : (uid : ℕ) (code : Code) → IfRead P (read_copied uid code)
  copied_ends uid (codings.CopyUid validity source target) = place_ends (names_uid uid (one_of source)) validity (one_of target)
  copied_ends uid code = tt

  moved_ends : (uid : ℕ) (resumed : Bool) (copied : Option Code) → IfRead P (read_moved uid resumed copied)
  moved_ends uid resumed None = gone_ends resumed kinds.SourceGone kinds.MessageGone
  moved_ends uid resumed (Some code) = copied_ends uid code

  pub move_ends : (uid : ℕ) (resumed : Bool) (copied : Option Code) (ending : Ending) → IfRead P (read_move_by uid resumed copied ending)
  move_ends uid resumed copied endings.Ok = moved_ends uid resumed copied
  move_ends uid resumed copied endings.No = ended_so (outcomes.Conflict kinds.RefusedNo)
  move_ends uid resumed copied endings.Bad = ended_so (outcomes.Conflict kinds.RefusedBad)

  appended_ends : (code : Code) → IfRead P (read_appended code)
  appended_ends (codings.AppendUid validity uid) = ended_so (outcomes.Done (Some (record { validity = validity; uid = uid })))
  appended_ends code = tt

  pub append_ends : (code : Code) (ending : Ending) → IfRead P (read_append_by code ending)
  append_ends code endings.Ok = appended_ends code
  append_ends code endings.No = ended_so (outcomes.Conflict kinds.RefusedNo)
  append_ends code endings.Bad = ended_so (outcomes.Conflict kinds.RefusedBad)

-- The status and the text of what became of a command.
use Rattle.std.specs.Prelude.{◌≡◌, ℕ, zero, suc, List, Result, Ok, Err}
use Rattle.mail_base.specs.Lines.{error_disk, error_memory}
use Rattle.mail_base.specs.Lines.{journal_none, journal_header, journal_generations, journal_record, journal_exists, limit_journal}
use Rattle.mail_base.specs.declared.status.Status.{Status}
use Rattle.mail_base.specs.declared.status.Status.TheVariants as status
use Rattle.journal_core.specs.declared.fault.Place9.{Place9}
use Rattle.journal_core.specs.declared.fault.Place9.TheVariants as places
use Rattle.play_driver.specs.declared.fault.PlayFault.{PlayFault}
use Rattle.play_driver.specs.declared.fault.PlayFault.TheVariants as faults
use Rattle.play_driver.specs.declared.fault.Why.{Why}
use Rattle.play_driver.specs.declared.fault.Why.TheVariants as whys
use Rattle.play_driver.specs.declared.played.Played.{Played}
use Rattle.imap_model.specs.declared.limit.Limit.TheVariants as limits
use Rattle.conflict_report.specs.StatusLines.{limit_actions, played, error_input, error_link, error_refused, error_reply_at, error_reply_lacks}
use Rattle.conflict_report.specs.StatusLines.{error_reply_modseq, error_reply_validity, error_lacking, error_limit}
use Rattle.mail_top.specs.Texts.{refused}
use Rattle.mail_top.specs.declared.printed.Printed.{Printed}
use Rattle.mail_top.specs.declared.printed.Printed.TheVariants as prints
use Rattle.mail_top.specs.declared.refusal.Refusal.{Refusal}
use Rattle.mail_top.specs.declared.refusal.Refusal.TheVariants as refusals
use Rattle.mail_top.specs.declared.unfinished.Unfinished.{Unfinished}
use Rattle.mail_top.specs.declared.unfinished.Unfinished.TheVariants as ends

-- the line that tells why files are no journal
abbrev pub line_of : Place9 → List ℕ
line_of places.Absent = journal_none
line_of places.Header = journal_header
line_of places.Generations = journal_generations
line_of (places.Record at) = journal_record at

-- the bytes of what is printed
abbrev pub printed : Printed → List ℕ
printed (prints.Line line) = line
printed (prints.Fixed text) = text.now
printed (prints.Told line) = line
printed (prints.Text text) = text

-- the status of what became of a command
abbrev pub status_of_refusal : Refusal → Status
status_of_refusal refusals.Disk = status.Disk
status_of_refusal refusals.Memory = status.Memory
status_of_refusal refusals.Input = status.Input
status_of_refusal refusals.Already = status.Journal
status_of_refusal (refusals.NotAJournal why) = status.Journal
status_of_refusal (refusals.Reason reason) = status.Reason
status_of_refusal refusals.Actions = status.Limit
status_of_refusal (refusals.Full end) = status.Limit
status_of_refusal refusals.Generation = status.Limit

abbrev pub status_of : {T : Type 0} → Result T Refusal → Status
status_of (Ok done) = status.Done
status_of (Err refusal) = status_of_refusal refusal

-- no generation is left in which a journal of an older version is taken over
abbrev pub limit_generation : List ℕ
limit_generation = error_limit limits.Generation 4294967296

-- and its text
abbrev pub text_of_refusal : Refusal → List ℕ
text_of_refusal refusals.Disk = error_disk
text_of_refusal refusals.Memory = error_memory
text_of_refusal refusals.Input = error_input
text_of_refusal refusals.Already = journal_exists
text_of_refusal (refusals.NotAJournal why) = line_of why
text_of_refusal (refusals.Reason reason) = refused reason
text_of_refusal refusals.Actions = limit_actions
text_of_refusal (refusals.Full end) = limit_journal end
text_of_refusal refusals.Generation = limit_generation

abbrev pub text_of : {T : Type 0} → (T → List ℕ) → Result T Refusal → List ℕ
text_of told (Ok done) = told done
text_of told (Err refusal) = text_of_refusal refusal

-- the status of a run that ended early
abbrev pub status_of_fault : PlayFault → Status
status_of_fault faults.Memory = status.Memory
status_of_fault faults.Disk = status.Disk
status_of_fault faults.Link = status.Link
status_of_fault (faults.Refused line) = status.Refused
status_of_fault (faults.BadReply why) = status.Reply
status_of_fault (faults.Lacking what) = status.Lacking
status_of_fault (faults.Limit which number) = status.Limit

-- and its text
abbrev pub text_of_why : Why → List ℕ
text_of_why (whys.At at) = error_reply_at at
text_of_why (whys.Lacks item) = error_reply_lacks item
text_of_why (whys.Older name kept told) = error_reply_validity name kept told
text_of_why (whys.Lower kept told) = error_reply_modseq kept told

abbrev pub text_of_fault : PlayFault → List ℕ
text_of_fault faults.Memory = error_memory
text_of_fault faults.Disk = error_disk
text_of_fault faults.Link = error_link
text_of_fault (faults.Refused line) = error_refused line
text_of_fault (faults.BadReply why) = text_of_why why
text_of_fault (faults.Lacking what) = error_lacking what
text_of_fault (faults.Limit which number) = error_limit which number

-- the status of a run that came to its end, with so many conflicts
abbrev pub status_of_conflicts : ℕ → Status
status_of_conflicts zero = status.Done
status_of_conflicts (suc n) = status.Conflicts

-- the status of what became of `play`
abbrev pub status_of_play : Result Played Unfinished → Status
status_of_play (Ok done) = status_of_conflicts done.conflicts
status_of_play (Err (ends.Unopened refusal)) = status_of_refusal refusal
status_of_play (Err (ends.Stopped fault)) = status_of_fault fault

-- and its text
abbrev pub text_of_play : Result Played Unfinished → List ℕ
text_of_play (Ok done) = played done.settled done.conflicts
text_of_play (Err (ends.Unopened refusal)) = text_of_refusal refusal
text_of_play (Err (ends.Stopped fault)) = text_of_fault fault

-- the text tells what is wrong with a reply, and no place in the bytes that came
pub record TellsNoPlace (text : List ℕ) : Type 0 where
  pub why : Why
  pub text_is : text ≡ text_of_why why
  pub no_place : (at : ℕ) → why ≡ whys.At at → ⊥

-- The status and the text of what became of a reading.
use Rattle.std.specs.Prelude.{ℕ, List, Result, Ok, Err}
use Rattle.mail_base.specs.declared.status.Status.{Status}
use Rattle.mail_base.specs.declared.status.Status.TheVariants as status
use Rattle.mail_top.specs.Telling.{status_of_fault, status_of_refusal, text_of_fault, text_of_refusal}
use Rattle.mail_top.specs.declared.refusal.Refusal.TheVariants as refusals
use Rattle.body_cache.specs.Lines.{error_shelf, refused}
use Rattle.body_cache.specs.declared.refused.ReadFault.{ReadFault}
use Rattle.body_cache.specs.declared.refused.ReadFault.TheVariants as faults
use Rattle.body_cache.specs.declared.shelf.GetFault.{GetFault}
use Rattle.body_cache.specs.declared.shelf.GetFault.TheVariants as gets

-- an entry of the shelf isn't told
abbrev pub of_get : GetFault → ReadFault
of_get gets.Memory = faults.Refused refusals.Memory
of_get gets.Failed = faults.Shelf

-- the status of a reading that isn't carried out
abbrev pub status_of_unread : ReadFault → Status
status_of_unread (faults.Refused refusal) = status_of_refusal refusal
status_of_unread (faults.Reason reason) = status.Reason
status_of_unread (faults.Stopped fault) = status_of_fault fault
status_of_unread (faults.Renewed line) = status.Validity
status_of_unread faults.Shelf = status.Shelf

-- and its text
abbrev pub text_of_unread : ReadFault → List ℕ
text_of_unread (faults.Refused refusal) = text_of_refusal refusal
text_of_unread (faults.Reason reason) = refused reason
text_of_unread (faults.Stopped fault) = text_of_fault fault
text_of_unread (faults.Renewed line) = line
text_of_unread faults.Shelf = error_shelf

-- the status of what became of a reading
abbrev pub status_of_read : Result (List ℕ) ReadFault → Status
status_of_read (Ok text) = status.Done
status_of_read (Err fault) = status_of_unread fault

-- and the text
abbrev pub text_of_read : Result (List ℕ) ReadFault → List ℕ
text_of_read (Ok text) = text
text_of_read (Err fault) = text_of_unread fault

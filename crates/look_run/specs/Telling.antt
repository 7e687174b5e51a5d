-- The status and the text of what became of a letter.
use Rattle.std.specs.Prelude.{ℕ, List, [], ◌∷◌, ◌++◌, codes, Result, Ok, Err}
use Rattle.mail_base.specs.declared.status.Status.{Status}
use Rattle.mail_base.specs.declared.status.Status.TheVariants as status
use Rattle.mail_top.specs.Telling.{status_of_refusal, text_of_refusal}
use Rattle.mail_top.specs.declared.refusal.Refusal.{Refusal}
use Rattle.look_run.specs.declared.look.LookReason.{LookReason}
use Rattle.look_run.specs.declared.look.LookReason.TheVariants as reasons

-- the line of a reason
abbrev pub refused : LookReason → List ℕ
refused reasons.NoAction = codes "refused no-action" ++ 10 ∷ []
refused reasons.NoLetter = codes "refused no-letter" ++ 10 ∷ []

-- the status
abbrev pub letter_status : Result (Result (List ℕ) LookReason) Refusal → Status
letter_status (Ok (Ok text)) = status.Done
letter_status (Ok (Err reason)) = status.Reason
letter_status (Err refusal) = status_of_refusal refusal

-- and the text
abbrev pub letter_text : Result (Result (List ℕ) LookReason) Refusal → List ℕ
letter_text (Ok (Ok text)) = text
letter_text (Ok (Err reason)) = refused reason
letter_text (Err refusal) = text_of_refusal refusal

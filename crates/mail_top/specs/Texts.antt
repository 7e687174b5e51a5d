-- The printed texts that no lower crate has. Each line ends with an LF.
use Rattle.std.specs.Prelude.{ℕ, List, [], ◌∷◌, ◌++◌, codes, decimal, flat_map, Option, Some, None}
use Rattle.conflict_report.specs.QueueLines.{spaced}
use Rattle.local_view.specs.declared.seen.Seen.{Seen}
use Rattle.mail_top.specs.Words.{ident_text}
use Rattle.mail_top.specs.declared.reason.Reason.{Reason}
use Rattle.mail_top.specs.declared.reason.Reason.TheVariants as reasons

-- a reason's name
abbrev pub reason_name : Reason → List ℕ
reason_name reasons.NoMailbox = codes "no-mailbox"
reason_name reasons.NoMessage = codes "no-message"
reason_name reasons.BadFlag = codes "bad-flag"
reason_name reasons.SameMailbox = codes "same-mailbox"
reason_name reasons.QueueFull = codes "queue-full"
reason_name reasons.TooLarge = codes "too-large"
reason_name reasons.BadText = codes "bad-text"
reason_name reasons.NoMessageId = codes "no-message-id"

-- the command is refused by the book as it is, or by its input
abbrev pub refused : Reason → List ℕ
refused reason = codes "refused " ++ reason_name reason ++ 10 ∷ []

-- a mod-sequence, or `-` where the server hasn't told one
abbrev pub mark_text : Option ℕ → List ℕ
mark_text None = 45 ∷ []
mark_text (Some modseq) = decimal modseq

-- a message as the user sees it: by what it is named, its mod-sequence, and its flags by their keys
unfoldable pub row_line : Seen → List ℕ
row_line row = ident_text row.id ++ 32 ∷ [] ++ mark_text row.modseq ++ flat_map spaced row.flags ++ 10 ∷ []

-- the rows of a view, a line each
abbrev pub rows_text : List Seen → List ℕ
rows_text rows = flat_map row_line rows

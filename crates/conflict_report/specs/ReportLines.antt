-- The text of the report: a line for each action that ended as a conflict, in order (this client's profile). Each line ends with an LF.
use Rattle.std.specs.Prelude.{ℕ, suc, List, [], ◌∷◌, ◌++◌, codes, decimal, Option, Some, None}
use Rattle.action_queue.specs.Book.{Meaning}
use Rattle.action_queue.specs.declared.outcome.Kind.{Kind}
use Rattle.action_queue.specs.declared.outcome.Kind.TheVariants as kinds
use Rattle.action_queue.specs.declared.outcome.Outcome.{Outcome}
use Rattle.action_queue.specs.declared.outcome.Outcome.TheVariants as outcomes
use Rattle.action_queue.specs.declared.queued.Queued.{Queued}

-- whether the action may have had its effect: it had none, or had its one effect or none
abbrev pub effect_text : Kind → List ℕ
effect_text kinds.MessageGone = codes " nothing"
effect_text kinds.AlreadySo = codes " nothing"
effect_text (kinds.FlagsChanged m) = codes " nothing"
effect_text kinds.RefusedNo = codes " nothing"
effect_text kinds.RefusedBad = codes " nothing"
effect_text kinds.NotPermanent = codes " nothing"
effect_text (kinds.TargetUnknown k) = codes " nothing"
effect_text kinds.FoundSo = codes " unsure"
effect_text (kinds.StoreUnsure m f) = codes " unsure"
effect_text kinds.SourceGone = codes " unsure"
effect_text kinds.GoneAfterLoss = codes " unsure"
effect_text (kinds.Ambiguous u v) = codes " unsure"
effect_text (kinds.ValidityChanged o n) = codes " nothing"
effect_text (kinds.ResetAfterLoss o n) = codes " unsure"

-- the conflict's name
abbrev pub kind_text : Kind → List ℕ
kind_text kinds.MessageGone = codes " message-gone"
kind_text kinds.AlreadySo = codes " already-so"
kind_text (kinds.FlagsChanged m) = codes " flags-changed"
kind_text kinds.RefusedNo = codes " refused-no"
kind_text kinds.RefusedBad = codes " refused-bad"
kind_text kinds.NotPermanent = codes " not-permanent"
kind_text (kinds.TargetUnknown k) = codes " target-unknown"
kind_text kinds.FoundSo = codes " found-so"
kind_text (kinds.StoreUnsure m f) = codes " store-unsure"
kind_text kinds.SourceGone = codes " source-gone"
kind_text kinds.GoneAfterLoss = codes " gone-after-loss"
kind_text (kinds.Ambiguous u v) = codes " ambiguous"
kind_text (kinds.ValidityChanged o n) = codes " validity-changed"
kind_text (kinds.ResetAfterLoss o n) = codes " reset-after-loss"

-- a number behind a space
abbrev pub number_text : ℕ → List ℕ
number_text n = 32 ∷ decimal n

-- the conflict's numbers: the mod-sequence that the message was seen with; the action that was to make it; the mod-sequences that it
-- was seen with and found with; the UIDs of two messages with the Message-ID; the UIDVALIDITY that was meant, and the greater one of the
-- mailbox
abbrev pub numbers_text : Kind → List ℕ
numbers_text (kinds.FlagsChanged m) = number_text m
numbers_text (kinds.TargetUnknown k) = number_text k
numbers_text (kinds.StoreUnsure m f) = number_text m ++ number_text f
numbers_text (kinds.Ambiguous u v) = number_text u ++ number_text v
numbers_text (kinds.ValidityChanged o n) = number_text o ++ number_text n
numbers_text (kinds.ResetAfterLoss o n) = number_text o ++ number_text n
numbers_text kinds.MessageGone = []
numbers_text kinds.AlreadySo = []
numbers_text kinds.RefusedNo = []
numbers_text kinds.RefusedBad = []
numbers_text kinds.NotPermanent = []
numbers_text kinds.FoundSo = []
numbers_text kinds.SourceGone = []
numbers_text kinds.GoneAfterLoss = []

-- `n nothing KIND NUMBERS` or `n unsure KIND NUMBERS`
abbrev pub report_line : ℕ → Kind → List ℕ
report_line n kind = decimal n ++ effect_text kind ++ kind_text kind ++ numbers_text kind ++ 10 ∷ []

-- an action that is unsettled or done has no line
abbrev pub line_of : ℕ → Option Outcome → List ℕ
line_of n None = []
line_of n (Some (outcomes.Done place)) = []
line_of n (Some (outcomes.Conflict kind)) = report_line n kind

-- the lines of these actions, of which the first is action n
abbrev pub report_lines : ℕ → List Queued → List ℕ
report_lines n [] = []
report_lines n (q ∷ qs) = line_of n q.outcome ++ report_lines (suc n) qs

-- the text of the report
abbrev pub report_text : Meaning → List ℕ
report_text b = report_lines 1 b.queue

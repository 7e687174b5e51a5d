-- The text of `history`: a line for each action, in order (this client's profile). Each line ends with an LF.
use Rattle.std.specs.Prelude.{ℕ, suc, List, [], ◌∷◌, ◌++◌, codes, decimal, Option, Some, None}
use Rattle.action_queue.specs.Book.{Meaning}
use Rattle.action_queue.specs.declared.outcome.Kind.{Kind}
use Rattle.action_queue.specs.declared.outcome.Outcome.{Outcome}
use Rattle.action_queue.specs.declared.outcome.Outcome.TheVariants as outcomes
use Rattle.action_queue.specs.declared.outcome.Place.{Place}
use Rattle.action_queue.specs.declared.queued.Queued.{Queued}
use Rattle.conflict_report.specs.QueueLines.{action_text, is_begun, state_text}
use Rattle.conflict_report.specs.ReportLines.{effect_text, kind_text, number_text, numbers_text}

-- ` VALIDITY UID` of the message that an action made in the mailbox that it names last; nothing where it made none
abbrev pub place_text : Option Place → List ℕ
place_text None = []
place_text (Some place) = number_text place.validity ++ number_text place.uid

-- the conflict as `report` prints it
abbrev pub conflict_text : Kind → List ℕ
conflict_text kind = effect_text kind ++ kind_text kind ++ numbers_text kind

-- how action n stands: it waits or is begun, it is done, or it ended as a conflict
abbrev pub end_text : Meaning → ℕ → Option Outcome → List ℕ
end_text b n None = state_text (is_begun b n)
end_text b n (Some (outcomes.Done place)) = codes " done" ++ place_text place
end_text b n (Some (outcomes.Conflict kind)) = conflict_text kind

-- the action's number, how it stands, and what it asks for
abbrev pub history_line : Meaning → ℕ → Queued → List ℕ
history_line b n q = decimal n ++ end_text b n q.outcome ++ action_text b.queue q.action ++ 10 ∷ []

-- the lines of these actions of the book, of which the first is action n
abbrev pub history_lines : Meaning → ℕ → List Queued → List ℕ
history_lines b n [] = []
history_lines b n (q ∷ qs) = history_line b n q ++ history_lines b (suc n) qs

-- the text of the history
abbrev pub history_text : Meaning → List ℕ
history_text b = history_lines b 1 b.queue

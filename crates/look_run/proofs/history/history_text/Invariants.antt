-- The lines so far, and those of the actions that are left, are all lines.
use Rattle.std.proofs.Common.{◌≡◌, ◌++◌, drop, suc}
use Rattle.action_queue.specs.Book.{meaning}
use Rattle.look_run.specs.HistoryText.{history_lines, history_text}
use Rattle.look_run.proofs.history.history_text.Given as goal

abbrev pub invariant-loop-at : goal.invariant-loop-at
invariant-loop-at l = l.text.items ++ history_lines (meaning l.book) (suc l.at) (drop l.at l.book.queue.items) ≡ history_text (meaning l.book)

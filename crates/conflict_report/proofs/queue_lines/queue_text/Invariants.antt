-- The lines so far, and those of the actions that are left, are all lines.
use Rattle.std.proofs.Common.{◌≡◌, ◌++◌, drop, suc}
use Rattle.action_queue.specs.Book.{meaning}
use Rattle.conflict_report.specs.QueueLines.{queue_lines, queue_text}
use Rattle.conflict_report.proofs.queue_lines.queue_text.Given as goal

abbrev pub invariant-loop-at : goal.invariant-loop-at
invariant-loop-at l = l.text.items ++ queue_lines (meaning l.book) (suc l.at) (drop l.at l.book.queue.items) ≡ queue_text (meaning l.book)

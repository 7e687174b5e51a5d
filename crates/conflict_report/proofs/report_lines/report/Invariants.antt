-- The lines so far, and those of the actions that are left, are all lines.
use Rattle.std.proofs.Common.{◌≡◌, ◌++◌, drop, suc}
use Rattle.action_queue.specs.Book.{meaning}
use Rattle.conflict_report.specs.ReportLines.{report_lines, report_text}
use Rattle.conflict_report.proofs.report_lines.report.Given as goal

abbrev pub invariant-loop-at : goal.invariant-loop-at
invariant-loop-at l = l.text.items ++ report_lines (suc l.at) (drop l.at l.book.queue.items) ≡ report_text (meaning l.book)

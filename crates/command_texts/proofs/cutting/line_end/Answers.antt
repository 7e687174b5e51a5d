use Rattle.std.proofs.Common.{take}
use Rattle.command_texts.proofs.CrlfPlaces.{none_found, plain_before, cut_found}
use Rattle.command_texts.proofs.cutting.line_end.Goals as goal

pub returns-in_err-at-clause-none : goal.returns-in_err-at-clause-none
returns-in_err-at-clause-none c = rw c.from_residual.ensures (none_found c.args.bytes.now c.in_err-at.ensures)

pub returns-clause-line : goal.returns-clause-line
returns-clause-line c = (
  take c.in_ok-at.at c.args.bytes.now,
  plain_before c.args.bytes.now c.in_ok-at.at c.in_ok-at.ensures,
  cut_found c.args.bytes.now c.in_ok-at.at c.in_ok-at.ensures,
)

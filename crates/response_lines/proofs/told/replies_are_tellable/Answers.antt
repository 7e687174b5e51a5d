use Rattle.response_lines.proofs.TurnTells.{told_tellable}
use Rattle.response_lines.proofs.told.replies_are_tellable.Goals as goal

pub returns : goal.returns
returns c = told_tellable

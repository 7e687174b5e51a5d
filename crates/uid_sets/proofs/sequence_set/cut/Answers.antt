-- No mark, and so the whole text.
use Rattle.std.proofs.Common.{◌==◌, sym}
use Rattle.uid_sets.proofs.Places.{position_missing}
use Rattle.uid_sets.proofs.sequence_set.cut.Goals as goal

pub returns-in-None-clause-behind : goal.returns-in-None-clause-behind
returns-in-None-clause-behind c = position_missing (λ byte. byte == c.args.mark) c.args.text.now (sym c.in-None.ensures)

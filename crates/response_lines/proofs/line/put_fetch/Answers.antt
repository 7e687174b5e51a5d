use Rattle.std.proofs.Common.{arith}
use Rattle.response_lines.proofs.LineRows.{fetch_spelled}
use Rattle.response_lines.proofs.WriteSteps.{on_ok_more}
use Rattle.response_lines.proofs.line.put_fetch.Goals as goal

pub returns-clause-spelled : goal.returns-clause-spelled
returns-clause-spelled c = on_ok_more c.put_items.result _ _
    (λ fits. fetch_spelled c.args.older c.args.number c.args.fetched.now c.requires.number
    (omega arith) c.requires.tellable fits) c.put_items.ensures.fits

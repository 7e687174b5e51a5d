use Rattle.response_lines.proofs.LineSpelled.{done_spelled}
use Rattle.response_lines.proofs.WriteSteps.{on_ok_more}
use Rattle.response_lines.proofs.line.put_done.Goals as goal

pub returns-clause-spelled : goal.returns-clause-spelled
returns-clause-spelled c = on_ok_more c.put_code.result _ _
    (λ fits. done_spelled c.args.tag c.args.ending c.args.code.now c.requires.tag c.put_tag.ensures.fits fits) c.put_code.ensures.fits

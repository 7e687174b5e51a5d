use Rattle.response_lines.proofs.LineSpelled.{preauth_spelled}
use Rattle.response_lines.proofs.WriteSteps.{on_ok_more}
use Rattle.response_lines.proofs.line.put_preauth.Goals as goal

pub returns-clause-spelled : goal.returns-clause-spelled
returns-clause-spelled c = on_ok_more c.put_code.result _ _ (λ fits. preauth_spelled c.args.code.now fits) c.put_code.ensures.fits

use Rattle.mail_top.proofs.Admitting.{refused_bad}
use Rattle.mail_top.proofs.weighing.add_flag.Goals as goal

pub returns-in_err-key-clause-bad : goal.returns-in_err-key-clause-bad
returns-in_err-key-clause-bad c = refused_bad c.args.flag.now _ _ _ c.from_residual.ensures.1 c.in_err-key.ensures.refused c.as_bytes.ensures.value

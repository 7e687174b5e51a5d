use Rattle.std.proofs.Common.{rules}
use Rattle.mail_top.proofs.Inputs.{unidentified_message}
use Rattle.mail_top.proofs.input.identified.Goals as goal

pub returns-in_err-id-clause-value : goal.returns-in_err-id-clause-value
returns-in_err-id-clause-value c =
    unidentified_message c.args.given.now c.deref-2.result.now _ _ _ c.in_err-id.was c.from_residual-in_err-id.ensures.1 (search rules) (search rules)
    (search rules) c.identifier.ensures

use Rattle.response_lines.proofs.LineCodes.{inside_copy}
use Rattle.response_lines.proofs.WriteSteps.{on_ok_more}
use Rattle.response_lines.proofs.codes.put_copy_uid.Goals as goal

pub returns-clause-fits : goal.returns-clause-fits
returns-clause-fits c =
    on_ok_more c.put_sets.result _ _
    (λ both. inside_copy c.args.validity c.args.source.now c.args.target.now c.put_validity.ensures.nonzero
    c.put_validity.ensures.fits both.0 c.requires.some.0 both.1 c.requires.some.1)
    c.put_sets.ensures.canonical

use Rattle.std.proofs.Common.{get_or, arith, sym, ◌∙◌, ap}
use Rattle.mail_header.proofs.Form.{unfit_first}
use Rattle.mail_header.proofs.id_form.unfit_at.Goals as goal

pub returns-in_default-clause-some : goal.returns-in_default-clause-some
returns-in_default-clause-some c = unfit_first c.args.bytes.now (λ some is. omega (arith, some, c.in_default.ensures.cases))

pub returns-then-first-ne60-clause-some : goal.returns-then-first-ne60-clause-some
returns-then-first-ne60-clause-some c = unfit_first c.args.bytes.now
    (λ some is. c.if-first-ne60.true (sym (ap (λ all. get_or all 0 0) c.in-Some.ensures.cases.0) ∙ is))

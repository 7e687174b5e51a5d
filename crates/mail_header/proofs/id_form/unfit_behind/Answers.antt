use Rattle.std.proofs.Common.{arith}
use Rattle.mail_header.proofs.Form.{unfit_end, unfit_none, unfit_other, unfit_more, fit}
use Rattle.mail_header.proofs.id_form.unfit_behind.Goals as goal

pub returns-in-None-clause-some : goal.returns-in-None-clause-some
returns-in-None-clause-some c = unfit_end c.args.inside.now c.in-None.ensures.none

pub returns-in-Some-eq0-clause-some : goal.returns-in-Some-eq0-clause-some
returns-in-Some-eq0-clause-some c = unfit_none c.args.inside.now c.in-Some-eq0.field-0 c.in-Some-eq0.ensures.first (omega arith)

pub returns-in-Some-clause-some : goal.returns-in-Some-clause-some
returns-in-Some-clause-some c = unfit_other c.args.inside.now c.in-Some.at c.in-Some.ensures.first c.if-inside-at-ne62.true

pub returns-in-Some-2-clause-some : goal.returns-in-Some-2-clause-some
returns-in-Some-2-clause-some c = unfit_more c.args.inside.now c.in-Some.at c.in-Some.ensures.first (omega arith) c.if-inside-at-ne62.false (omega arith)

pub returns-in-Some-3-clause-none : goal.returns-in-Some-3-clause-none
returns-in-Some-3-clause-none c = fit c.args.inside.now c.in-Some.at c.in-Some.ensures.first (omega arith) c.if-inside-at-ne62.false (omega arith)

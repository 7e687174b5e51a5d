use Rattle.std.proofs.Common.{refl, ◌∙◌, arith}
use Rattle.body_cache.specs.Carrying.Dates.{tells}
use Rattle.body_cache.proofs.DateLines.{dates_failed, lines_all}
use Rattle.body_cache.proofs.Founds.{made}
use Rattle.body_cache.proofs.carrying.lines_of.Goals as goal

pub returns-in_err-put_date-clause-dates : goal.returns-in_err-put_date-clause-dates
returns-in_err-put_date-clause-dates g c =
    dates_failed _ _ _ c.from_residual.result c.in_err-put_date.field-0.0 (made c.from_residual.result _ c.from_residual.ensures.1)
    (c.put_date.ensures.only c.in_err-put_date.field-0.0 c.in_err-put_date.was)
    (λ t. c.put_date.ensures.untouched t ∙ c.loop-uid.invariant.untouched t)

pub returns-clause-dates : goal.returns-clause-dates
returns-clause-dates g c =
    tells c.of.result refl
    (λ t. c.of.ensures ∙ lines_all c.args.name.now c.args.validity c.args.uids.now (g.K.Shelf.texts c.args.shelf.now) c.loop-uid.uid-index
    c.loop-uid.lines.items (omega (arith, c.loop-uid-test.false, c.loop-uid.auto.uid-index-end)) (c.loop-uid.invariant.lines t))
    c.loop-uid.invariant.untouched

-- A drill's orders are those of its draws, which begin at its seed.
use Rattle.std.proofs.Common.{◌∙◌, ap, arith, subst}
use Rattle.mail_drill.specs.Foreseen.{IsForeseen}
use Rattle.mail_drill.specs.declared.calm_world.CalmWorld.{CalmWorld}
use Rattle.mail_drill.proofs.Seeds.{from_seed, limit_from_seed}
use Rattle.mail_drill.proofs.drilling.drilled.Goals as goal

pub returns-in-Ok : goal.returns-in-Ok
returns-in-Ok c =
    from_seed c.args.task c.new-draws.result c.begun-answer.new.draws c.begun-answer.new.world.quiet c.in_ok-world.world.value c.in-Ok.given
    (c.in_ok-world.ensures.ok ∙ c.into_quiet.ensures ∙ ap (λ (w : CalmWorld). w.quiet) c.into_inner.ensures) (omega arith) c.in-Ok.ensures.done
    c.in-Ok.ensures.gives (c.finished.ensures c.args.task)

pub returns-in-Err-Limit : goal.returns-in-Err-Limit
returns-in-Err-Limit c =
    c.limited.ensures c.args.task
    (limit_from_seed c.args.task c.new-draws.result c.begun-answer.new.world.quiet c.in_ok-world.world.value c.in-Err-Limit.field-0 c.in-Err-Limit.line _
    (c.in_ok-world.ensures.ok ∙ c.into_quiet.ensures ∙ ap (λ (w : CalmWorld). w.quiet) c.into_inner.ensures) (omega arith)
    c.in-Err-Limit.field-0-is c.in-Err-Limit.line-is c.in-Err-Limit.ensures.broken)

pub returns-in-Err-Unforeseen : goal.returns-in-Err-Unforeseen
returns-in-Err-Unforeseen c =
    absurd (subst IsForeseen c.in-Err-Unforeseen.field-0-is c.in-Err-Unforeseen.ensures.foreseen)

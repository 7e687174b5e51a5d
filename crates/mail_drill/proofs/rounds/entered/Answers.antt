use Rattle.std.proofs.Common.{sym, subst}
use Rattle.mail_drill.specs.Standing.{PlaysOn}
use Rattle.mail_drill.specs.declared.quiet_world.QuietWorld.{QuietWorld}
use Rattle.mail_drill.proofs.Restarts.{restarted_on}
use Rattle.mail_drill.proofs.rounds.entered.Goals as goal

pub returns-in_ok-new-in-Some-clause-plays : goal.returns-in_ok-new-in-Some-clause-plays
returns-in_ok-new-in-Some-clause-plays c = λ b before.
    let new = c.in_ok-restart-in-Some.ensures in
    subst (λ (w : QuietWorld). PlaysOn b w) (sym c.in_ok-new-in-Some.ensures.ok)
    (restarted_on b c.into_inner.result c.in_ok-restart-in-Some.field-0 new.run.0 new.run.1 new.run.2 new.short
    (subst (λ (w : QuietWorld). PlaysOn b w) (sym c.into_inner.ensures) before))

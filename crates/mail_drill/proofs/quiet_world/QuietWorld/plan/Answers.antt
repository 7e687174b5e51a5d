use Rattle.std.proofs.Math.Logic.{∥∥₁_map}
use Rattle.mail_drill.proofs.ServedCalls.{planned_served}
use Rattle.mail_drill.proofs.quiet_world.QuietWorld.plan.Goals as goal

pub invariant_of-self-clause-served : goal.invariant_of-self-clause-served
invariant_of-self-clause-served c =
    let was = c.args.self.now in
    ∥∥₁_map was.served (λ known sufficed. planned_served was.world c.plan.new.self c.args.plan c.plan.ensures.course c.plan.ensures.plan
    c.requires.fails (known sufficed))

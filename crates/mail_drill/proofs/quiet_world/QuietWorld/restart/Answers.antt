use Rattle.std.proofs.Common.{ap, subst}
use Rattle.world_traits.specs.Moments.{MayLeave}
use Rattle.world_mem.specs.Both.{torn_at}
use Rattle.world_mem.specs.Image.{image_of}
use Rattle.world_mem.specs.Running.{Run}
use Rattle.world_mem.specs.Worlds.{run_in}
use Rattle.mail_drill.proofs.OwnCalls.{restart_still}
use Rattle.mail_drill.proofs.ServedCalls.{restart_served}
use Rattle.std.proofs.Math.Logic.{∥∥₁_map}
use Rattle.mail_drill.proofs.quiet_world.QuietWorld.restart.Goals as goal

pub invariant_of-result-clause-alone : goal.invariant_of-result-clause-alone
invariant_of-result-clause-alone c =
    let was = c.args.self in
    let old = run_in was.world in
    restart_still was.short was.world c.in_ok-world.world (image_of c.args.pick (torn_at old.clock.now old.seen)) c.in_ok-world.ensures.run was.alone

-- what it goes on from is the image that the pick takes
pub returns-clause-run : goal.returns-clause-run
returns-clause-run c =
    let old = run_in c.args.self.world in
    let files = image_of c.args.pick (torn_at old.clock.now old.seen) in (
      files,
      subst (MayLeave old.clock.now) (ap (λ (r : Run). r.seen) c.in_ok-world.ensures.run) c.in_ok-world.ensures.lawful,
      c.in_ok-world.ensures.run,
    )

pub returns-clause-picked : goal.returns-clause-picked
returns-clause-picked c = c.in_ok-world.ensures.run

pub invariant_of-result-clause-served : goal.invariant_of-result-clause-served
invariant_of-result-clause-served c =
    let was = c.args.self in
    let old = run_in was.world in
    let new = c.in_ok-world.ensures in
    ∥∥₁_map was.served (λ known sufficed. restart_served was.world c.in_ok-world.world (image_of c.args.pick (torn_at old.clock.now old.seen)) c.args.plan
    new.run new.line new.uncalled (known sufficed))

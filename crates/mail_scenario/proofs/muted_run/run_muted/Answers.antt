use Rattle.std.proofs.Common.{List, ℕ, subst, map, string_bytes}
use Rattle.mail_top.specs.Going.{Goes}
use Rattle.mail_scenario.specs.Muted.{course_between}
use Rattle.mail_scenario.proofs.muted_run.run_muted.Goals as goal

-- what the input gave is what there was
pub returns-clause-goes : goal.returns-clause-goes
returns-clause-goes c =
    let told = c.run.ensures.goes tt in (
      told.2,
      subst (λ (given : List ℕ). Goes c.args.account.now (map string_bytes c.args.words.now) given
          (course_between c.args.world.now c.run.new.world) c.run.result told.2) (told.1 tt) told.3,
      told.5 tt,
    )

-- no accepted action is lost, and one side stays at rest
pub returns-clause-held : goal.returns-clause-held
returns-clause-held c = c.run.ensures.journal.held tt

pub returns-clause-sides : goal.returns-clause-sides
returns-clause-sides c = c.run.ensures.journal.sides tt

-- a `play` that came to its end
pub returns-clause-finishes : goal.returns-clause-finishes
returns-clause-finishes c = c.run.ensures.outcomes.finishes tt

-- whatever the server sends
pub returns-clause-any_server : goal.returns-clause-any_server
returns-clause-any_server c = let any = c.run.ensures.any_server tt in (any.whole, any.once)

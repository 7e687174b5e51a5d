use Rattle.std.proofs.Common.{rules, []}
use Rattle.mail_base.specs.declared.status.Status.TheVariants as status
use Rattle.mail_drill.specs.Foreseen.{IsForeseen}
use Rattle.mail_drill.specs.Held.{init_words}
use Rattle.mail_drill.specs.Held.PassesLimit.{at_first}
use Rattle.mail_drill.proofs.Breaking.{err_on, err_then, ok_then}
use Rattle.mail_drill.proofs.FirstWorld.{ran_runs, set_up_gives, set_up_through}
use Rattle.mail_drill.proofs.Foreseeing.{init_ends, play_ends}
use Rattle.mail_drill.proofs.beginning.set_up.Goals as goal

pub returns-clause-done : goal.returns-clause-done
returns-clause-done c size fresh sufficed =
    ok_then _ _ (λ second. set_up_through c.args.account.now size c.args.world.now.quiet c.carry_out_well.new.world.quiet fresh
    c.in_ok-carry_out_well.ensures.done c.carry_out_well-2.new.world.quiet second) c.carry_out_well-2.result c.carry_out_well-2.ensures.done

pub returns-clause-gives : goal.returns-clause-gives
returns-clause-gives c size seed fresh =
    ok_then _ _ (λ second. set_up_gives c.args.account.now size c.args.world.now.quiet c.carry_out_well.new.world.quiet fresh
    c.in_ok-carry_out_well.ensures.done c.carry_out_well-2.new.world.quiet second seed) c.carry_out_well-2.result c.carry_out_well-2.ensures.done

pub returns-clause-broken : goal.returns-clause-broken
returns-clause-broken c size seed fresh =
    err_then _ _ (λ line runs. at_first fresh (ran_runs c.args.account.now init_words [] c.args.world.now.quiet c.carry_out_well.new.world.quiet
    status.Done c.in_ok-carry_out_well.ensures.done) runs) c.carry_out_well-2.result c.carry_out_well-2.ensures.broken

pub returns-clause-foreseen : goal.returns-clause-foreseen
returns-clause-foreseen c size fresh =
    c.carry_out_well-2.ensures.foreseen (play_ends c.args.account.now size c.args.world.now.quiet c.carry_out_well.new.world.quiet
    c.carry_out_well-2.new.world.quiet fresh c.in_ok-carry_out_well.ensures.done)

pub returns-in_err-carry_out_well-clause-foreseen : goal.returns-in_err-carry_out_well-clause-foreseen
returns-in_err-carry_out_well-clause-foreseen c size fresh =
    err_on c.from_residual.result c.in_err-carry_out_well.field-0.0 IsForeseen (search rules)
    (c.in_err-carry_out_well.ensures.foreseen
    (init_ends c.args.account.now size c.args.world.now.quiet c.carry_out_well.new.world.quiet fresh))

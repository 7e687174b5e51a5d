-- Where nothing is against the command no other status comes.
use Rattle.std.proofs.Common.{◌∙◌, ap, map, string_bytes}
use Rattle.mail_drill.proofs.Foreseeing.{ran_as}
use Rattle.mail_drill.proofs.beginning.carry_out_well.Goals as goal

pub returns-clause-foreseen : goal.returns-clause-foreseen
returns-clause-foreseen c = λ against.
    c.in_default.not-Done (against c.in_ok-status.status
    (ran_as c.args.account.now _ _ _ c.args.world.now.quiet c.carried_out_calmly.new.world.quiet c.in_ok-status.status
    (ap (map string_bytes) c.deref.ensures.value ∙ c.in_ok-words.ensures) c.new.ensures.items c.in_ok-status.ensures.done))

use Rattle.std.proofs.Common.{◌∙◌, ap, map, string_bytes, subst}
use Rattle.mail_drill.specs.Foreseen.{IsForeseen}
use Rattle.mail_drill.proofs.RoundSteps.{runs_by, turns_by}
use Rattle.mail_drill.proofs.rounds.played.Goals as goal

pub returns-in-Ok : goal.returns-in-Ok
returns-in-Ok c =
    let are = ap (map string_bytes) c.deref.ensures.value ∙ c.in_ok-words.ensures in
    record {
      turns = λ b before. turns_by _ _ _ c.args.world.now c.carried_out.new.world c.in-Ok.status are c.new.ensures.items c.in-Ok.ensures.done c.turn_by.result c.turn_by.ensures.ended c.turn_by.ensures.again b before;
      runs = runs_by _ _ _ c.args.world.now c.carried_out.new.world c.in-Ok.status are c.new.ensures.items c.in-Ok.ensures.done c.turn_by.result c.turn_by.ensures.ended c.turn_by.ensures.again c.in-Ok.ensures.no_limit;
    }

pub returns-in-Err-Unforeseen : goal.returns-in-Err-Unforeseen
returns-in-Err-Unforeseen c =
    absurd (subst IsForeseen c.in-Err-Unforeseen.field-0-is c.in-Err-Unforeseen.ensures.foreseen)

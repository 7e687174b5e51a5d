use Rattle.std.proofs.Common.{◌∙◌, ap, map, string_bytes, subst}
use Rattle.mail_drill.specs.Foreseen.{IsForeseen}
use Rattle.mail_drill.proofs.LastRounds.{ends_in, is_over, runs_last}
use Rattle.mail_drill.proofs.last_round.played_out.Goals as goal

pub returns-in-Ok : goal.returns-in-Ok
returns-in-Ok c =
    let are = ap (map string_bytes) c.deref.ensures.value ∙ c.in_ok-words.ensures in
    record {
      ends = λ b before. ends_in _ _ _ c.args.world.now.quiet c.carried_out_calmly.new.world.quiet c.in-Ok.status are c.new.ensures.items
          c.in-Ok.ensures.done.ran c.ended_by.result c.ended_by.ensures.ended c.ended_by.ensures.unfinished b before;
      over = λ kept untouched waits.
          is_over _ _ _ c.args.world.now.quiet c.carried_out_calmly.new.world.quiet c.in-Ok.status are c.new.ensures.items c.in-Ok.ensures.done.ran
          c.ended_by.result c.ended_by.ensures.ended c.ended_by.ensures.unfinished
          (c.in-Ok.ensures.done.completes (record { are = are }) kept untouched waits);
      runs = runs_last _ _ _ c.args.world.now.quiet c.carried_out_calmly.new.world.quiet c.in-Ok.status are c.new.ensures.items
          c.in-Ok.ensures.done.ran c.ended_by.result c.ended_by.ensures.ended c.ended_by.ensures.unfinished;
    }

pub returns-in-Err-Unforeseen : goal.returns-in-Err-Unforeseen
returns-in-Err-Unforeseen c =
    absurd (subst IsForeseen c.in-Err-Unforeseen.field-0-is c.in-Err-Unforeseen.ensures.foreseen)

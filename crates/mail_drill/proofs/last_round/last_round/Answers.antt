use Rattle.std.proofs.Common.{◌≡◌, Some, sym, ◌∙◌, ap, subst}
use Rattle.world_mem.specs.Planned.{Planned, unbegun}
use Rattle.world_mem.specs.Worlds.{run_in}
use Rattle.mail_drill.specs.Came.{Begins}
use Rattle.mail_drill.specs.Misfortunes.{nothing_fails}
use Rattle.mail_drill.specs.Standing.{PlaysOn}
use Rattle.mail_drill.specs.declared.calm_world.CalmWorld.{CalmWorld}
use Rattle.mail_drill.specs.declared.quiet_world.QuietWorld.{QuietWorld}
use Rattle.mail_drill.proofs.LastRounds.{ends_lent, last_lent, over_lent}
use Rattle.mail_drill.proofs.Restarts.{restarted_on}
use Rattle.mail_drill.proofs.last_round.last_round.Goals as goal

pub new-requires : goal.new-requires
new-requires c = ap (λ (s : Planned). s.plan) c.in_ok-begun.ensures.plan ∙ c.no_plan.ensures

pub returns : goal.returns
returns c =
    let stop = c.in_ok-begun.ensures in
    let begun = c.in_ok-begun.begun in
    let lent = c.deref_mut.result.now.quiet in
    let left = c.in_ok-left.left.value in
    let new = c.played_out.new.world.quiet in
    let same : lent ≡ begun = ap (λ (w : CalmWorld). w.quiet) (c.deref_mut.ensures.value ∙ c.in_ok-calm.ensures.ok) ∙ c.new.ensures in
    let is_left : left ≡ new = c.in_ok-left.ensures.ok ∙ c.into_quiet.ensures ∙ ap (λ (w : CalmWorld). w.quiet) c.into_inner-2.ensures in
    let begins : Begins (Some c.args.pick) nothing_fails c.args.world.value.world begun.world =
    subst (λ (w : QuietWorld). Begins (Some c.args.pick) nothing_fails w.world begun.world) c.into_inner.ensures
    (record { resumes = stop.picked; planned = stop.plan ∙ ap unbegun c.no_plan.ensures }) in
    record {
      ends = λ b before. ends_lent c.in_ok-ended.ended lent begun new left same is_left b (c.in_ok-ended.ensures.ends b)
          (restarted_on b c.into_inner.result begun stop.run.0 stop.run.1 stop.run.2 stop.short
          (subst (λ (w : QuietWorld). PlaysOn b w) (sym c.into_inner.ensures) before));
      over = λ b before. over_lent c.in_ok-ended.ended lent begun same b
          (restarted_on b c.into_inner.result begun stop.run.0 stop.run.1 stop.run.2 stop.short
          (subst (λ (w : QuietWorld). PlaysOn b w) (sym c.into_inner.ensures) before))
          stop.run.0 (run_in c.into_inner.result.world) stop.run.2 c.in_ok-ended.ensures.over;
      round = last_lent c.in_ok-ended.ended lent begun new left same is_left c.args.pick c.args.world.value.world begins c.in_ok-ended.ensures.runs;
    }

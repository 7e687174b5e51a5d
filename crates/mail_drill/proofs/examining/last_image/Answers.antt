-- The last image is one of the moment now.
use Rattle.std.proofs.Common.{ℕ, ◌-◌, ◌∙◌, ap}
use Rattle.mail_drill.specs.Standing.{clock_of, now_of}
use Rattle.mail_drill.proofs.LastMoments.{last_now}
use Rattle.mail_drill.proofs.examining.last_image.Goals as goal

pub returns-in-Ok : goal.returns-in-Ok
returns-in-Ok c =
    c.in-Ok.ensures.lawful (now_of c.args.world.now)
    (last_now (clock_of c.args.world.now) c.saturating_sub.result (c.saturating_sub.ensures ∙ ap (λ (n : ℕ). n - 1) c.moments.ensures))

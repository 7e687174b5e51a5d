-- What goes wrong in the rounds of a drill, as its draws decide.
use Rattle.std.specs.Prelude.{ℕ, zero, suc, ◌+◌, ◌%◌, ◌==◌, [], ◌∷◌, Option, Some, None, if◌then◌else◌}
use Rattle.world_mem.specs.Draws.{next, drawn}
use Rattle.world_mem.specs.declared.plan.Loss.{Loss}
use Rattle.world_mem.specs.declared.plan.Loss.TheVariants as losses
use Rattle.world_mem.specs.declared.plan.Plan.{Plan}
use Rattle.mail_drill.specs.declared.misfortune.Misfortune.{Misfortune}
use Rattle.mail_drill.specs.declared.misfortune.Misfortune.TheVariants as misfortunes

-- nothing goes wrong
abbrev pub nothing_fails : Plan
nothing_fails = record { disk_fails = []; link_fails = []; foreign = []; stop_after = None }

-- how much of a call arrives, by a draw below 3
abbrev pub loss_of : ℕ → Loss
loss_of zero = losses.Nothing
loss_of (suc zero) = losses.Part 10
loss_of (suc (suc n)) = losses.All

-- The number of a call, and a pick or a loss, are drawn; in each fourth round the program stops, and in the others its connection is lost.
abbrev pub misfortune_at : ℕ → ℕ → Misfortune
misfortune_at round x =
    if round % 4 == 0 then misfortunes.Stop (1 + drawn 400 (next x)) (drawn 3 (next (next x)))
    else misfortunes.Lost (1 + drawn 400 (next x)) (loss_of (drawn 3 (next (next x))))

-- the plan of a round in which this goes wrong
abbrev pub plan_of : Misfortune → Plan
plan_of (misfortunes.Stop calls pick) = record nothing_fails { stop_after = Some calls }
plan_of (misfortunes.Lost call loss) = record nothing_fails { link_fails = (call, loss) ∷ [] }

-- the pick by which the next round goes on, where the program was stopped
abbrev pub pick_of : Misfortune → Option ℕ
pick_of (misfortunes.Stop calls pick) = Some pick
pick_of (misfortunes.Lost call loss) = None

-- What the files of a world in memory read as is always one of the images of its moment.
-- These lemmas stand beside the definitions, since the law of an impl cites them.
use Rattle.std.proofs.Common.{List, [], ◌∷◌, Option}
use Rattle.server_mem.specs.States.{State}
use Rattle.world_traits.specs.Files.{Files}
use Rattle.world_traits.specs.Moments.{MayLeave}
use Rattle.world_traits.specs.Sound.{holds_put, holds_clean}
use Rattle.world_traits.specs.declared.disk.Side.TheVariants.{Left, Right}
use Rattle.world_mem.specs.Running.{Run, start, step, run}
use Rattle.world_mem.specs.declared.did.Did.{Did}
use Rattle.world_mem.specs.declared.did.Did.TheVariants as did
use Rattle.world_mem.specs.declared.did.Held.{Held}

abbrev IsSound : Run → Type 0
IsSound s = MayLeave s.clock.now s.seen

step_seen : (d : Did) (s : Run) → IsSound s → IsSound (step d s)
step_seen (did.Wrote Left at bytes) s h = record { left = holds_put s.clock.now.left s.seen.left at bytes.items h.left; right = h.right }
step_seen (did.Wrote Right at bytes) s h = record { left = h.left; right = holds_put s.clock.now.right s.seen.right at bytes.items h.right }
step_seen (did.Synced Left) s h = record { left = holds_clean s.seen.left; right = h.right }
step_seen (did.Synced Right) s h = record { left = h.left; right = holds_clean s.seen.right }
step_seen (did.Changed name change) s h = record { left = h.left; right = h.right }
step_seen did.Greeted s h = record { left = h.left; right = h.right }
step_seen (did.Heard part answered) s h = record { left = h.left; right = h.right }
step_seen did.Began s h = record { left = h.left; right = h.right }
step_seen (did.Waited held) s h = record { left = h.left; right = h.right }
step_seen did.Settled s h = record { left = h.left; right = h.right }
step_seen did.Ended s h = record { left = h.left; right = h.right }

steps_seen : (ds : List Did) (s : Run) → IsSound s → IsSound (run ds s)
steps_seen [] s h = h
steps_seen (d ∷ ds) s h = steps_seen ds (step d s) (step_seen d s h)

pub run_seen : (ds : List Did) (files : Files) (s : State) (held : Option Held) →
    MayLeave (run ds (start files s held)).clock.now (run ds (start files s held)).seen
run_seen ds files s held = steps_seen ds (start files s held) (record { left = holds_clean files.left; right = holds_clean files.right })

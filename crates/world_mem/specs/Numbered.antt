-- The moments of a world in memory by their numbers, from 0, and the files at each.
use Rattle.std.specs.Prelude.{ℕ, ◌-◌, cond, ltb, List, [], ◌∷◌, reverse}
use Rattle.world_traits.specs.Moments.{Moment, Clock}
use Rattle.world_mem.specs.Both.{Both, torn_at}
use Rattle.world_mem.specs.Memory.{start_of, run_of}
use Rattle.world_mem.specs.Running.{Run, step}
use Rattle.world_mem.specs.declared.course.Course.{Course}
use Rattle.world_mem.specs.declared.did.Did.{Did}
use Rattle.world_mem.specs.declared.did.Did.TheVariants as did

-- the moments so far, the first first
abbrev pub moments : Clock → List Moment
moments c = reverse (c.now ∷ c.past)

abbrev pub moments_of : Course → List Moment
moments_of course = moments (run_of course).clock

-- how many moments it adds: a part that is answered comes at one of them
abbrev pub added_by : Did → ℕ
added_by (did.Heard part answered) = 2
added_by (did.Wrote side at bytes) = 1
added_by (did.Synced side) = 1
added_by (did.Changed name change) = 1
added_by did.Greeted = 1
added_by did.Began = 1
added_by (did.Waited held) = 1
added_by did.Settled = 1
added_by did.Ended = 1

-- the files so many moments behind this one, where these things were done since
abbrev pub files_at : List Did → Run → ℕ → Both
files_at [] s k = torn_at s.clock.now s.seen
files_at (d ∷ ds) s k =
    cond (ltb k (added_by d)) (torn_at s.clock.now s.seen) (files_at ds (step d s) (k - added_by d))

-- the files at the moment with this number
abbrev pub files_of : Course → ℕ → Both
files_of course k = files_at course.log.items (start_of course) k

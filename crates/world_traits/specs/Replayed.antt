-- What the files of a disk in memory read as is always one of the images of its moment.
-- These lemmas stand beside the definitions, since the law of an impl cites them.
use Rattle.std.proofs.Common.{◌≡◌, ℕ, List, [], ◌∷◌, ◌++◌, refl}
use Rattle.world_traits.specs.Moments.{MayLeave}
use Rattle.world_traits.specs.Replay.{State, start, step, replay}
use Rattle.world_traits.specs.Sound.{holds_put, holds_clean}
use Rattle.world_traits.specs.declared.call.Did.{Did}
use Rattle.world_traits.specs.declared.call.Did.TheVariants.{Wrote, Synced}
use Rattle.world_traits.specs.declared.disk.Side.TheVariants.{Left, Right}

abbrev IsSound : State → Type 0
IsSound s = MayLeave s.clock.now s.files

step_sound : (call : Did) (s : State) → IsSound s → IsSound (step call s)
step_sound (Wrote Left at bytes) s h = record { left = holds_put s.clock.now.left s.files.left at bytes.items h.left; right = h.right }
step_sound (Wrote Right at bytes) s h = record { left = h.left; right = holds_put s.clock.now.right s.files.right at bytes.items h.right }
step_sound (Synced Left) s h = record { left = holds_clean s.files.left; right = h.right }
step_sound (Synced Right) s h = record { left = h.left; right = holds_clean s.files.right }

pub replay_sound : (calls : List Did) (s : State) → MayLeave s.clock.now s.files → MayLeave (replay calls s).clock.now (replay calls s).files
replay_sound [] s h = h
replay_sound (call ∷ calls) s h = replay_sound calls (step call s) (step_sound call s h)

pub sound : (calls : List Did) (left right : List ℕ) → MayLeave (replay calls (start left right)).clock.now (replay calls (start left right)).files
sound calls left right = replay_sound calls (start left right) (record { left = holds_clean left; right = holds_clean right })

-- one call more
pub replay_more : (calls : List Did) (call : Did) (s : State) → replay (calls ++ call ∷ []) s ≡ step call (replay calls s)
replay_more [] call s = refl
replay_more (c ∷ calls) call s = replay_more calls call (step c s)

-- One call more of a disk in memory.
use Rattle.std.proofs.Common.{◌≡◌, ℕ, List, [], ◌∷◌, ◌++◌, Vec, sym, ◌∙◌, ap}
use Rattle.std.specs.declared.alloc.Global.{Global}
use Rattle.world_traits.specs.Files.{Files, put, file_of, with_file}
use Rattle.world_traits.specs.Content.{Contents}
use Rattle.world_traits.specs.Replay.{State, start, step, replay}
use Rattle.world_traits.specs.Replayed.{replay_more}
use Rattle.world_traits.specs.declared.disk.Side.{Side}
use Rattle.world_traits.specs.declared.call.Did.{Did}
use Rattle.world_traits.specs.declared.call.Did.TheVariants.{Wrote, Synced}

pub one_more : (calls later : List Did) (s : State) (call : Did) → later ≡ calls ++ call ∷ [] → replay later s ≡ step call (replay calls s)
one_more calls later s call is = ap (λ (l : List Did). replay l s) is ∙ replay_more calls call s

-- where the calls began
abbrev pub start_of : Contents → State
start_of files = start files.given.left files.given.right

-- what the files hold after these calls
abbrev pub HoldsAfter : List Did → Contents → Type 0
HoldsAfter calls files = files.now ≡ (replay calls (start_of files)).files

-- a sync leaves what they hold
pub sync_holds : (calls later : List Did) (side : Side) (files : Contents) → HoldsAfter calls files → later ≡ calls ++ Synced side ∷ [] → HoldsAfter later files
sync_holds calls later side files held is = held ∙ sym (ap (λ (t : State). t.files) (one_more calls later (start_of files) (Synced side) is))

module _ (calls later : List Did) (side : Side) (at : ℕ) (own : Vec ℕ Global) (bytes : List ℕ) (files after : Contents)
    (same : own.items ≡ bytes) (is : later ≡ calls ++ Wrote side at own ∷ [])
    (becomes : after ≡ record files { now = with_file side (put at bytes (file_of side files.now)) files.now }) where
  -- a write takes the disk one call on
  pub write_steps : replay later (start_of after) ≡ step (Wrote side at own) (replay calls (start_of files))
  write_steps = ap (λ (k : Contents). replay later (start_of k)) becomes ∙ one_more calls later (start_of files) (Wrote side at own) is

  -- and puts the bytes in
  pub write_holds : HoldsAfter calls files → HoldsAfter later after
  write_holds held =
      ap (λ (k : Contents). k.now) becomes
      ∙ ap (λ (f : Files). with_file side (put at bytes (file_of side f)) f) held
      ∙ ap (λ (b : List ℕ). let f = (replay calls (start_of files)).files in with_file side (put at b (file_of side f)) f) (sym same)
      ∙ sym (ap (λ (t : State). t.files) write_steps)

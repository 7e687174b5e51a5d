-- That an answer has its cause, whatever the world and the shelf tell.
use Rattle.std.specs.Prelude.{◌≡◌, ◌≤◌}
use Rattle.mail_base.specs.declared.status.Status.{Status}
use Rattle.mail_base.specs.declared.status.Status.TheVariants as status
use Rattle.world_traits.specs.Calls.{Rose}
use Rattle.body_cache.specs.Ending.{Shelving}
use Rattle.body_cache.specs.declared.shelf.Shelf.{Ghosts as ShelfGhosts}

-- the shelf of a call that takes it from one state to another
abbrev pub shelving_of : {Self : Type 0} → ShelfGhosts Self → Self → Self → Shelving
shelving_of K old new = record { tells = K.tells; old = K.texts old; new = K.texts new }

-- The shelf is blamed only where a call of it failed, and its count of faults never falls. Where a call failed, that is the answer.
pub record HasShelfCause {Self : Type 0} (K : ShelfGhosts Self) (old new : Self) (s : Status) : Type 0 where
  pub shelf : s ≡ status.Shelf → Rose (K.shelf_faults old) (K.shelf_faults new)
  pub count : K.shelf_faults old ≤ K.shelf_faults new
  pub unfailed : (s ≡ status.Shelf → ⊥) → K.shelf_faults new ≡ K.shelf_faults old

-- Whom a call of the disk blames.
use Rattle.std.specs.Prelude.{◌≡◌, ◌≤◌, Result, OnErr, OnOk}
use Rattle.world_traits.specs.Calls.{Rose}
use Rattle.world_traits.specs.declared.clocked.Clocked.{Ghosts}

-- Each error blames the disk. The link is as it was; the count of the disk's faults never falls, rose at an error, and
-- stays after Ok.
pub record Blames {Self T E : Type 0} (D : Ghosts Self) (old new : Self) (result : Result T E) : Type 0 where
  pub link : D.link new ≡ D.link old
  pub count : D.disk_faults old ≤ D.disk_faults new
  pub cause : OnErr result (Rose (D.disk_faults old) (D.disk_faults new))
  pub unfailed : OnOk result (D.disk_faults new ≡ D.disk_faults old)

-- The same of a call that may fail for other causes: the disk is blamed where this holds.
pub record BlamesWhere {Self : Type 0} (D : Ghosts Self) (old new : Self) (IsBlamed : Type 0) : Type 0 where
  pub link : D.link new ≡ D.link old
  pub count : D.disk_faults old ≤ D.disk_faults new
  pub cause : IsBlamed → Rose (D.disk_faults old) (D.disk_faults new)
  pub unfailed : (IsBlamed → ⊥) → D.disk_faults new ≡ D.disk_faults old

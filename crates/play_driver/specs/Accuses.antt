-- Whom a call accuses of a fault.
use Rattle.std.specs.Prelude.{◌≡◌, ◌⊎◌, ◌≤◌, ◌∷◌, ℕ, Result, IsErrOf}
use Rattle.world_traits.specs.Calls.{Rose}
use Rattle.world_traits.specs.LinkState.{LinkState}
use Rattle.world_traits.specs.declared.clocked.Clocked.{Ghosts}
use Rattle.play_driver.specs.declared.fault.PlayFault.{PlayFault}
use Rattle.play_driver.specs.declared.fault.PlayFault.TheVariants as faults
use Rattle.play_driver.specs.declared.fault.Why.TheVariants as whys

-- No count of faults falls. The disk or the link is accused only where its count rose, and a count stays where its device isn't accused: so
-- where a call of theirs failed, this one ends by that fault. A server is never accused of bytes that are no reply.
pub record Accuses {Self T : Type 0} (W : Ghosts Self) (old new : Self) (result : Result T PlayFault) : Type 0 where
  pub disk_count : W.disk_faults old ≤ W.disk_faults new
  pub link_count : (W.link old).faults ≤ (W.link new).faults
  pub disk_cause : IsErrOf result faults.Disk → Rose (W.disk_faults old) (W.disk_faults new)
  pub link_cause : IsErrOf result faults.Link → Rose (W.link old).faults (W.link new).faults
  pub disk_unfailed : (IsErrOf result faults.Disk → ⊥) → W.disk_faults new ≡ W.disk_faults old
  pub link_unfailed : (IsErrOf result faults.Link → ⊥) → (W.link new).faults ≡ (W.link old).faults
  pub honest : W.tells_server → (at : ℕ) → IsErrOf result (faults.BadReply (whys.At at)) → ⊥

-- so it is of a call that leaves the disk alone
pub record AccusesLink {Self T : Type 0} (L : Ghosts Self) (old new : Self) (result : Result T PlayFault) : Type 0 where
  pub no_disk : IsErrOf result faults.Disk → ⊥
  pub disk : L.disk_faults new ≡ L.disk_faults old
  pub count : (L.link old).faults ≤ (L.link new).faults
  pub cause : IsErrOf result faults.Link → Rose (L.link old).faults (L.link new).faults
  pub unfailed : (IsErrOf result faults.Link → ⊥) → (L.link new).faults ≡ (L.link old).faults
  pub honest : L.tells_server → (at : ℕ) → IsErrOf result (faults.BadReply (whys.At at)) → ⊥

-- and of one that leaves the link alone, where it accuses the disk in this case
pub record AccusesDisk {Self : Type 0} (D : Ghosts Self) (old new : Self) (accused : Type 0) : Type 0 where
  pub link : D.link new ≡ D.link old
  pub count : D.disk_faults old ≤ D.disk_faults new
  pub cause : accused → Rose (D.disk_faults old) (D.disk_faults new)
  pub unfailed : (accused → ⊥) → D.disk_faults new ≡ D.disk_faults old

-- One connection is made at most: what was sent before stands in front of what was sent earlier, or that is as it was.
abbrev pub ConnectsOnce : LinkState → LinkState → Type 0
ConnectsOnce old new = (new.earlier ≡ old.earlier) ⊎ (new.earlier ≡ old.sent ∷ old.earlier)

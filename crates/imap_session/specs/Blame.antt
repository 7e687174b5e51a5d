-- Whom a call blames that uses a link.
use Rattle.std.specs.Prelude.{◌≡◌, ◌≤◌, Result, IsErrOf}
use Rattle.world_traits.specs.Calls.{Rose}
use Rattle.world_traits.specs.declared.clocked.Clocked.{Ghosts}
use Rattle.imap_session.specs.declared.fault.SessionFault.{SessionFault}
use Rattle.imap_session.specs.declared.fault.SessionFault.TheVariants as faults

-- No fault of the disk is counted. The link's faults never become fewer; where the link is blamed one more is counted, and else none.
pub record Blames {Self T : Type 0} (L : Ghosts Self) (old new : Self) (result : Result T SessionFault) : Type 0 where
  pub disk : L.disk_faults new ≡ L.disk_faults old
  pub count : (L.link old).faults ≤ (L.link new).faults
  pub cause : IsErrOf result faults.Link → Rose (L.link old).faults (L.link new).faults
  pub unfailed : (IsErrOf result faults.Link → ⊥) → (L.link new).faults ≡ (L.link old).faults

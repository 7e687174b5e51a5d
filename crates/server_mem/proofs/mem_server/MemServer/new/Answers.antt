use Rattle.std.proofs.Common.{subst, sym}
use Rattle.imap_model.specs.WellFormed.{IsWellFormed}
use Rattle.server_mem.proofs.AtomNames.{atoms_of}
use Rattle.server_mem.proofs.Welling.{into_well}
use Rattle.server_mem.proofs.mem_server.MemServer.new.Goals as goal

pub invariant_of-result : goal.invariant_of-result
invariant_of-result c = (
  into_well c.of.result (subst IsWellFormed (sym c.of.ensures) c.requires),
  (atoms_of c.in_ok-atoms.field-0 c.as_slice.result.now c.in_ok-atoms.ensures.value, tt),
)

use Rattle.server_mem.proofs.Denying.{denies_exactly}
use Rattle.server_mem.proofs.laws.denies_exactly.Goals as goal

pub returns : goal.returns
returns c = denies_exactly

use Rattle.store_core.proofs.Anew.{well_second}
use Rattle.store_core.proofs.store.Store.restated_size.Goals as goal

pub restated_size-requires : goal.restated_size-requires
restated_size-requires c = well_second c.self.inside.journal.version _ c.self.invariant.1

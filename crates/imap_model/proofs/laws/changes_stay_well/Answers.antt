use Rattle.imap_model.proofs.Evolution.{changes_stay, batches_stay}
use Rattle.imap_model.proofs.laws.changes_stay_well.Goals as goal

pub returns-clause-one : goal.returns-clause-one
returns-clause-one c = changes_stay

pub returns-clause-all : goal.returns-clause-all
returns-clause-all c = batches_stay

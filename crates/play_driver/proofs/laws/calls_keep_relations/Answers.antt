use Rattle.play_driver.proofs.Calls.{recording_keeps, opening_keeps, stop_keeps, link_keeps}
use Rattle.play_driver.proofs.laws.calls_keep_relations.Goals as goal

pub returns-clause-recording : goal.returns-clause-recording
returns-clause-recording g c = recording_keeps g.R.Related.ledger g.R.Related.relation

pub returns-clause-opening : goal.returns-clause-opening
returns-clause-opening g c = opening_keeps g.R.Related.ledger g.R.Related.relation

pub returns-clause-stopping : goal.returns-clause-stopping
returns-clause-stopping g c = stop_keeps g.R.Related.ledger g.R.Related.relation

pub returns-clause-linking : goal.returns-clause-linking
returns-clause-linking g c = link_keeps g.R.Related.ledger g.R.Related.relation g.R.Related.moves

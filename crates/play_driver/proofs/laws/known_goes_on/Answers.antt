use Rattle.play_driver.proofs.KnownLaws.{known_law}
use Rattle.play_driver.proofs.PlayedKept.{withstood}
use Rattle.play_driver.proofs.laws.known_goes_on.Goals as goal

pub returns-clause-knows : goal.returns-clause-knows
returns-clause-knows c = known_law

pub returns-clause-withstands : goal.returns-clause-withstands
returns-clause-withstands c = withstood

use Rattle.play_driver.proofs.KnownLaws.{level_law}
use Rattle.play_driver.proofs.Learned.{learns_faultless, link_faultless, link_levels}
use Rattle.play_driver.proofs.laws.resyncs_level.Goals as goal

pub returns-clause-over_link : goal.returns-clause-over_link
returns-clause-over_link c = link_levels

pub returns-clause-faultless : goal.returns-clause-faultless
returns-clause-faultless c = link_faultless

pub returns-clause-beside_book : goal.returns-clause-beside_book
returns-clause-beside_book c = level_law

pub returns-clause-faultless_beside_book : goal.returns-clause-faultless_beside_book
returns-clause-faultless_beside_book c = learns_faultless

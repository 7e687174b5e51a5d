use Rattle.qresync_core.proofs.MakerStands.{makes_told, judges_alike, empty_alike}
use Rattle.qresync_core.proofs.laws.maker_makes.Goals as goal

pub returns-clause-told : goal.returns-clause-told
returns-clause-told c kept made selected every all delta s a d = makes_told kept made selected every all s a delta d

pub returns-clause-fault : goal.returns-clause-fault
returns-clause-fault c kept made selected every all s a = judges_alike kept made selected every all s a

pub returns-clause-empty : goal.returns-clause-empty
returns-clause-empty c made selected s = empty_alike made selected s

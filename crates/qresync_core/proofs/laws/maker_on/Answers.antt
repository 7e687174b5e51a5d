use Rattle.qresync_core.proofs.MakerStands.{stands_on, stands_anew}
use Rattle.qresync_core.proofs.laws.maker_on.Goals as goal

pub returns-clause-on : goal.returns-clause-on
returns-clause-on c = stands_on

pub returns-clause-anew : goal.returns-clause-anew
returns-clause-anew c = stands_anew

use Rattle.mail_drill.proofs.NewWorld.{offers_first}
use Rattle.mail_drill.proofs.laws.offers_all.Goals as goal

pub returns : goal.returns
returns c = offers_first

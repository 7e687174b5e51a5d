use Rattle.mail_drill.proofs.ServedSteps.{serves_in_memory}
use Rattle.mail_drill.proofs.laws.serves_in_memory.Goals as goal

pub returns : goal.returns
returns c = serves_in_memory

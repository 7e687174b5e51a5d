use Rattle.imap_model.proofs.Effect.{carried_effect}
use Rattle.imap_model.proofs.laws.carried_effect.Goals as goal

pub returns : goal.returns
returns c = carried_effect

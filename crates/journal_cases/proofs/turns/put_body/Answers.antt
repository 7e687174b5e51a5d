use Rattle.journal_cases.proofs.FullBodies.{none_pushed}
use Rattle.journal_cases.proofs.turns.put_body.Goals as goal

pub returns : goal.returns
returns c = none_pushed _ _ _ c.requires.others c.requires.full c.in_ok-push.ensures.items

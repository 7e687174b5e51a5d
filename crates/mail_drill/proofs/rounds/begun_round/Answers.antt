use Rattle.mail_drill.proofs.LastRounds.{something_fails}
use Rattle.mail_drill.proofs.rounds.begun_round.Goals as goal

pub entered-requires-clause-fails : goal.entered-requires-clause-fails
entered-requires-clause-fails c = λ none. something_fails _ _ c.in_ok-plan.ensures none

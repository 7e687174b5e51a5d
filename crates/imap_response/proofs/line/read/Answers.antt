-- What is read is what the frame spells, by the laws of the definition.
use Rattle.imap_response.proofs.Answered.{given_spelled, given_within, given_alone, none_spelled, some_spelled, none_within}
use Rattle.imap_response.proofs.line.read.Goals as goal

pub returns-clause-spelled : goal.returns-clause-spelled
returns-clause-spelled c = given_spelled _ _ _ c.answered.ensures.exact

pub returns-clause-limited : goal.returns-clause-limited
returns-clause-limited c = given_within _ _ _ c.answered.ensures.exact

pub returns-clause-alone : goal.returns-clause-alone
returns-clause-alone c = given_alone _ _ _ c.answered.ensures.exact

pub returns-clause-bad_form : goal.returns-clause-bad_form
returns-clause-bad_form c = none_spelled _ _ _ c.answered.ensures.exact

pub returns-clause-too_large : goal.returns-clause-too_large
returns-clause-too_large c = some_spelled _ _ _ c.answered.ensures.exact

pub returns-clause-none_within : goal.returns-clause-none_within
returns-clause-none_within c = none_within _ _ _ c.answered.ensures.exact

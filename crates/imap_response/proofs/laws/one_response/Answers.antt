-- The laws, from the two directions of reading.
use Rattle.imap_response.proofs.spelling.Whole.{reads_as_spelled, within_gives, one_response, no_front}
use Rattle.imap_response.proofs.laws.one_response.Goals as goal

pub returns-clause-read : goal.returns-clause-read
returns-clause-read c = reads_as_spelled

pub returns-clause-within : goal.returns-clause-within
returns-clause-within c = within_gives

pub returns-clause-one : goal.returns-clause-one
returns-clause-one c = one_response

pub returns-clause-front : goal.returns-clause-front
returns-clause-front c = no_front

use Rattle.mail_header.proofs.Joined.{together, apart}
use Rattle.mail_header.proofs.laws.lines_are_the_text.Goals as goal

pub returns-clause-together : goal.returns-clause-together
returns-clause-together c = together

pub returns-clause-apart : goal.returns-clause-apart
returns-clause-apart c = apart

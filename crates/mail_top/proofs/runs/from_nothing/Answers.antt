use Rattle.mail_top.proofs.FirstRuns.{kept_first, ready_first, kept_from_nothing, ready_from_nothing, once_from_nothing, owned_from_nothing}
use Rattle.mail_top.proofs.runs.from_nothing.Goals as goal

pub returns-clause-begins : goal.returns-clause-begins
returns-clause-begins c = λ first new. (kept_first first new, ready_first first new)

pub returns-clause-kept : goal.returns-clause-kept
returns-clause-kept c = λ first last new follows. (kept_from_nothing first new last follows, ready_from_nothing first new last follows)

pub returns-clause-twice : goal.returns-clause-twice
returns-clause-twice c = λ first last new follows. once_from_nothing first new last follows

pub returns-clause-owned : goal.returns-clause-owned
returns-clause-owned c = λ first last new follows. owned_from_nothing first new last follows

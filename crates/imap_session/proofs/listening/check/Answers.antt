use Rattle.std.proofs.Common.{rules}
use Rattle.imap_session.proofs.Hearing.{nothing_pushed, pushed_nothing}
use Rattle.imap_session.proofs.listening.check.Goals as goal

pub returns-in-Ok-clause-kept : goal.returns-in-Ok-clause-kept
returns-in-Ok-clause-kept c = pushed_nothing _ _ c.in-Ok.ensures.done.0

pub returns-in-Err-clause-kept : goal.returns-in-Err-clause-kept
returns-in-Err-clause-kept c = nothing_pushed _ _ c.in-Err.fault (λ is. (c.push.ensures.kept (search rules)).0)
    (λ other bad. (c.push.ensures.again other bad).1) c.in-Err.ensures.first

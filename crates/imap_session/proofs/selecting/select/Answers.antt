use Rattle.imap_session.proofs.Taken.{gathered, gathered_permits}
use Rattle.imap_session.proofs.selecting.select.Goals as goal

pub returns-clause-replied : goal.returns-clause-replied
returns-clause-replied g c =
    let h = c.in_ok-answer.ensures.heard in
    gathered g.L.Clocked _ _ _ _ _ _ _ _ h.0 _ h.1 c.new-gather.ensures _ c.replies-replies.ensures

pub returns-clause-permits : goal.returns-clause-permits
returns-clause-permits g c =
    let h = c.in_ok-answer.ensures.heard in
    gathered_permits g.L.Clocked _ _ _ _ _ _ _ _ h.0 _ h.1 c.new-gather.ensures _ c.replies-replies.ensures _ h.2

use Rattle.imap_session.proofs.Taken.{gathered}
use Rattle.imap_session.proofs.chosen.Chosen.ask.Goals as goal

pub returns-clause-replied : goal.returns-clause-replied
returns-clause-replied g c =
    let h = c.in_ok-answer.ensures.heard in
    gathered g.L.Clocked _ _ _ _ _ _ _ _ h.0 _ h.1 c.new-gather.ensures _ c.replies-replies.ensures

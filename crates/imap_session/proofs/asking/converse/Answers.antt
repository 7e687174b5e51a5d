use Rattle.imap_session.proofs.asking.converse.Goals as goal

pub returns-clause-still : goal.returns-clause-still
returns-clause-still g c = λ t.
    let f = c.requires.follows t in
    (_, (c.in_ok-answer.ensures.heard.1.reply.came t f.0 f.1).hears)

pub returns-clause-heard : goal.returns-clause-heard
returns-clause-heard g c = let h = c.in_ok-answer.ensures.heard in (h.0, h.1)

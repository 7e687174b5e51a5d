use Rattle.std.proofs.Common.{Some}
use Rattle.imap_session.proofs.Counting.{has_tag}
use Rattle.imap_session.proofs.Sending.{asked_keeps, stands_kept}
use Rattle.imap_session.proofs.chosen.Chosen.ask_into.Goals as goal

pub exchange-requires-clause-writable : goal.exchange-requires-clause-writable
exchange-requires-clause-writable g c = record { tagged = has_tag _ _ _ c.requires.tagged; carried = c.requires.carried }

pub exchange-requires-clause-keeps : goal.exchange-requires-clause-keeps
exchange-requires-clause-keeps g c = λ parts. asked_keeps c.args.command.now c.requires.asked

pub returns-clause-stands : goal.returns-clause-stands
returns-clause-stands g c = λ t. stands_kept _ _ _ _ _ _ (c.in_ok-answer.ensures.heard.1.reply.answered t (Some _) (c.requires.stands t)) c.requires.asked

pub returns-clause-still : goal.returns-clause-still
returns-clause-still g c = λ t.
    let f = c.requires.follows t in
    (_, (c.in_ok-answer.ensures.heard.1.reply.came t f.0 f.1).hears)

pub returns-clause-heard : goal.returns-clause-heard
returns-clause-heard g c = let h = c.in_ok-answer.ensures.heard in (h.0, h.1)

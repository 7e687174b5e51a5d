use Rattle.std.proofs.Common.{[]}
use Rattle.imap_session.specs.Replying.{read_as}
use Rattle.imap_session.proofs.Offering.{offered_as}
use Rattle.imap_session.proofs.login.ask_offer.Goals as goal

pub returns-clause-replied : goal.returns-clause-replied
returns-clause-replied g c =
    let h = c.in_ok-last.ensures.heard in
    let last = c.in_ok-last.last in
    (read_as h.0 last.ending last.code, offered_as _ _ h.0 last.code (h.1.taken [] c.new-offer.ensures) c.behind_code.ensures, h.1.reply)

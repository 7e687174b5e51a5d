use Rattle.std.proofs.Common.{[]}
use Rattle.imap_session.specs.Replying.{read_as}
use Rattle.imap_session.proofs.login.ask_enabled.Goals as goal

pub returns-clause-replied : goal.returns-clause-replied
returns-clause-replied g c =
    let h = c.in_ok-converse.ensures.heard in
    let last = c.in_ok-converse.field-0 in
    (read_as h.0 last.ending last.code, h.1.taken [] c.new-enabled.ensures, h.1.reply)

use Rattle.std.proofs.Common.{◌||◌, ◌∙◌, Bool, ap, codes, sym}
use Rattle.imap_session.specs.Enabled.{tells_enabled}
use Rattle.imap_session.proofs.Offering.{enabled_more}
use Rattle.imap_session.proofs.enabled.EnabledListen.take.Goals as goal

pub returns-clause-taken : goal.returns-clause-taken
returns-clause-taken c = λ list is.
    c.behind-self.ensures ∙ ap (λ (x : Bool). x || tells_enabled (codes "QRESYNC") c.args.response) is
    ∙ sym (enabled_more (codes "QRESYNC") list c.args.response)

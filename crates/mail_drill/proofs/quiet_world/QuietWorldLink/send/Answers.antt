use Rattle.mail_drill.proofs.OwnCalls.{quiet_link, send_alone, still_alone}
use Rattle.mail_drill.proofs.ServedCalls.{send_served, still_served}
use Rattle.mail_drill.proofs.quiet_world.QuietWorldLink.send.Goals as goal

pub invariant_of-self-clause-alone : goal.invariant_of-self-clause-alone
invariant_of-self-clause-alone c =
    let was = c.args.self.now in
    let new = c.send-sent.new.self in
    let call = c.send-sent.ensures in
    let quiet = quiet_link was.world new call.called.next was.quiet in
    still_alone was.short c.is_wanting-self.result was.world new c.is_wanting-self.ensures was.alone
    (λ none own. send_alone was.world new quiet none own c.send-sent.result c.args.bytes.now call.hears call.downed call.unheard
    call.called.exact call.called.stopped)

pub invariant_of-self-clause-served : goal.invariant_of-self-clause-served
invariant_of-self-clause-served c =
    let was = c.args.self.now in
    let new = c.send-sent.new.self in
    let call = c.send-sent.ensures in
    let quiet = quiet_link was.world new call.called.next was.quiet in
    still_served was.short c.is_wanting-self.result was.world new c.is_wanting-self.ensures was.served
    (λ none is. send_served was.world new quiet none call.files is c.requires.there.0 c.requires.there.1 c.send-sent.result c.args.bytes.now
    call.hears call.downed call.called)

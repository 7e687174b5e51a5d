use Rattle.mail_drill.proofs.OwnCalls.{connect_alone, quiet_link, still_alone}
use Rattle.mail_drill.proofs.ServedCalls.{connect_served, still_served}
use Rattle.mail_drill.proofs.quiet_world.QuietWorldLink.connect.Goals as goal

pub invariant_of-self-clause-alone : goal.invariant_of-self-clause-alone
invariant_of-self-clause-alone c =
    let was = c.args.self.now in
    let new = c.connect-connected.new.self in
    let call = c.connect-connected.ensures in
    let quiet = quiet_link was.world new call.called.next was.quiet in
    still_alone was.short c.is_wanting-self.result was.world new c.is_wanting-self.ensures was.alone
    (λ none own. connect_alone was.world new quiet none own c.connect-connected.result call.connects call.loses call.called.exact
    call.called.stopped)

pub invariant_of-self-clause-served : goal.invariant_of-self-clause-served
invariant_of-self-clause-served c =
    let was = c.args.self.now in
    let new = c.connect-connected.new.self in
    let call = c.connect-connected.ensures in
    let quiet = quiet_link was.world new call.called.next was.quiet in
    still_served was.short c.is_wanting-self.result was.world new c.is_wanting-self.ensures was.served
    (λ none is. connect_served was.world new quiet none call.files c.connect-connected.result call.connects call.loses call.line call.called is)

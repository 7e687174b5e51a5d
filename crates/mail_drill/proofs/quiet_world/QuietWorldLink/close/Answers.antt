use Rattle.mail_drill.proofs.OwnCalls.{close_alone, quiet_link, still_alone}
use Rattle.mail_drill.proofs.ServedCalls.{close_served, still_served}
use Rattle.mail_drill.proofs.quiet_world.QuietWorldLink.close.Goals as goal

pub invariant_of-self-clause-alone : goal.invariant_of-self-clause-alone
invariant_of-self-clause-alone c =
    let was = c.args.self.now in
    let new = c.close.new.self in
    let call = c.close.ensures in
    let quiet = quiet_link was.world new call.next was.quiet in
    still_alone was.short c.is_wanting-self.result was.world new c.is_wanting-self.ensures was.alone
    (λ none own. close_alone was.world new quiet none own call.run call.stopped)

pub invariant_of-self-clause-served : goal.invariant_of-self-clause-served
invariant_of-self-clause-served c =
    let was = c.args.self.now in
    let new = c.close.new.self in
    let call = c.close.ensures in
    let quiet = quiet_link was.world new call.next was.quiet in
    still_served was.short c.is_wanting-self.result was.world new c.is_wanting-self.ensures was.served
    (λ none is. close_served was.world new quiet none call.files call.run call.stopped call.ended call.next call.disk call.count is)

use Rattle.world_mem.specs.Worlds.{connection_at, run_in}
use Rattle.mail_drill.proofs.OwnCalls.{quiet_link, recv_alone, still_alone}
use Rattle.mail_drill.proofs.ServedCalls.{due_there, recv_served, still_served}
use Rattle.mail_drill.proofs.quiet_world.QuietWorldLink.recv.Goals as goal

pub invariant_of-self-clause-alone : goal.invariant_of-self-clause-alone
invariant_of-self-clause-alone c =
    let was = c.args.self.now in
    let new = c.recv-received.new.self in
    let call = c.recv-received.ensures in
    let quiet = quiet_link was.world new call.called.next was.quiet in
    still_alone was.short c.is_wanting-self.result was.world new c.is_wanting-self.ensures was.alone
    (λ none own. recv_alone was.world new quiet none own c.recv-received.result call.run call.loses call.called.stopped)

pub invariant_of-self-clause-served : goal.invariant_of-self-clause-served
invariant_of-self-clause-served c =
    let was = c.args.self.now in
    let new = c.recv-received.new.self in
    let call = c.recv-received.ensures in
    let quiet = quiet_link was.world new call.called.next was.quiet in
    still_served was.short c.is_wanting-self.result was.world new c.is_wanting-self.ensures was.served
    (λ none is.
    let due = due_there (run_in was.world).clock.now.outside (connection_at was.world) c.requires.due in
    recv_served was.world new quiet none call.files is due.0 due.1 due.2 c.recv-received.result call.run call.loses call.called)

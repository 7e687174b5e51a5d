use Rattle.world_mem.specs.Worlds.{run_in}
use Rattle.mail_drill.proofs.OwnCalls.{still_alone, write_alone}
use Rattle.mail_drill.proofs.ServedCalls.{disk_served, still_served, write_time}
use Rattle.mail_drill.proofs.quiet_world.QuietWorldDisk.write_at.Goals as goal

pub invariant_of-self-clause-alone : goal.invariant_of-self-clause-alone
invariant_of-self-clause-alone c =
    let was = c.args.self.now in
    let new = c.write_at-written.new.self in
    let call = c.write_at-written.ensures in
    still_alone was.short c.is_wanting-self.result was.world new c.is_wanting-self.ensures was.alone
    (λ none own. write_alone c.args.side c.args.at c.args.bytes.now (run_in was.world) (run_in new) c.write_at-written.result
    call.told call.failed own.moments)

pub invariant_of-self-clause-served : goal.invariant_of-self-clause-served
invariant_of-self-clause-served c =
    let was = c.args.self.now in
    let new = c.write_at-written.new.self in
    let call = c.write_at-written.ensures in
    still_served was.short c.is_wanting-self.result was.world new c.is_wanting-self.ensures was.served
    (λ none is. disk_served was.world new none c.write_at-written.result call.called call.called.server
    (write_time c.args.side c.args.at c.args.bytes.now (run_in was.world) (run_in new) c.write_at-written.result call.told call.failed) call.unfailed is)

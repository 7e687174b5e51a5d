use Rattle.world_mem.specs.Worlds.{run_in}
use Rattle.mail_drill.proofs.OwnCalls.{still_alone, sync_alone}
use Rattle.mail_drill.proofs.ServedCalls.{disk_served, still_served, sync_time}
use Rattle.mail_drill.proofs.quiet_world.QuietWorldDisk.sync.Goals as goal

pub invariant_of-self-clause-alone : goal.invariant_of-self-clause-alone
invariant_of-self-clause-alone c =
    let was = c.args.self.now in
    let new = c.sync-synced.new.self in
    let call = c.sync-synced.ensures in
    still_alone was.short c.is_wanting-self.result was.world new c.is_wanting-self.ensures was.alone
    (λ none own. sync_alone c.args.side (run_in was.world) (run_in new) c.sync-synced.result call.told call.failed own.moments)

pub invariant_of-self-clause-served : goal.invariant_of-self-clause-served
invariant_of-self-clause-served c =
    let was = c.args.self.now in
    let new = c.sync-synced.new.self in
    let call = c.sync-synced.ensures in
    still_served was.short c.is_wanting-self.result was.world new c.is_wanting-self.ensures was.served
    (λ none is. disk_served was.world new none c.sync-synced.result call.called call.called.server
    (sync_time c.args.side (run_in was.world) (run_in new) c.sync-synced.result call.told call.failed) call.unfailed is)

use Rattle.std.proofs.Common.{◌≡◌, inl, true, sym, ap, subst}
use Rattle.world_mem.specs.Running.{Run}
use Rattle.mail_drill.specs.Alone.{is_alone}
use Rattle.mail_drill.proofs.OwnCalls.{still_alone}
use Rattle.mail_drill.proofs.ServedCalls.{disk_served, still_served}
use Rattle.mail_drill.proofs.quiet_world.QuietWorldDisk.read.Goals as goal

pub invariant_of-self-clause-alone : goal.invariant_of-self-clause-alone
invariant_of-self-clause-alone c =
    let was = c.args.self.now in
    let call = c.read-told.ensures in
    still_alone was.short c.is_wanting-self.result was.world c.read-told.new.self c.is_wanting-self.ensures was.alone
    (λ none own. subst (λ (r : Run). is_alone r.clock ≡ true) (sym call.same) own.moments)

pub invariant_of-self-clause-served : goal.invariant_of-self-clause-served
invariant_of-self-clause-served c =
    let was = c.args.self.now in
    let new = c.read-told.new.self in
    let call = c.read-told.ensures in
    still_served was.short c.is_wanting-self.result was.world new c.is_wanting-self.ensures was.served
    (λ none is. disk_served was.world new none c.read-told.result call.called call.called.server (inl (ap (λ (r : Run). r.clock) call.same)) call.unfailed is)

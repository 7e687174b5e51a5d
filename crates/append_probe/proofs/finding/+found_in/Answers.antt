-- Both halves are the whole.
use Rattle.std.proofs.Common.{List}
use Rattle.std.proofs.lemmas.Result.{IfOk-weaker}
use Rattle.uid_sets.specs.declared.uid.UidRange.{UidRange}
use Rattle.append_probe.proofs.Halves.{two_found}
use Rattle.append_probe.proofs.finding.+found_in.Goals as goal

pub returns-in_ok-found_in-in_default-2 : goal.returns-in_ok-found_in-in_default-2
returns-in_ok-found_in-in_default-2 n c =
    IfOk-weaker c.union-in_default-2.result _ _
    (λ (both : List UidRange) m.
    two_found c.args.told.now c.split_at.result.0.now c.split_at.result.1.now _ c.in_ok-found_in-in_default.field-0
    c.in_ok-found_in-in_default-2.field-0 both
    c.split_at.ensures.front c.split_at.ensures.back c.in_ok-found_in-in_default.ensures c.in_ok-found_in-in_default-2.ensures m)
    c.union-in_default-2.ensures.members

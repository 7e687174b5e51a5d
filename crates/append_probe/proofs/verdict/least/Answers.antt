-- The low end of the first range.
use Rattle.std.proofs.Common.{ℕ, ◌≤◌, List, sym, ◌∙◌, ap, subst}
use Rattle.std.specs.Prelude.{slice_get}
use Rattle.std.proofs.lemmas.Option.{IfSome_then}
use Rattle.uid_sets.specs.UidSet.{Member}
use Rattle.uid_sets.specs.declared.uid.UidRange.{UidRange}
use Rattle.append_probe.proofs.Leasts.{least_of}
use Rattle.append_probe.proofs.verdict.least.Goals as goal

pub returns-clause-some : goal.returns-clause-some
returns-clause-some c =
    IfSome_then c.new.result c.new.ensures.value
    (λ (uid : ℕ) e. subst (λ (n : ℕ). Member c.args.set.now n × ((other : ℕ) → Member c.args.set.now other → n ≤ other)) (sym e)
    (least_of c.args.set.now c.in_ok-range.range.now c.ranges-2.ensures.canonical
    (ap (λ (set : List UidRange). slice_get set 0) (sym c.ranges-2.ensures.value) ∙ sym c.in_ok-range.ensures.value)))

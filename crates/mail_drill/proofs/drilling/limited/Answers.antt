-- The line is the one that was printed.
use Rattle.std.proofs.Common.{ℕ, List, sym, subst}
use Rattle.mail_drill.specs.Held.{PassesLimit}
use Rattle.mail_drill.proofs.drilling.limited.Goals as goal

pub returns : goal.returns
returns c = λ task passes.
    subst (λ (text : List ℕ). PassesLimit task.size task.seed c.args.world.value.world text) (sym c.in_ok-line.ensures) passes

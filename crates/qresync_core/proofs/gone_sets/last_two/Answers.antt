-- The last set, and the one before it.
use Rattle.std.proofs.Common.{◌∙◌, ap, ◌++◌, ◌∷◌, [], List}
use Rattle.qresync_core.specs.declared.gone_sets.Lines.{Lines}
use Rattle.qresync_core.proofs.GoneSets.{union_has}
use Rattle.qresync_core.proofs.LineSets.{two_joined}
use Rattle.qresync_core.proofs.gone_sets.last_two.Goals as goal

pub returns-clause-same : goal.returns-clause-same
returns-clause-same c =
    let last = c.in_ok-last.last.now in
    two_joined c.args.sets.now c.in_ok-before.field-0-1.now c.in_ok-before.before.now last _
    (c.in_ok-last.ensures.cases.0 ∙ ap (λ (front : List Lines). front ++ last ∷ []) c.in_ok-before.ensures.cases.0)
    (λ uid. union_has c.in_ok-before.before.now.uids last.uids c.in-Ok.uids uid (c.in-Ok.ensures.members uid))

use Rattle.std.proofs.Common.{◌≡◌, ◌∙◌, take, arith}
use Rattle.std.proofs.lemmas.Grind.{common_steps}
use Rattle.journal_core.proofs.Looking.{looks}
use Rattle.journal_core.proofs.Few.{all_there}
use Rattle.journal_core.proofs.reading.read_up_to.Goals as goal

pub returns-in_err-count-clause-told : goal.returns-in_err-count-clause-told
returns-in_err-count-clause-told g c tells = looks _ _ _ _ (c.read.ensures.told tells)

pub returns-clause-value : goal.returns-clause-value
returns-clause-value g c tells =
    let body : c.of.result ≡ take c.in_ok-count.count c.read.new.into = grind (arith, common_steps) in
    all_there _ _ _ _ _ _ _ (c.deref_mut.ensures.len ∙ c.in_ok-resize.ensures.len) (c.in_ok-count.ensures.value tells) body (c.in_ok-count.ensures.bytes tells)

pub returns-clause-told : goal.returns-clause-told
returns-clause-told g c tells = looks _ _ _ _ (c.in_ok-count.ensures.told tells)

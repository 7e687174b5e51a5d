use Rattle.std.specs.Prelude.{codes}
use Rattle.response_lines.proofs.LineSpelled.{capability_spelled}
use Rattle.response_lines.proofs.WriteSteps.{last_words, on_ok}
use Rattle.response_lines.proofs.line.put_capability.Goals as goal

pub returns-clause-text : goal.returns-clause-text
returns-clause-text c = last_words c.put_words.result c.args.out.now.items
    (codes "* CAPABILITY") _ _ c.as_slice.result.now c.args.words.now c.as_slice.ensures c.in_ok-put.ensures c.put_words.ensures

pub returns-clause-spelled : goal.returns-clause-spelled
returns-clause-spelled c = on_ok c.put_words.result _ (capability_spelled c.args.words.now c.requires.0 c.requires.1)

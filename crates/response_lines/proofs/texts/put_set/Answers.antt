use Rattle.std.proofs.Common.{◌∙◌, sym, refl}
use Rattle.uid_sets.specs.Spelling.{set_text}
use Rattle.response_lines.proofs.WriteSteps.{none_here}
use Rattle.response_lines.proofs.texts.put_set.Goals as goal

pub returns-then-is_empty-clause-text : goal.returns-then-is_empty-clause-text
returns-then-is_empty-clause-text c =
    none_here c.args.out.now.items set_text c.ranges-2.result.now c.args.uids.now refl c.ranges-2.ensures.value
    (sym c.is_empty.ensures ∙ c.if-is_empty.true)

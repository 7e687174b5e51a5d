use Rattle.std.proofs.Common.{◌∙◌, sym, refl}
use Rattle.flag_set.specs.FlagText.{list_text}
use Rattle.response_lines.proofs.WriteSteps.{none_here}
use Rattle.response_lines.proofs.texts.put_flags.Goals as goal

pub returns-then-is_empty-clause-text : goal.returns-then-is_empty-clause-text
returns-then-is_empty-clause-text c = none_here c.args.out.now.items list_text c.keys.result.now c.args.flags.now refl c.keys.ensures.value
    (sym c.is_empty.ensures ∙ c.if-is_empty.true)

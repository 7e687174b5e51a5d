use Rattle.response_lines.proofs.WriteSteps.{joined_if}
use Rattle.response_lines.proofs.texts.put.Goals as goal

pub returns : goal.returns
returns c = joined_if c.extend_from_slice.result c.extend_from_slice.new.self.items c.args.out.now.items c.args.text.now c.extend_from_slice.ensures.items

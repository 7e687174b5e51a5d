use Rattle.command_texts.proofs.TextsCut.{part_of_text}
use Rattle.command_texts.proofs.laws.texts_are_cut.Goals as goal

pub returns : goal.returns
returns c = part_of_text

use Rattle.command_texts.proofs.TextFronts.{no_text_is_a_front}
use Rattle.command_texts.proofs.laws.no_text_is_a_front.Goals as goal

pub returns : goal.returns
returns c = no_text_is_a_front

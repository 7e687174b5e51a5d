use Rattle.command_texts.proofs.TextFronts.{first_parts_tell_tags}
use Rattle.command_texts.proofs.laws.first_parts_tell_tags.Goals as goal

pub returns : goal.returns
returns c = first_parts_tell_tags

use Rattle.std.proofs.Common.{ap, Some}
use Rattle.command_texts.proofs.NameReading.{kept_name}
use Rattle.command_texts.proofs.reading.names.name_of.Goals as goal

pub returns-in-Ok : goal.returns-in-Ok
returns-in-Ok c = λ name is same. ap Some (kept_name _ name _ is same c.in-Ok.ensures.value)

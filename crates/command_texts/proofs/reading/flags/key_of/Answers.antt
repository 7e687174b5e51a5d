use Rattle.std.proofs.Common.{ap, Some}
use Rattle.command_texts.proofs.Outcomes.{only_err}
use Rattle.command_texts.proofs.FlagReading.{key_read, key_fault}
use Rattle.command_texts.proofs.reading.flags.key_of.Goals as goal

pub returns-in-Ok : goal.returns-in-Ok
returns-in-Ok c = λ key is same. ap Some (key_read key _ _ is same c.in-Ok.ensures.value)

pub returns-in-Err : goal.returns-in-Err
returns-in-Err c = λ key is same. only_err _ _ (c.refused.ensures (key_fault key _ _ is same c.in-Err.ensures.refused))

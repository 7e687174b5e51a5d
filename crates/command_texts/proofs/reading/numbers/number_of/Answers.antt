use Rattle.std.proofs.Common.{arith}
use Rattle.command_texts.proofs.NumberReading.{is_number}
use Rattle.command_texts.proofs.reading.numbers.number_of.Goals as goal

pub returns-in-Ok : goal.returns-in-Ok
returns-in-Ok c = λ n fits is. let e = (c.in-Ok.ensures.value n).1 (is_number 4294967295 n _ (omega (arith, fits)) (omega (arith, fits)) is) in cc

pub returns-in-Err : goal.returns-in-Err
returns-in-Err c = λ n fits is. absurd (let e = (c.in-Err.ensures.value n).1 (is_number 4294967295 n _ (omega (arith, fits)) (omega (arith, fits)) is) in cc)

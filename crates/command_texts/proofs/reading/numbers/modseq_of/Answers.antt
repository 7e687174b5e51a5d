use Rattle.std.proofs.Common.{arith}
use Rattle.command_texts.proofs.NumberReading.{is_number}
use Rattle.command_texts.proofs.reading.numbers.modseq_of.Goals as goal

pub returns-in-Ok : goal.returns-in-Ok
returns-in-Ok c = λ n held is. let e = (c.in-Ok.ensures.value n).1
    (is_number 9223372036854775807 n _ (omega (arith, held.fits)) (omega (arith, held.fits)) is, held.positive) in cc

pub returns-in-Err : goal.returns-in-Err
returns-in-Err c = λ n held is. absurd (let e = (c.in-Err.ensures.value n).1
    (is_number 9223372036854775807 n _ (omega (arith, held.fits)) (omega (arith, held.fits)) is, held.positive) in cc)

use Rattle.std.proofs.Common.{◌∙◌, ap, Some}
use Rattle.cases.proofs.NumberReading.{is_utf8, parsed, not_parsed}
use Rattle.cases.proofs.numbers.parsed.Goals as goal

pub returns-in_default : goal.returns-in_default
returns-in_default c = λ n fits is. absurd (c.in_default.ensures.cases.0 (is_utf8 n _ fits is))

pub returns-in-Ok-parse : goal.returns-in-Ok-parse
returns-in-Ok-parse c = λ n fits is. ap Some (parsed n _ _ fits (c.in-Ok.ensures.cases.0 ∙ is) c.in-Ok-parse.ensures.value.0.1)

pub returns-in-Err : goal.returns-in-Err
returns-in-Err c = λ n fits is. absurd (not_parsed n _ fits (c.in-Ok.ensures.cases.0 ∙ is) c.in-Err.ensures.value.0)

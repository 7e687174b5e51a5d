use Rattle.std.proofs.Common.{decimal, refl}
use Rattle.command_texts.proofs.Cuts.{digits_lack}
use Rattle.command_texts.proofs.ArgumentReading.{rest_same}
use Rattle.command_texts.proofs.reading.arguments.announced.Goals as goal

pub returns : goal.returns
returns c = λ n end fits is. c.octets_of.ensures n fits (c.until.ensures.cut (decimal n) end (digits_lack 125 n fits refl)
    (rest_same _ _ _ _ _ c.in_ok-brace.ensures.cases is)).0

use Rattle.command_texts.proofs.AccountReading.{decodes}
use Rattle.command_texts.proofs.reading.accounts.decoded.Goals as goal

pub returns-in-Ok : goal.returns-in-Ok
returns-in-Ok c = λ bytes all is. let e = decodes bytes _ all is in let told = c.in-Ok.ensures.ok in cc

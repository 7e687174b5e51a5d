use Rattle.command_texts.proofs.ArgumentReading.{end_is, end_there}
use Rattle.command_texts.proofs.reading.arguments.bare_len.Goals as goal

pub returns-in-Some-clause-value : goal.returns-in-Some-clause-value
returns-in-Some-clause-value c = λ bytes rest all ends is. end_is _ _ bytes rest all ends is c.in-Some.ensures

pub returns-in-None-clause-value : goal.returns-in-None-clause-value
returns-in-None-clause-value c = λ bytes rest all ends is. absurd (end_there _ bytes rest all ends is c.in-None.ensures)

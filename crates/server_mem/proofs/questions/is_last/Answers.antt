use Rattle.std.proofs.Common.{◌∙◌}
use Rattle.server_mem.proofs.Lasting.{is_the_last}
use Rattle.server_mem.proofs.questions.is_last.Goals as goal

pub returns-in-Some : goal.returns-in-Some
returns-in-Some c = c.eq.ensures ∙ is_the_last c.args.uid c.args.messages.now c.in-Some.message.now c.in-Some.ensures.value

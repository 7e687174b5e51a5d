-- The codes that were told before, and that of the completion.
use Rattle.std.proofs.Common.{◌∙◌, ap}
use Rattle.qresync_core.specs.Hearing.{numbers_told}
use Rattle.qresync_core.proofs.MakerStands.{codes_of_replies}
use Rattle.qresync_core.proofs.maker.DeltaMaker.codes.Goals as goal

pub returns-clause-told : goal.returns-clause-told
returns-clause-told c = λ selected stands code.
    c.numbers.ensures ∙ ap numbers_told c.hear.ensures ∙ codes_of_replies c.args.self.now c.args.last.now.code selected stands code

use Rattle.std.proofs.Common.{[], ◌∷◌, ◌∙◌, ap}
use Rattle.command_texts.proofs.FrontReading.{message_is}
use Rattle.command_texts.proofs.reading.fronts.append_front.Goals as goal

pub returns : goal.returns
returns c = λ awaited later held kind is.
    message_is awaited c.args.text.now later _ held kind is
    (λ to flags n name set fits text. c.append_begun.ensures to flags n name set fits (ap (λ x. x ∷ []) c.behind.ensures ∙ text))

use Rattle.std.proofs.Common.{◌∙◌}
use Rattle.command_texts.proofs.FrontReading.{id_is}
use Rattle.command_texts.proofs.reading.fronts.search_front.Goals as goal

pub returns : goal.returns
returns c = λ awaited later held kind is.
    id_is awaited c.args.text.now later _ held kind is (λ from n nonzero count text. c.search_begun.ensures from n nonzero count (c.behind.ensures ∙ text))

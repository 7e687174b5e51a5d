use Rattle.command_texts.specs.Renumbered.{announced}
use Rattle.command_texts.proofs.Renumbering.{ok_also}
use Rattle.command_texts.proofs.reading.written.announcing.Goals as goal

pub returns : goal.returns
returns c = ok_also c.with_header.result _ _
    (λ w is. announced c.in-Some.begun.now c.in-Some.ensures.0 c.in-Some.ensures.1 c.in-Some.ensures.2 is) c.with_header.ensures

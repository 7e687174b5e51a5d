use Rattle.record_codec.proofs.reading.Fields.vanished.Goals as goal

pub returns-in-None : goal.returns-in-None
returns-in-None c = absurd (c.in-None.ensures.none c.in_ok-ranges.ensures.canonical)

-- What is made is what the replies tell for which the makers stand, and so is the first fault.
use Rattle.std.proofs.Common.{Option, sym, ◌∙◌, ap}
use Rattle.std.specs.Option.{option_copied}
use Rattle.qresync_core.specs.Making.{made_judged}
use Rattle.qresync_core.specs.declared.maker.DeltaMaker.{DeltaMaker}
use Rattle.qresync_core.proofs.MakerStands.{finished, finished_fault, finished_fits}
use Rattle.qresync_core.proofs.maker.DeltaMaker.finish.Goals as goal

pub returns-in_ok-made-in-Ok-clause-value : goal.returns-in_ok-made-in-Ok-clause-value
returns-in_ok-made-in-Ok-clause-value c =
    finished (option_copied c.args.kept) c.args.self c.args.last.now.code c.args.every c.in-Ok.codes c.in_ok-made-in-Ok.field-0
    (ap (λ (every : Option DeltaMaker). made_judged (option_copied c.args.kept) c.args.self c.args.last.now.code every) (sym c.as_ref.ensures.value)
    ∙ sym c.judged.ensures ∙ c.in-Ok.is)
    c.in_ok-made-in-Ok.ensures

pub returns-in_ok-made-in-Ok-clause-fits : goal.returns-in_ok-made-in-Ok-clause-fits
returns-in_ok-made-in-Ok-clause-fits c =
    finished_fits (option_copied c.args.kept) c.args.self c.args.last.now.code c.args.every c.in-Ok.codes c.in_ok-made-in-Ok.field-0
    (ap (λ (every : Option DeltaMaker). made_judged (option_copied c.args.kept) c.args.self c.args.last.now.code every) (sym c.as_ref.ensures.value)
    ∙ sym c.judged.ensures ∙ c.in-Ok.is)
    c.in_ok-made-in-Ok.ensures

pub returns-in-Err-clause-fault : goal.returns-in-Err-clause-fault
returns-in-Err-clause-fault c =
    finished_fault (option_copied c.args.kept) c.args.self c.args.last.now.code c.args.every c.in-Err.fault
    (ap (λ (every : Option DeltaMaker). made_judged (option_copied c.args.kept) c.args.self c.args.last.now.code every) (sym c.as_ref.ensures.value)
    ∙ sym c.judged.ensures ∙ c.in-Err.is)

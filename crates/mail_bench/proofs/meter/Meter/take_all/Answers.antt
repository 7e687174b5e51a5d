use Rattle.std.proofs.Common.{Bool, rules, subst}
use Rattle.mail_bench.specs.Breaking.{Breaks}
use Rattle.mail_bench.proofs.Breaking.{handed_on}
use Rattle.mail_bench.proofs.meter.Meter.take_all.Goals as goal

pub returns-in_err-take_one-clause-why : goal.returns-in_err-take_one-clause-why
returns-in_err-take_one-clause-why c = λ all metered.
    let fault = c.in_err-take_one.field-0.0 in
    let bad = c.in_err-take_one.ensures.why all (c.loop.invariant.1 all metered) in
    handed_on c.from_residual.result fault (Breaks c.args.self.now.reads all) (search rules)
    (subst (λ (b : Bool). Breaks b all fault) c.loop.invariant.0 bad)

use Rattle.body_cache.proofs.DateLines.{dates_as, dates_none}
use Rattle.std.proofs.Common.{refl}
use Rattle.body_cache.proofs.carrying.dates_text.Goals as goal

pub returns-in-Some-clause-dates : goal.returns-in-Some-clause-dates
returns-in-Some-clause-dates g c =
    dates_as _ c.args.name.now c.args.cached.now c.in-Some.validity c.as_slice.result.now c.lines_of.result c.in-Some.is c.as_slice.ensures
    c.lines_of.ensures.dates

pub returns-in-None-clause-dates : goal.returns-in-None-clause-dates
returns-in-None-clause-dates g c = dates_none _ c.args.name.now c.args.cached.now c.new.result c.new.ensures c.in-None.is (λ t. refl)

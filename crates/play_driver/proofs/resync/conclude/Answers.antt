use Rattle.std.proofs.Common.{refl, sym, ◌∙◌}
use Rattle.std.specs.Option.{option_copied}
use Rattle.play_driver.proofs.Gathers.{makes_delta}
use Rattle.play_driver.proofs.resync.conclude.Goals as goal

pub returns-in-Some-clause-renewed : goal.returns-in-Some-clause-renewed
returns-in-Some-clause-renewed c = record {
  is = refl;
  renewed = λ r stands code. sym (c.renewed_to.ensures r stands code) ∙ c.in-Some.is;
}

pub returns-in-None-clause-told : goal.returns-in-None-clause-told
returns-in-None-clause-told c = (
  refl,
  record {
    makes = λ gathered stand fetched.
        makes_delta (option_copied c.args.kept) _ _ _ gathered c.finish-delta.result stand fetched c.finish-delta.ensures.value c.finish-delta.ensures.fault;
    current = λ gathered stand. sym (c.renewed_to.ensures gathered.selected stand.select stand.code) ∙ c.in-None.is;
    fits = c.finish-delta.ensures.fits;
  },
)

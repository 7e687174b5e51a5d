use Rattle.std.proofs.Common.{◌∙◌, arith, refl, rules, subst}
use Rattle.journal_core.proofs.Looking.{looks_none, looks_then}
use Rattle.store_core.specs.Mail.{mail}
use Rattle.store_core.specs.Broken.{IsBroken}
use Rattle.store_core.proofs.Folds.{made_on}
use Rattle.store_core.proofs.opening.read_later.Goals as goal

pub loop-more-init : goal.loop-more-init
loop-more-init g c = record {
  sound = refl;
  version = refl;
  link = refl;
  unfailed = refl;
  looks = λ tells. looks_none _ _;
  made = λ made. made;
  reads = λ tells r. r;
}

pub returns-in_err-more-clause-broken : goal.returns-in_err-more-clause-broken
returns-in_err-more-clause-broken g c tells r why is =
    subst (IsBroken mail why) (c.loop-more.invariant.looks tells).seen_same
    (c.read_few.ensures.broken tells (c.loop-more.invariant.reads tells r) why (search rules))

pub returns-in_err-more-clause-told : goal.returns-in_err-more-clause-told
returns-in_err-more-clause-told g c tells = looks_then _ _ _ _ _ _ (c.loop-more.invariant.looks tells) (c.read_few.ensures.told tells)

pub returns-then-not-more-clause-value : goal.returns-then-not-more-clause-value
returns-then-not-more-clause-value g c tells r = c.in_ok-more.ensures.value tells (c.loop-more.invariant.reads tells r)

pub returns-then-not-more-clause-told : goal.returns-then-not-more-clause-told
returns-then-not-more-clause-told g c tells = looks_then _ _ _ _ _ _ (c.loop-more.invariant.looks tells) (c.read_few.ensures.told tells)

pub loop-more-preserved : goal.loop-more-preserved
loop-more-preserved g c = record {
  sound = c.read_few.ensures.same.sound ∙ c.loop-more.invariant.sound;
  version = c.read_few.ensures.same.version ∙ c.loop-more.invariant.version;
  link = c.read_few.ensures.blames.link ∙ c.loop-more.invariant.link;
  unfailed = c.in_ok-more.ensures.blames.unfailed (λ is. cc is) ∙ c.loop-more.invariant.unfailed;
  looks = λ tells. looks_then _ _ _ _ _ _ (c.loop-more.invariant.looks tells) (c.read_few.ensures.told tells);
  made = λ made. made_on _ _ _ _ _ c.loop-more.invariant.version c.loop-more.invariant.made c.in_ok-more.ensures.made made;
  reads = λ tells r. c.in_ok-more.ensures.value tells (c.loop-more.invariant.reads tells r);
}

pub returns-then-not-more-clause-made : goal.returns-then-not-more-clause-made
returns-then-not-more-clause-made g c made = made_on _ _ _ _ _ c.loop-more.invariant.version c.loop-more.invariant.made c.in_ok-more.ensures.made made

pub returns-in_err-more-clause-blames : goal.returns-in_err-more-clause-blames
returns-in_err-more-clause-blames g c = record {
  link = c.read_few.ensures.blames.link ∙ c.loop-more.invariant.link;
  count = omega (arith, c.read_few.ensures.blames.count, c.loop-more.invariant.unfailed);
  cause = λ is low. omega (arith, c.read_few.ensures.blames.cause (search rules) low, c.loop-more.invariant.unfailed);
  unfailed = λ other. c.read_few.ensures.blames.unfailed (λ is. other (search rules)) ∙ c.loop-more.invariant.unfailed;
}

pub returns-then-not-more-clause-blames : goal.returns-then-not-more-clause-blames
returns-then-not-more-clause-blames g c = record {
  link = c.in_ok-more.ensures.blames.link ∙ c.loop-more.invariant.link;
  count = omega (arith, c.in_ok-more.ensures.blames.count, c.loop-more.invariant.unfailed);
  cause = λ is. absurd (cc is);
  unfailed = λ other. c.in_ok-more.ensures.blames.unfailed (λ is. cc is) ∙ c.loop-more.invariant.unfailed;
}

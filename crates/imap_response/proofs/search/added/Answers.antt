use Rattle.std.proofs.Common.{arith}
use Rattle.imap_response.proofs.NumberSets.{uid_at, one_added, all_added, none_added}
use Rattle.imap_response.proofs.search.added.Goals as goal

pub loop-number-init : goal.loop-number-init
loop-number-init c = record { canonical = rw c.none-set.ensures tt; members = rw c.none-set.ensures (none_added c.args.numbers.now) }

pub uid_of-requires : goal.uid_of-requires
uid_of-requires c = uid_at _ _ c.requires c.loop-number-test.true

pub loop-number-preserved : goal.loop-number-preserved
loop-number-preserved c = record {
  canonical = c.in_ok-add.ensures.canonical;
  members = λ uid. one_added _ _ uid _ _ c.loop-number-test.true (rw c.uid_of.ensures at (c.in_ok-add.ensures.members uid))
      (c.loop-number.invariant.members uid);
}

pub returns : goal.returns
returns c = (
  c.loop-number.invariant.canonical,
  λ uid. all_added c.args.numbers.now c.loop-number.number-index uid c.loop-number.set
      (omega (arith, c.loop-number-test.false, c.loop-number.auto.number-index-end)) (c.loop-number.invariant.members uid),
)

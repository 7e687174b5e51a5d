-- Its rows are few, with few flags each.
use Rattle.std.proofs.Common.{ap, arith, length, subst, sym}
use Rattle.action_queue.specs.Writable.{HaveFewFlags}
use Rattle.record_codec.proofs.RestatedSizes.{cache_whole}
use Rattle.record_codec.proofs.restated.cache_size.Goals as goal

pub learn_size-requires-clause-few : goal.learn_size-requires-clause-few
learn_size-requires-clause-few c = omega (arith, c.requires.few, ap length c.as_slice.ensures.value)

pub learn_size-requires-clause-flags : goal.learn_size-requires-clause-flags
learn_size-requires-clause-flags c = subst HaveFewFlags (sym c.as_slice.ensures.value) c.requires.flags

pub returns-clause-value : goal.returns-clause-value
returns-clause-value c =
    cache_whole c.args.name.now c.args.cache.now _ _ _ c.as_slice.ensures.value c.learn_size.ensures.value c.later_size.ensures.value

pub returns-clause-most : goal.returns-clause-most
returns-clause-most c = omega (arith, c.requires.few, ap length c.as_slice.ensures.value, c.learn_size.ensures.most, c.later_size.ensures.most)

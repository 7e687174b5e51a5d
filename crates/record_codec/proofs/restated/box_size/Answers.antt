-- Without a cache the name is all.
use Rattle.std.proofs.Common.{subst}
use Rattle.action_queue.specs.Restating.{IsWellKnown}
use Rattle.record_codec.proofs.RestatedSizes.{box_none, box_some}
use Rattle.record_codec.proofs.restated.box_size.Goals as goal

pub cache_size-requires : goal.cache_size-requires
cache_size-requires c = subst IsWellKnown c.in-Some.is c.requires

pub returns-in-None-clause-value : goal.returns-in-None-clause-value
returns-in-None-clause-value c = box_none c.args.known.now _ c.in-None.is c.name_size-named.ensures.value

pub returns-in-Some-clause-value : goal.returns-in-Some-clause-value
returns-in-Some-clause-value c = box_some c.args.known.now _ _ _ c.in-Some.is c.name_size-named.ensures.value c.cache_size.ensures.value

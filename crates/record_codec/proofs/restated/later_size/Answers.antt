-- So many records behind the first one, each with the name.
use Rattle.std.proofs.Common.{arith}
use Rattle.record_codec.proofs.RestatedSizes.{later_size, later_small}
use Rattle.record_codec.proofs.restated.later_size.Goals as goal

pub overflow_mul-result : goal.overflow_mul-result
overflow_mul-result c = omega (arith, later_small c.args.cache.now _ _ c.requires c.parts_of.ensures c.name_size.ensures.most)

pub returns-clause-value : goal.returns-clause-value
returns-clause-value c = later_size c.args.cache.now c.args.name.now _ _ c.parts_of.ensures c.name_size.ensures.value

pub returns-clause-most : goal.returns-clause-most
returns-clause-most c = later_small c.args.cache.now _ _ c.requires c.parts_of.ensures c.name_size.ensures.most

use Rattle.std.proofs.Common.{rules}
use Rattle.record_codec.proofs.KeyOrder.{put_last}
use Rattle.record_codec.proofs.reading.Fields.key.Goals as goal

pub returns-clause-behind : goal.returns-clause-behind
returns-clause-behind c = put_last c.in-Some.key c.args.set.now c.comes_last.ensures.set.rising (search rules)

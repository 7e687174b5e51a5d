use Rattle.record_codec.proofs.OneByOne.{one_event}
use Rattle.record_codec.proofs.laws.one_event.Goals as goal

pub returns : goal.returns
returns c = one_event

use Rattle.record_codec.proofs.RestatedSizes.{sizes_tell}
use Rattle.record_codec.proofs.restated.sizes_tell.Goals as goal

pub returns : goal.returns
returns c = sizes_tell

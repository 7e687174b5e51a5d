use Rattle.body_cache.proofs.NoDeeds.{readings_add_none}
use Rattle.body_cache.proofs.laws.readings_add_no_deeds.Goals as goal

pub returns : goal.returns
returns c = readings_add_none

use Rattle.server_mem.proofs.Placing.{place_none, place_some}
use Rattle.server_mem.proofs.lookups.place_of.Goals as goal

pub returns-clause-none : goal.returns-clause-none
returns-clause-none c = place_none c.args.name.now c.args.boxes.now c.name_place.result c.name_place.ensures

pub returns-clause-some : goal.returns-clause-some
returns-clause-some c = place_some c.args.name.now c.args.boxes.now c.name_place.result c.name_place.ensures

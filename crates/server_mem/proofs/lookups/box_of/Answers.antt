use Rattle.std.proofs.Common.{refl, length}
use Rattle.std.proofs.lemmas.Option.{slice_get_read}
use Rattle.server_mem.proofs.Placing.{box_there}
use Rattle.server_mem.proofs.lookups.box_of.Goals as goal

pub returns-clause-some : goal.returns-clause-some
returns-clause-some c = box_there c.args.name.now c.args.boxes.now c.in_ok-at.at c.index-boxes-at.result
    (slice_get_read c.args.boxes.now (length c.args.boxes.now) c.in_ok-at.at c.index-boxes-at.result refl c.in_ok-at.ensures.some.within
    c.index-boxes-at.is) c.in_ok-at.ensures.some

-- The rows below the range, and those above it.
use Rattle.mailbox_cache.proofs.Vanishing.{apart_between}
use Rattle.mailbox_cache.proofs.search.is_apart.Goals as goal

pub returns : goal.returns
returns c =
    let below = rw c.in-Some.ensures.value at c.place_of-place.ensures.below in
    λ yes. apart_between c.args.range.now c.args.rows.now c.place_of-place.result c.requires below (c.is_above.ensures yes)

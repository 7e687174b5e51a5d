-- The part is one of the cache's pieces.
use Rattle.std.proofs.Common.{ℕ, List, Some, sym, subst}
use Rattle.std.specs.Prelude.{slice_get}
use Rattle.action_queue.specs.Telling.{IsToldBy, cache_pieces}
use Rattle.action_queue.specs.declared.event.Event.TheVariants as events
use Rattle.action_queue.proofs.Told.{part_told, part_within}
use Rattle.action_queue.proofs.restating.told_rows.Goals as goal

pub part_of-requires : goal.part_of-requires
part_of-requires c = part_within c.args.cache.now.rows c.args.part c.requires

pub returns : goal.returns
returns c =
    let pieces = cache_pieces c.args.name.now (Some c.args.cache.now) in
    subst (λ (name : List ℕ). IsToldBy (slice_get pieces c.args.part) (Some (events.Learn name c.in_ok-delta.delta))) (sym c.copy.ensures)
    (part_told c.args.name.now c.args.cache.now c.args.part c.in_ok-delta.delta c.requires c.in_ok-delta.ensures)

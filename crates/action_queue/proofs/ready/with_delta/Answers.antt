-- The cache is taken from the place of the name, and the new one goes there.
use Rattle.std.proofs.Common.{◌∙◌, sym, Some}
use Rattle.action_queue.specs.Book.{cache_at, learned}
use Rattle.action_queue.proofs.Placing.{put_at, put_none, cache_there}
use Rattle.action_queue.proofs.ready.with_delta.Goals as goal

pub returns-in_default : goal.returns-in_default
returns-in_default c =
    let none = rw c.as_slice.ensures at c.in_default.ensures in
    sym (put_none c.args.name.now (Some (learned (cache_at c.args.name.now c.args.boxes) c.args.delta)) c.args.boxes (sym none))

pub moved_by-requires-clause-fits : goal.moved_by-requires-clause-fits
moved_by-requires-clause-fits c =
    let there = rw c.as_slice.ensures at c.in-Some.ensures in
    let old = rw c.into_vec-content.ensures at c.take_cache-old.ensures.value in
    rw (old ∙ cache_there c.args.name.now c.args.boxes c.in-Some.at (sym there)) c.requires.fits

pub moved_by-requires-clause-room : goal.moved_by-requires-clause-room
moved_by-requires-clause-room c =
    let there = rw c.as_slice.ensures at c.in-Some.ensures in
    let old = rw c.into_vec-content.ensures at c.take_cache-old.ensures.value in
    rw (old ∙ cache_there c.args.name.now c.args.boxes c.in-Some.at (sym there)) c.requires.room

pub returns : goal.returns
returns c =
    let there = rw c.as_slice.ensures at c.in-Some.ensures in
    let old = rw c.into_vec-content.ensures at c.take_cache-old.ensures.value in
    let new = rw (old ∙ cache_there c.args.name.now c.args.boxes c.in-Some.at (sym there)) at c.moved_by.ensures in
    let put = rw (c.of-boxes.ensures, c.copy-name.ensures) at c.put.ensures in
    let others = rw c.into_vec-content.ensures at c.take_cache-old.ensures.others in
    rw new at (put ∙ others _ ∙ put_at c.args.name.now (Some c.moved_by.result) c.args.boxes c.in-Some.at (sym there))

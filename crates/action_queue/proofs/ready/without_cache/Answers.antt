-- The mailbox at the place of the name is put there anew, without a cache.
use Rattle.std.proofs.Common.{◌∙◌, sym, None}
use Rattle.action_queue.proofs.Placing.{put_at, put_none}
use Rattle.action_queue.proofs.ready.without_cache.Goals as goal

pub returns-in_default : goal.returns-in_default
returns-in_default c =
    let none = rw c.as_slice.ensures at c.in_default.ensures in
    sym (put_none c.args.name.now None c.args.boxes (sym none))

pub returns : goal.returns
returns c =
    let there = rw c.as_slice.ensures at c.in-Some.ensures in
    let put = rw c.copy-name.ensures at c.put.ensures in
    put ∙ put_at c.args.name.now None c.args.boxes c.in-Some.at (sym there)

use Rattle.std.proofs.lemmas.Result.{on_ok_weaker}
use Rattle.action_queue.specs.Book.{meaning}
use Rattle.local_view.specs.Touching.{seen_so_far}
use Rattle.local_view.proofs.Effects.{settled_stays, unsettled_acts}
use Rattle.local_view.proofs.acting.act_unless.Goals as goal

pub returns-in-Some : goal.returns-in-Some
returns-in-Some c =
    let book = c.args.book.now in
    settled_stays (meaning book) c.args.id c.args.queued.now.action (seen_so_far book.boxes c.args.touched.now) c.args.queued.now.outcome c.in-Some.field-0
    c.in-Some.is

pub returns-in-None : goal.returns-in-None
returns-in-None c =
    let book = c.args.book.now in
    on_ok_weaker c.act.result
    (unsettled_acts (meaning book) c.args.id c.args.queued.now.action (seen_so_far book.boxes c.args.touched.now) c.args.queued.now.outcome
    (seen_so_far book.boxes c.act.new.touched) c.in-None.is) c.act.ensures

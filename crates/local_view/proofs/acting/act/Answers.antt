use Rattle.std.proofs.Common.{List, ℕ, OnOk, Some, sym, subst}
use Rattle.action_queue.specs.Book.{meaning}
use Rattle.action_queue.specs.declared.action.Action.{Action}
use Rattle.local_view.specs.Sights.{acted, put, dummy}
use Rattle.local_view.specs.Touching.{seen_so_far, AreSame}
use Rattle.local_view.specs.declared.message.Message.TheVariants as message
use Rattle.local_view.proofs.acting.act.Goals as goal

pub returns-in-Flag : goal.returns-in-Flag
returns-in-Flag c =
    let book = c.args.book.now in
    subst (λ (action : Action). OnOk c.turn.result (AreSame (seen_so_far book.boxes c.turn.new.touched)
    (acted (meaning book) c.args.id action (seen_so_far book.boxes c.args.touched.now)))) (sym c.in-Flag.is) c.turn.ensures

pub returns-in-Move : goal.returns-in-Move
returns-in-Move c =
    let book = c.args.book.now in
    subst (λ (action : Action). OnOk c.shift.result (AreSame (seen_so_far book.boxes c.shift.new.touched)
    (acted (meaning book) c.args.id action (seen_so_far book.boxes c.args.touched.now)))) (sym c.in-Move.is) c.shift.ensures

pub returns-in_ok-flags-in-Append : goal.returns-in_ok-flags-in-Append
returns-in_ok-flags-in-Append c =
    let book = c.args.book.now in
    subst (λ (action : Action). OnOk c.make.result (AreSame (seen_so_far book.boxes c.make.new.self)
    (acted (meaning book) c.args.id action (seen_so_far book.boxes c.args.touched.now)))) (sym c.in-Append.is)
    (subst (λ (flags : List (List ℕ)). OnOk c.make.result (AreSame (seen_so_far book.boxes c.make.new.self)
    (put (message.Made c.args.id) (Some (dummy flags)) (seen_so_far book.boxes c.args.touched.now)))) c.in_ok-flags-in-Append.ensures
    (c.make.ensures book.boxes))

-- The first place, a place of the mailboxes' events, or one behind them.
use Rattle.std.proofs.Common.{List, ap, arith, subst, ◌∙◌, ◌-◌}
use Rattle.std.proofs.lemmas.Result.{IfOk-weaker}
use Rattle.action_queue.specs.Book.{meaning}
use Rattle.action_queue.specs.Restating.{names_of}
use Rattle.action_queue.specs.Telling.{IsSpot}
use Rattle.action_queue.specs.declared.book.Known.{Known}
use Rattle.action_queue.specs.declared.restating.Spot.{Spot}
use Rattle.action_queue.specs.declared.restating.Spot.TheVariants as spots
use Rattle.action_queue.proofs.Told.{told_behind, told_first, told_there}
use Rattle.action_queue.proofs.book.Book.restated_at.Goals as goal

pub returns-then-place-eq0 : goal.returns-then-place-eq0
returns-then-place-eq0 c =
    told_first (meaning c.args.self.now) c.args.place c.in_ok-names.names c.if-place-eq0.true (c.in_ok-names.ensures ∙ ap names_of c.as_slice-boxes.ensures)

pub returns-in-Told : goal.returns-in-Told
returns-in-Told c =
    told_there (meaning c.args.self.now) c.args.place c.in-Told.event (omega arith)
    (subst (λ (l : List Known). IsSpot l (c.args.place - 1) (spots.Told c.in-Told.event)) c.as_slice-boxes.ensures
    (subst (λ (s : Spot). IsSpot c.as_slice-boxes.result.now (c.args.place - 1) s) c.in-Told.is c.in_ok-spot.ensures))

pub returns-in-Behind : goal.returns-in-Behind
returns-in-Behind c =
    IfOk-weaker c.told_behind.result _ _
    (told_behind (meaning c.args.self.now) c.args.place c.in-Behind.left (omega arith)
    (subst (λ (l : List Known). IsSpot l (c.args.place - 1) (spots.Behind c.in-Behind.left)) c.as_slice-boxes.ensures
    (subst (λ (s : Spot). IsSpot c.as_slice-boxes.result.now (c.args.place - 1) s) c.in-Behind.is c.in_ok-spot.ensures)))
    c.told_behind.ensures

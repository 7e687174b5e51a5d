-- The first command, the next one, and the end.
use Rattle.std.proofs.Common.{rules, ◌≡◌, ◌+◌, ◌-◌, ◌*◌, ◌∙◌, ap, refl, sym, arith}
use Rattle.mail_drill.specs.Held.{PassesLimit}
use Rattle.mail_drill.specs.Standing.{IsBrokenAs}
use Rattle.mail_drill.specs.Orders.{behind_orders, orders_from}
use Rattle.mail_drill.specs.Foreseen.{IsForeseen}
use Rattle.mail_drill.proofs.Breaking.{err_on}
use Rattle.mail_drill.proofs.Giving.{awaits_more, behind_last, given_first, given_last, given_more, gives_last, gives_next, limit_next, next_behind}
use Rattle.mail_drill.proofs.beginning.give_all.Goals as goal

pub loop-number-init : goal.loop-number-init
loop-number-init c = record {
  given = given_first c.args.size c.args.draws.now c.args.world.now.quiet;
  draws = let all : 2 * c.args.size + 1 - 1 ≡ 2 * c.args.size = omega arith in ap (λ count. behind_orders count c.args.draws.now) all;
  gives = λ seed gives. gives;
  sum = refl;
}

pub loop-number-preserved : goal.loop-number-preserved
loop-number-preserved c = record {
  given = λ b has knows none.
      given_more c.args.size c.loop-number.number c.loop-number.draws c.drawn_order-order.new.draws c.loop-number.given.accepted
      c.loop-number.given.refused c.counted-given.result.accepted (orders_from c.args.size (2 * c.args.size) 1 c.args.draws.now) c.drawn_order-order.result
      c.in_ok-accepted.accepted c.loop-number.world.quiet c.is_accepted.new.world.quiet c.requires.most c.loop-number-test.true c.loop-number.invariant.sum
      c.drawn_order-order.ensures.order c.drawn_order-order.ensures.draws c.drawn_order-order.ensures.named c.counted-given.ensures.accepted
      c.in_ok-accepted.ensures.done (c.loop-number.invariant.given b has knows none);
  draws =
      ap (λ y. behind_orders (2 * c.args.size + 1 - (c.loop-number.number + 1)) y) c.drawn_order-order.ensures.draws
      ∙ sym (next_behind (2 * c.args.size + 1) c.loop-number.number c.loop-number.draws c.loop-number-test.true) ∙ c.loop-number.invariant.draws;
  gives = λ seed gives.
      gives_next c.args.size seed c.loop-number.number c.loop-number.draws c.drawn_order-order.new.draws c.drawn_order-order.result c.loop-number.world.quiet.world
      c.is_accepted.new.world.quiet.world c.drawn_order-order.ensures.order c.drawn_order-order.ensures.draws (c.loop-number.invariant.gives seed gives)
      c.in_ok-accepted.ensures.runs;
  sum = omega (arith, c.counted-given.ensures.all, c.loop-number.invariant.sum);
}

pub returns-clause-done : goal.returns-clause-done
returns-clause-done c = λ b has knows none.
    given_last c.args.size c.loop-number.number c.loop-number.draws c.loop-number.given.accepted c.loop-number.given.refused
    (orders_from c.args.size (2 * c.args.size) 1 c.args.draws.now) c.loop-number.world.quiet c.loop-number-test.false (c.loop-number.auto.number-end (omega arith))
    c.loop-number.invariant.sum (c.loop-number.invariant.given b has knows none)

pub returns-clause-draws : goal.returns-clause-draws
returns-clause-draws c =
    behind_last c.args.size c.loop-number.number c.loop-number.draws (behind_orders (2 * c.args.size) c.args.draws.now) c.loop-number-test.false
    c.loop-number.invariant.draws

pub returns-clause-gives : goal.returns-clause-gives
returns-clause-gives c = λ seed gives.
    gives_last c.args.size seed c.loop-number.number c.loop-number.draws c.loop-number.world.quiet.world c.loop-number-test.false (c.loop-number.auto.number-end (omega arith))
    (c.loop-number.invariant.gives seed gives)

pub returns-in_err-accepted-clause-broken : goal.returns-in_err-accepted-clause-broken
returns-in_err-accepted-clause-broken c = λ seed gives.
    err_on c.from_residual.result c.in_err-accepted.field-0.0 (IsBrokenAs (PassesLimit c.args.size seed c.is_accepted.new.world.quiet.world)) (search rules)
    (limit_next c.args.size seed c.loop-number.number c.loop-number.draws c.drawn_order-order.result c.loop-number.world.quiet.world
    c.is_accepted.new.world.quiet.world c.in_err-accepted.field-0.0 c.drawn_order-order.ensures.order (omega (arith, c.loop-number-test.true))
    (c.loop-number.invariant.gives seed gives) c.in_err-accepted.ensures.broken)

pub returns-in_err-accepted-clause-foreseen : goal.returns-in_err-accepted-clause-foreseen
returns-in_err-accepted-clause-foreseen c = λ b has knows none.
    let next = awaits_more c.args.size c.loop-number.number c.loop-number.draws c.loop-number.given.accepted c.loop-number.given.refused
    (orders_from c.args.size (2 * c.args.size) 1 c.args.draws.now) c.drawn_order-order.result c.loop-number.world.quiet c.requires.most
    c.loop-number-test.true c.loop-number.invariant.sum c.drawn_order-order.ensures.order c.drawn_order-order.ensures.named
    (c.loop-number.invariant.given b has knows none) in
    err_on c.from_residual.result c.in_err-accepted.field-0.0 IsForeseen (search rules)
    (c.in_err-accepted.ensures.foreseen c.args.size next.0 next.1 next.2)

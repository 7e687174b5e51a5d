-- The commands so far are given, and the draws of those that are left leave what all of them leave.
use Rattle.std.proofs.Common.{◌≡◌, ℕ, ◌+◌, ◌-◌, ◌*◌, []}
use Rattle.action_queue.specs.Book.{Meaning}
use Rattle.mail_drill.proofs.Giving.{IsGiven, left_from}
use Rattle.mail_drill.specs.Held.{Gives}
use Rattle.mail_drill.specs.Orders.{behind_orders, orders_from}
use Rattle.mail_drill.specs.Standing.{HasOne, Knows}
use Rattle.mail_drill.proofs.beginning.give_all.Given as goal

abbrev pub invariant-loop-number : goal.invariant-loop-number
invariant-loop-number l = record {
  given : (b : Meaning) → HasOne b l.fn.world.quiet → Knows l.size b → b.queue ≡ [] →
      IsGiven l.size (orders_from l.size (2 * l.size) 1 l.fn.draws) (left_from l.size (2 * l.size + 1) l.number l.draws) l.given.accepted l.world.quiet;
  draws : behind_orders (2 * l.size + 1 - l.number) l.draws ≡ behind_orders (2 * l.size) l.fn.draws;
  gives : (seed : ℕ) → Gives l.size seed 1 l.fn.draws l.fn.world.quiet.world → Gives l.size seed l.number l.draws l.world.quiet.world;
  sum : l.given.accepted + l.given.refused + 1 ≡ l.number;
}

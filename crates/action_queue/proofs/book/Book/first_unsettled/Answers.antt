-- All are settled exactly where as many are as there are.
use Rattle.std.proofs.Common.{arith, refl, ◌∙◌, sym}
use Rattle.action_queue.proofs.Queueing.{all_settled, settled_all}
use Rattle.action_queue.proofs.book.Book.first_unsettled.Goals as goal

pub returns-then-settled-len-clause-none : goal.returns-then-settled-len-clause-none
returns-then-settled-len-clause-none c =
    let same = sym c.settled.ensures.value ∙ c.if-settled-len.true ∙ c.len.ensures.value in
    (λ e. all_settled c.args.self.now.queue.items same, λ a. refl)

pub returns-clause-none : goal.returns-clause-none
returns-clause-none c = (
  λ n. let zero = c.new.ensures.zero.0 n in absurd (omega arith),
  λ a. let full = settled_all c.args.self.now.queue.items a in
      absurd (omega (arith, full, c.settled.ensures.value, c.len.ensures.value)),
)

use Rattle.std.proofs.Common.{refl, subst, sym}
use Rattle.action_queue.specs.Book.{meaning}
use Rattle.mail_top.specs.Weighing.{Weighed}
use Rattle.mail_top.specs.Words.{wanted_of}
use Rattle.mail_top.specs.declared.request.AskedAction.{AskedAction}
use Rattle.mail_top.proofs.weighing.weighed.Goals as goal

pub returns-in-Flag-clause-value : goal.returns-in-Flag-clause-value
returns-in-Flag-clause-value g c = (
  g.I.Source.rest c.args.input.now,
  λ _. refl,
  subst (λ (a : AskedAction). Weighed (wanted_of a (g.I.Source.rest c.args.input.now)) (meaning c.args.book.now) c.flag_weighed.result) (sym c.in-Flag.is)
      c.flag_weighed.ensures.value,
)

pub returns-in-Move-clause-value : goal.returns-in-Move-clause-value
returns-in-Move-clause-value g c = (
  g.I.Source.rest c.args.input.now,
  λ _. refl,
  subst (λ (a : AskedAction). Weighed (wanted_of a (g.I.Source.rest c.args.input.now)) (meaning c.args.book.now) c.move_weighed.result) (sym c.in-Move.is)
      c.move_weighed.ensures.value,
)

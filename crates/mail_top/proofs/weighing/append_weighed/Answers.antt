use Rattle.std.proofs.Common.{inr, [], refl, subst}
use Rattle.action_queue.specs.Book.{meaning}
use Rattle.mail_top.specs.Reading.{MessageRead}
use Rattle.mail_top.specs.Weighing.{Received}
use Rattle.mail_top.specs.Words.{Append, addition_of}
use Rattle.mail_top.proofs.Admitting.{handed, append_refused, append_awaits, append_read, append_named}
use Rattle.mail_top.proofs.weighing.append_weighed.Goals as goal

pub returns-in_err-flags-clause-value : goal.returns-in_err-flags-clause-value
returns-in_err-flags-clause-value g c = (
  g.I.Source.rest c.args.input.now,
  λ _. refl,
  handed (Append (addition_of c.args.asked.now) (g.I.Source.rest c.args.input.now)) (meaning c.args.book.now) _ _ c.from_residual.ensures.1
      (append_refused (addition_of c.args.asked.now) _ (meaning c.args.book.now) _
      (subst (Received (addition_of c.args.asked.now) (g.I.Source.rest c.args.input.now) (meaning c.args.book.now)) c.in_err-flags.was
      (c.flags_received.ensures.value (g.I.Source.rest c.args.input.now)))),
)

pub returns-in_err-text-clause-value : goal.returns-in_err-text-clause-value
returns-in_err-text-clause-value g c =
    let given = c.message.ensures.value in (
      given.0,
      given.1,
      handed (Append (addition_of c.args.asked.now) given.0) (meaning c.args.book.now) _ _ c.from_residual-in_err-text.ensures.1
          (append_read (addition_of c.args.asked.now) given.0 (meaning c.args.book.now) _ (c.in_ok-flags.ensures.value given.0) _
          (subst (MessageRead given.0) c.in_err-text.was given.2)),
    )

pub returns-in_err-text-clause-read : goal.returns-in_err-text-clause-read
returns-in_err-text-clause-read g c =
    inr (append_awaits (addition_of c.args.asked.now) [] (meaning c.args.book.now) _ (c.in_ok-flags.ensures.value []))

pub returns-clause-value : goal.returns-clause-value
returns-clause-value g c =
    let given = c.message.ensures.value in (
      given.0,
      given.1,
      append_named (addition_of c.args.asked.now) given.0 (meaning c.args.book.now) _ (c.in_ok-flags.ensures.value given.0) _
          (subst (MessageRead given.0) c.in_ok-text.was given.2) _ c.copy.ensures,
    )

pub returns-clause-read : goal.returns-clause-read
returns-clause-read g c =
    inr (append_awaits (addition_of c.args.asked.now) [] (meaning c.args.book.now) _ (c.in_ok-flags.ensures.value []))

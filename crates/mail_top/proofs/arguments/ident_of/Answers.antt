use Rattle.std.proofs.Common.{refl, rules}
use Rattle.mail_top.proofs.Wording.{no_dummy, zero_dummy, zero_real}
use Rattle.mail_top.proofs.arguments.ident_of.Goals as goal

pub returns-in_err-number_of-in-Some-clause-none : goal.returns-in_err-number_of-in-Some-clause-none
returns-in_err-number_of-in-Some-clause-none c none =
    no_dummy c.args.text.now c.in-Some.rest.now (search rules) (c.in_err-number_of-in-Some.ensures.none refl)

pub returns-in_err-new-in-Some-clause-none : goal.returns-in_err-new-in-Some-clause-none
returns-in_err-new-in-Some-clause-none c none =
    zero_dummy c.args.text.now c.in-Some.rest.now _ (search rules) c.in_ok-number_of-in-Some.ensures.some (c.in_err-new-in-Some.ensures.zero.0 refl)

pub returns-in_err-new-in-None-clause-none : goal.returns-in_err-new-in-None-clause-none
returns-in_err-new-in-None-clause-none c none =
    zero_real c.args.text.now _ c.in_ok-number_of-in-None.ensures.some (c.in_err-new-in-None.ensures.zero.0 refl)

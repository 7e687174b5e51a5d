use Rattle.std.proofs.Common.{refl, rules, subst}
use Rattle.imap_session.specs.Faults.{LineBad}
use Rattle.imap_session.proofs.Outcomes.{same_err, answered_so}
use Rattle.imap_session.proofs.listening.line_of.Goals as goal

pub returns-in-Err-BadForm-clause-why : goal.returns-in-Err-BadForm-clause-why
returns-in-Err-BadForm-clause-why c = λ fault is.
    subst (LineBad c.args.frame) (same_err _ _ _ refl is) (refl, c.read.ensures.bad_form c.in-Err-BadForm.field-0-0 (search rules))

pub returns-clause-why : goal.returns-clause-why
returns-clause-why c = λ fault is.
    subst (LineBad c.args.frame) (same_err _ _ _ refl is) (record {
      spells = c.read.ensures.too_large c.in-Err-TooLarge.limit c.in-Err-TooLarge.number (search rules);
      none = c.read.ensures.none_within c.in-Err-TooLarge.limit c.in-Err-TooLarge.number (search rules);
      which = answered_so _ c.read.result c.in-Err-TooLarge.limit c.in-Err-TooLarge.number (search rules) c.read.ensures.exact;
    })

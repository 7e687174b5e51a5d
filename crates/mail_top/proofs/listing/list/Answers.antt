use Rattle.std.proofs.Common.{rules, subst, sym}
use Rattle.mail_top.specs.Course.{course_of}
use Rattle.mail_top.specs.Ending.{EndsRows}
use Rattle.mail_top.specs.Telling.{status_of_refusal, text_of_refusal}
use Rattle.mail_top.specs.declared.refusal.Refusal.{Refusal}
use Rattle.mail_top.specs.declared.refusal.Refusal.TheVariants as refusals
use Rattle.mail_top.proofs.Showings.{unlisted_ends}
use Rattle.mail_top.proofs.listing.list.Goals as goal

pub returns-in_err-shown-clause-never : goal.returns-in_err-shown-clause-never
returns-in_err-shown-clause-never g c is = c.show_book.ensures.only refusals.Already (search rules)

pub returns-in_err-shown-clause-unread : goal.returns-in_err-shown-clause-unread
returns-in_err-shown-clause-unread g c is = c.show_book.ensures.only refusals.Input (search rules)

pub returns-in_default-clause-ends : goal.returns-in_default-clause-ends
returns-in_default-clause-ends g c tells =
    subst (λ (r : Refusal).
    EndsRows c.args.name.now (course_of g.D.Clocked g.D.Disk.seen c.args.disk.now c.show_book.new.disk) (status_of_refusal r) (text_of_refusal r))
    (sym c.from.ensures)
    (unlisted_ends c.args.name.now _ c.in_ok-shown.shown (search rules) (c.in_ok-shown.ensures.ends tells))

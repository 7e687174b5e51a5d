-- A text that is refused has no Message-ID, so not this one.
use Rattle.std.proofs.Common.{Err, ap}
use Rattle.append_probe.proofs.NoIds.{not_twice, not_long, not_bad}
use Rattle.append_probe.proofs.identifier.has_its_id.Goals as goal

pub returns-in-Err-Twice : goal.returns-in-Err-Twice
returns-in-Err-Twice c = λ i.
    not_twice c.args.text.now c.args.id.now c.in-Err-Twice.field-0-0
    ((c.in-Err-Twice.ensures.twice c.in-Err-Twice.field-0-0).0 (ap Err c.in-Err-Twice.field-0-is))

pub returns-in-Err-TooLong : goal.returns-in-Err-TooLong
returns-in-Err-TooLong c = λ i.
    not_long c.args.text.now c.args.id.now c.in-Err-TooLong.field-0-0 i
    ((c.in-Err-TooLong.ensures.too_long (λ e. absurd (cc)) c.in-Err-TooLong.field-0-0).0 (ap Err c.in-Err-TooLong.field-0-is))

pub returns-in-Err-BadForm : goal.returns-in-Err-BadForm
returns-in-Err-BadForm c = λ i.
    not_bad c.args.text.now c.args.id.now c.in-Err-BadForm.field-0-0 i
    ((c.in-Err-BadForm.ensures.bad_form (λ e. absurd (cc)) c.in-Err-BadForm.field-0-0).0 (ap Err c.in-Err-BadForm.field-0-is))

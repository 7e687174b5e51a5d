use Rattle.std.proofs.Common.{◌≡◌, ◌∙◌, ap, sym}
use Rattle.std.specs.Prelude.{decimal}
use Rattle.mail_base.proofs.Decimals.{decimal_number}
use Rattle.mail_base.proofs.argument.number_of.Goals as goal

pub returns-in_default-clause-none : goal.returns-in_default-clause-none
returns-in_default-clause-none c none number fits is =
    c.in_default.not-Ok number ((c.read_u32.ensures.value number).1 (decimal_number c.as_bytes.result.now number fits (c.as_bytes.ensures.value ∙ is)))

pub returns-else-is_decimal-clause-none : goal.returns-else-is_decimal-clause-none
returns-else-is_decimal-clause-none c other number fits is =
    let told = (c.read_u32.ensures.value number).1 (decimal_number c.as_bytes.result.now number fits (c.as_bytes.ensures.value ∙ is)) in
    let same : c.in-Ok.number ≡ number = cc (told, c.in-Ok.is) in
    let yes = c.is_decimal.ensures.1 (is ∙ ap decimal (sym same)) in
    cc (yes, c.if-is_decimal.false)

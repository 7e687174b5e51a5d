use Rattle.std.proofs.Common.{◌∙◌, sym}
use Rattle.command_texts.proofs.FrontReading.{password_text, lone_text}
use Rattle.command_texts.proofs.reading.fronts.login_begun.Goals as goal

pub returns-then-not-is_empty-clause-password : goal.returns-then-not-is_empty-clause-password
returns-then-not-is_empty-clause-password c = λ name n user count is. c.password_begun.ensures name n user count (is ∙ password_text name n)

pub returns-then-byte_at-eq123-clause-password : goal.returns-then-byte_at-eq123-clause-password
returns-then-byte_at-eq123-clause-password c = λ name n user count is. absurd
    (lone_text name _ _ n c.if-not-is_empty.ensures is (sym c.byte_at.ensures ∙ c.if-byte_at-eq123.true))

pub returns-clause-password : goal.returns-clause-password
returns-clause-password c = λ name n user count is. c.password_begun-2.ensures name n user count (is ∙ password_text name n)

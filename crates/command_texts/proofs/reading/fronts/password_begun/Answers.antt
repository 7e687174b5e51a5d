use Rattle.std.proofs.Common.{[], ◌∷◌, ◌++◌, ◌∙◌, refl, ap, sym, drop, decimal, arith}
use Rattle.mail_base.specs.Account.{Credentials}
use Rattle.imap_model.specs.CommandParts.{crlf}
use Rattle.command_texts.specs.AwaitedParts.{Password}
use Rattle.command_texts.proofs.FrontReading.{user_account, login_finds}
use Rattle.command_texts.proofs.reading.fronts.password_begun.Goals as goal

pub returns-in-Some-announced : goal.returns-in-Some-announced
returns-in-Some-announced c = λ name n user count is.
    let x = rw c.in-Some.is at (c.in_ok-user.ensures name (32 ∷ 123 ∷ (decimal n ++ 125 ∷ crlf)) [] user.text.short refl is) in
    let account : Credentials = record { user = name; password = 13 ∷ [] } in
    login_finds (Password name n) account c.in-Some-announced.octets n _
    (c.login_awaited.ensures account (user_account name user) (c.deref.ensures.value ∙ x.text) refl) refl refl
    (sym c.in-Some-announced.is ∙ c.announced.ensures n crlf (omega (arith, count.fits)) (c.behind.ensures ∙ ap (drop 1) x.rest))

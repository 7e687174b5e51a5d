use Rattle.std.proofs.Common.{[], ◌∷◌, ◌∙◌, refl, sym, arith}
use Rattle.imap_model.specs.CommandParts.{crlf}
use Rattle.command_texts.specs.AwaitedParts.{User}
use Rattle.command_texts.proofs.FrontReading.{return_account, login_finds}
use Rattle.command_texts.proofs.reading.fronts.user_begun.Goals as goal

pub returns-in-Some : goal.returns-in-Some
returns-in-Some c = λ n count is.
    login_finds (User n) (record { user = 13 ∷ []; password = [] }) c.in-Some.octets n _
    (c.login_awaited.ensures (record { user = 13 ∷ []; password = [] }) return_account refl refl) refl refl
    (sym c.in-Some.is ∙ c.announced.ensures n crlf (omega (arith, count.fits)) is)

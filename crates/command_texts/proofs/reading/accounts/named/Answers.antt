use Rattle.std.proofs.Common.{[], ◌∷◌, ◌++◌, refl}
use Rattle.command_texts.proofs.AccountReading.{no_nul}
use Rattle.command_texts.proofs.reading.accounts.named.Goals as goal

pub returns : goal.returns
returns c = λ a held is.
    let one = c.until.ensures.cut [] (a.user ++ 0 ∷ a.password) refl is in
    let two = c.until-2.ensures.cut a.user a.password (no_nul a.user held.kept.plain.user_has_none) one.1 in
    c.account_of.ensures a held two.0 two.1

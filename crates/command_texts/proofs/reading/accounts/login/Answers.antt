use Rattle.std.proofs.Common.{[], ◌∷◌, ◌∙◌, refl}
use Rattle.imap_model.specs.CommandParts.{crlf}
use Rattle.command_texts.proofs.AccountReading.{user_text}
use Rattle.command_texts.proofs.reading.accounts.login.Goals as goal

pub returns-in_default : goal.returns-in_default
returns-in_default c = λ a held is.
    let u = user_text a _ _ is in
    absurd (rw c.in_default.is at (c.in_ok-user.ensures a.user (32 ∷ u.first) u.others held.kept.user.short refl u.is))

pub returns-in_default-2 : goal.returns-in_default-2
returns-in_default-2 c = λ a held is.
    let u = user_text a _ _ is in
    let x = rw c.in-Some.is at (c.in_ok-user.ensures a.user (32 ∷ u.first) u.others held.kept.user.short refl u.is) in
    let cut = c.until.ensures.cut [] u.first refl x.rest in
    absurd (rw c.in_default-2.is at (c.in_ok-password.ensures a.password crlf [] held.kept.password.short refl (rw (cut.1, x.later) u.next)))

pub returns : goal.returns
returns c = λ a held is.
    let u = user_text a _ _ is in
    let x = rw c.in-Some.is at (c.in_ok-user.ensures a.user (32 ∷ u.first) u.others held.kept.user.short refl u.is) in
    let cut = c.until.ensures.cut [] u.first refl x.rest in
    let y = rw c.in-Some-2.is at (c.in_ok-password.ensures a.password crlf [] held.kept.password.short refl (rw (cut.1, x.later) u.next)) in
    c.account_of.ensures a held (c.deref.ensures.value ∙ x.text) (c.deref-2.ensures.value ∙ y.text)

-- The flags that can be changed for good in the mailbox that is selected, as a run goes on.
use Rattle.std.proofs.Common.{List, None, Option, Some, ap, inl, inr, refl, subst, sym, ℕ, ◌∙◌, ◌∷◌, ◌≡◌}
use Rattle.std.proofs.lemmas.Option.{none-some, same_Some}
use Rattle.imap_model.specs.declared.command.Command.TheVariants as commands
use Rattle.imap_model.specs.declared.mark.Mark.{Mark}
use Rattle.imap_session.specs.Permanent.{permitted}
use Rattle.imap_session.specs.declared.permits.Permits.{Permits}
use Rattle.play_driver.specs.KnownAt.{IsPermitted}
use Rattle.playback.specs.Course.{IsAmong, Said}
use Rattle.playback.specs.Why.{WasSelected}
use Rattle.playback.specs.Worlds.{World, name_of}

-- nothing is selected
pub unselected_permits : (permits : Option Permits) (w : World) → w.selected ≡ None → IsPermitted permits w
unselected_permits permits w none name is = absurd (none-some name (sym (ap name_of none) ∙ is))

-- one more thing was said, which left what is selected
pub permitted_on : (permits : Option Permits) (w v : World) → name_of v.selected ≡ name_of w.selected → (said : Said) →
    v.course.said ≡ said ∷ w.course.said → IsPermitted permits w → IsPermitted permits v
permitted_on permits w v same said last before name is =
    let found : WasSelected name (λ r. permits ≡ permitted None r) w.course = before name (sym same ∙ is) in
    (found.0, subst (λ (l : List Said). IsAmong found.0 l) (sym last) (inr found.1), found.2)

-- a SELECT said it last
pub told_permits : (permits : Option Permits) (name : List ℕ) (since : Option Mark) (w : World) (said : Said) (rest : List Said) →
    w.course.said ≡ said ∷ rest → said.command.command ≡ commands.Select name since → permits ≡ permitted None said.reply →
    name_of w.selected ≡ Some name → IsPermitted permits w
told_permits permits name since w said rest last asks is selects other named =
    let same : name ≡ other = same_Some name other (sym selects ∙ named) in (
      said,
      subst (λ (l : List Said). IsAmong said l) (sym last) (inl refl),
      ((since, subst (λ (n : List ℕ). said.command.command ≡ commands.Select n since) same asks), is),
    )

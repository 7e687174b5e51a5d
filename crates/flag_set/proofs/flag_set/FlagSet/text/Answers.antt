use Rattle.std.proofs.Common.{◌≡◌, ◌∷◌, [], sym, ap, ◌∙◌, subst}
use Rattle.std.proofs.lemmas.Result.{IfOk-weaker}
use Rattle.flag_set.specs.FlagKey.{recent}
use Rattle.flag_set.specs.FlagList.{HasNoFault, flags_of, set_of}
use Rattle.flag_set.specs.FlagSet.{IsFlagSet, minus}
use Rattle.flag_set.specs.FlagText.{list_text}
use Rattle.flag_set.proofs.Texts.{text_again, text_readable}
use Rattle.flag_set.proofs.flag_set.FlagSet.text.Goals as goal

pub returns-clause-again : goal.returns-clause-again
returns-clause-again c =
    IfOk-weaker c.joined.result
    (λ text. text.items ≡ list_text c.keys.result.now)
    (λ text. set_of (flags_of text.items) ≡ minus c.args.self.now (recent ∷ []))
    (λ text t.
    ap (λ bytes. set_of (flags_of bytes)) (t ∙ ap list_text c.keys.ensures.value)
    ∙ text_again _ (subst IsFlagSet c.self.view_is c.self.invariant))
    c.joined.ensures

pub returns-clause-readable : goal.returns-clause-readable
returns-clause-readable c short =
    IfOk-weaker c.joined.result
    (λ text. text.items ≡ list_text c.keys.result.now)
    (λ text. HasNoFault (flags_of text.items))
    (λ text t.
    subst (λ bytes. HasNoFault (flags_of bytes)) (sym (t ∙ ap list_text c.keys.ensures.value))
    (text_readable _ (subst IsFlagSet c.self.view_is c.self.invariant) short))
    c.joined.ensures

use Rattle.std.proofs.Common.{rules, ◌≡◌, ◌∷◌, ℕ, List, subst, sym}
use Rattle.imap_model.specs.Tagged.{NamesTag}
use Rattle.command_texts.proofs.first_word.named.Goals as goal

pub returns-in-80 : goal.returns-in-80
returns-in-80 c =
    let whole : c.args.word.now ≡ 80 ∷ c.in-Some.behind.now = search rules in
    subst (λ (w : List ℕ). NamesTag w c.action_tag.result) (sym whole) c.action_tag.ensures

pub returns-in-67 : goal.returns-in-67
returns-in-67 c =
    let whole : c.args.word.now ≡ 67 ∷ c.in-Some.behind.now = search rules in
    subst (λ (w : List ℕ). NamesTag w c.count_tag.result) (sym whole) c.count_tag.ensures

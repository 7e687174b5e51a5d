use Rattle.std.proofs.Common.{rules, ◌≡◌, ◌∷◌, ℕ, List, subst}
use Rattle.command_texts.specs.FirstWord.{IsTagged}
use Rattle.command_texts.proofs.FirstWords.{if_none_more}
use Rattle.command_texts.proofs.first_word.tag_of_text.Goals as goal

pub returns-in-Some-clause-none : goal.returns-in-Some-clause-none
returns-in-Some-clause-none c =
    let whole : c.args.parts.now ≡ c.as_slice.result.now ∷ c.in-Some.field-0-1.now = search rules in
    if_none_more c.tag_in.result (λ none word is. none word c.in-Some.field-0-1.now
    (subst (λ (l : List (List ℕ)). IsTagged l word) whole is)) c.tag_in.ensures.none

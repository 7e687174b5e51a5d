use Rattle.std.proofs.Common.{◌≡◌, ℕ, List, [], ◌∷◌, ◌++◌, rules, subst}
use Rattle.command_texts.specs.HeardAs.{IsHeardAs}
use Rattle.command_texts.specs.HeardParts.{IsFront}
use Rattle.command_texts.specs.declared.outcome.Heard.{Heard}
use Rattle.command_texts.specs.declared.outcome.Heard.TheVariants as outcomes
use Rattle.world_mem.proofs.Parts.{front_completes}
use Rattle.world_mem.proofs.course.Course.completed.Goals as goal

pub returns-in-Front-clause-none : goal.returns-in-Front-clause-none
returns-in-Front-clause-none c =
    let w = c.args.self.now in
    let bytes = c.args.bytes.now in
    let came = c.as_slice-2.result.now in
    let heard : IsHeardAs came (outcomes.Front c.in-Front.tag c.in-Front.append) = subst (λ (h : Heard). IsHeardAs came h) c.in-Front.is c.in_ok-tag.ensures in
    let all : came ≡ w.parts ++ bytes ∷ [] = search rules in
    front_completes w c.requires bytes c.in-Front.tag heard.0 c.no_text_is_a_front.ensures
    (subst (λ (b : List (List ℕ)). IsFront c.in-Front.tag heard.0 b) all heard.1)

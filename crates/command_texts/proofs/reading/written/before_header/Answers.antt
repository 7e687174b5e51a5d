use Rattle.std.proofs.Common.{[], ◌∷◌, refl, Some, None, inl}
use Rattle.std.proofs.lemmas.Bool.Decides.{Decides-eqb}
use Rattle.std.proofs.lemmas.Slice.Eq.{strip_suffix_is}
use Rattle.command_texts.proofs.Renumbering.{second_header}
use Rattle.command_texts.proofs.reading.written.before_header.Goals as goal

pub returns-in-Some : goal.returns-in-Some
returns-in-Some c = (48, inl refl, strip_suffix_is Decides-eqb c.args.part.now (123 ∷ 48 ∷ 125 ∷ 13 ∷ 10 ∷ []) (Some c.in-Some.begun) c.in-Some.ensures.cases)

pub returns : goal.returns
returns c = second_header c.args.part.now c.strip_suffix-2.result
    (strip_suffix_is Decides-eqb c.args.part.now (123 ∷ 48 ∷ 125 ∷ 13 ∷ 10 ∷ []) None c.in_default.ensures.cases)
    (strip_suffix_is Decides-eqb c.args.part.now (123 ∷ 49 ∷ 125 ∷ 13 ∷ 10 ∷ []) c.strip_suffix-2.result c.strip_suffix-2.ensures.cases)

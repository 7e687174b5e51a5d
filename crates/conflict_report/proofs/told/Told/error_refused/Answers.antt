use Rattle.std.proofs.Common.{◌∙◌, ap, ℕ, List, [], ◌∷◌, ◌++◌, map, take}
use Rattle.std.specs.Prelude.{codes}
use Rattle.std.proofs.lemmas.List.{take_all, take_min}
use Rattle.conflict_report.specs.StatusLines.{shown_byte}
use Rattle.conflict_report.proofs.told.Told.error_refused.Goals as goal

pub returns : goal.returns
returns c =
    let front = take_all _ _ c.loop-byte-test.false ∙ ap (λ (n : ℕ). take n c.args.line.now) c.min.ensures ∙ take_min _ c.args.line.now in
    c.end.ensures ∙ ap (λ (t : List ℕ). t ++ 10 ∷ [])
    (c.loop-byte.invariant.text ∙ ap (λ (l : List ℕ). codes "error refused: " ++ map shown_byte l) front)

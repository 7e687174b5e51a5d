-- A piece of a file, and what stands behind it.
use Rattle.std.proofs.Common.{◌≡◌, ℕ, ◌+◌, ◌<◌, List, ◌++◌, take, drop, sym, ◌∙◌, ap, arith}
use Rattle.std.proofs.Math.Seq.{take-add}
use Rattle.std.proofs.lemmas.List.{drop-drop}
use Rattle.world_traits.specs.Files.{Files, file_of}
use Rattle.world_traits.specs.declared.disk.Side.{Side}
use Rattle.journal_core.specs.Several.{IsFrontOf}

pub one_piece : (piece bytes : List ℕ) (size : ℕ) → 0 < size → piece ≡ take size bytes → IsFrontOf piece bytes
one_piece piece bytes size some is = record { size = size; some = some; is = is }

-- a piece and the one that was read behind it
pub two_pieces : (side : Side) (f g : Files) (piece more both : List ℕ) (at size missing next : ℕ) → 0 < size → g ≡ f → next ≡ at + size →
    piece ≡ take size (drop at (file_of side f)) → more ≡ take missing (drop next (file_of side g)) → both ≡ piece ++ more →
    IsFrontOf both (drop at (file_of side f))
two_pieces side f g piece more both at size missing next some same there one two joined =
    let file = file_of side f in
    let here : drop next (file_of side g) ≡ drop size (drop at (file_of side f)) =
    ap (λ (x : Files). drop next (file_of side x)) same ∙ ap (λ (n : ℕ). drop n (file_of side f)) (there ∙ omega arith)
    ∙ sym (drop-drop size at (file_of side f)) in
    record {
      size = size + missing;
      some = omega (arith, some);
      is = joined ∙ ap (λ (l : List ℕ). l ++ more) one ∙ ap (λ (l : List ℕ). take size (drop at (file_of side f)) ++ l) (two ∙ ap (take missing) here)
          ∙ sym (take-add size missing (drop at (file_of side f)));
    }

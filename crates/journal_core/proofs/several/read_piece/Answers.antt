use Rattle.std.proofs.Common.{◌∙◌, ap, rules, ℕ, List, ◌++◌}
use Rattle.journal_core.proofs.Looking.{looks_then}
use Rattle.journal_core.proofs.Pieces.{one_piece, two_pieces}
use Rattle.journal_core.proofs.several.read_piece.Goals as goal

pub returns-in_default-clause-value : goal.returns-in_default-clause-value
returns-in_default-clause-value g c tells = one_piece _ _ _ c.requires (c.in_ok-piece.ensures.value tells)

pub returns-in_err-missing-clause-told : goal.returns-in_err-missing-clause-told
returns-in_err-missing-clause-told g c tells = looks_then _ _ _ _ _ _ (c.in_ok-piece.ensures.told tells) (c.in_err-missing.ensures.told tells)

pub returns-then-missing-eq0-clause-value : goal.returns-then-missing-eq0-clause-value
returns-then-missing-eq0-clause-value g c tells = one_piece _ _ _ c.requires (c.in_ok-piece.ensures.value tells)

pub returns-then-missing-eq0-clause-told : goal.returns-then-missing-eq0-clause-told
returns-then-missing-eq0-clause-told g c tells = looks_then _ _ _ _ _ _ (c.in_ok-piece.ensures.told tells) (c.in_ok-missing.ensures.told tells)

pub returns-in_err-more-clause-told : goal.returns-in_err-more-clause-told
returns-in_err-more-clause-told g c tells = looks_then _ _ _ _ _ _
    (looks_then _ _ _ _ _ _ (c.in_ok-piece.ensures.told tells) (c.in_ok-missing.ensures.told tells)) (c.in_err-more.ensures.told tells)

pub returns-in_err-extend-clause-told : goal.returns-in_err-extend-clause-told
returns-in_err-extend-clause-told g c tells = looks_then _ _ _ _ _ _
    (looks_then _ _ _ _ _ _ (c.in_ok-piece.ensures.told tells) (c.in_ok-missing.ensures.told tells)) (c.in_ok-more.ensures.told tells)

pub returns-clause-told : goal.returns-clause-told
returns-clause-told g c tells = looks_then _ _ _ _ _ _
    (looks_then _ _ _ _ _ _ (c.in_ok-piece.ensures.told tells) (c.in_ok-missing.ensures.told tells)) (c.in_ok-more.ensures.told tells)

pub returns-clause-value : goal.returns-clause-value
returns-clause-value g c tells =
    two_pieces _ _ _ _ _ _ _ _ _ _ c.requires
    (looks_then _ _ _ _ _ _ (c.in_ok-piece.ensures.told tells) (c.in_ok-missing.ensures.told tells)).seen_same (search (rules, c.in-Some.ensures))
    (c.in_ok-piece.ensures.value tells) (c.in_ok-more.ensures.value tells)
    (c.in_ok-extend.ensures.done ∙ ap (λ (l : List ℕ). c.in_ok-piece.piece ++ l) c.as_slice-2.ensures)

-- The lines of responses, one after another.
use Rattle.std.proofs.Common.{◌≡◌, ℕ, zero, suc, ◌+◌, ◌<◌, List, [], ◌∷◌, ◌++◌, length, take, get_or, refl, sym, ◌∙◌, ap, subst, arith, append_assoc, add-one}
use Rattle.std.proofs.Math.Seq.{take-suc}
use Rattle.std.proofs.lemmas.List.{append-nil}
use Rattle.imap_model.specs.Lines.{AreLines, IsSpelled}
use Rattle.imap_model.specs.declared.response.Response.{Response}
use Rattle.response_lines.specs.LineTexts.{◌⌢◌, line_end}
use Rattle.response_lines.specs.Tellable.{AreTellable, IsTellable}
use Rattle.response_lines.specs.Written.{WritesLines}

pub are_more : (told : List Response) (stream line : List ℕ) (response : Response) → AreLines told stream → IsSpelled response line →
    AreLines (told ++ response ∷ []) (stream ++ (line ++ line_end))
are_more [] stream line response are spelled = (line, [], spelled, ap (λ (t : List ℕ). t ++ (line ++ line_end)) are, refl)
are_more (first ∷ told) stream line response are spelled = (
  are.0,
  are.1 ++ (line ++ line_end),
  are.2,
  ap (λ (t : List ℕ). t ++ (line ++ line_end)) are.3 ∙ append_assoc are.0 (13 ∷ 10 ∷ are.1) (line ++ line_end),
  are_more told are.1 line response are.4 spelled,
)

pub writes_none : (out : List ℕ) → WritesLines [] out out
writes_none out = record { added = []; grown = sym (append-nil out); lines = refl }

pub writes_more : (i : ℕ) (told : List Response) (response : Response) (line o x z : List ℕ) → i < length told →
    response ≡ get_or told i response → WritesLines (take i told) o x → z ≡ x ⌢ (line ⌢ line_end) → IsSpelled response line
    → WritesLines (take (i + 1) told) o z
unfolding ◌⌢◌
writes_more i told response line o x z lt is w grown spelled =
    let more : take i told ++ response ∷ [] ≡ take (i + 1) told =
    ap (λ (r : Response). take i told ++ r ∷ []) is ∙ sym (take-suc told i response lt)
    ∙ ap (λ (n : ℕ). take n told) (sym (add-one i)) in
    record {
      added = w.added ++ (line ++ line_end);
      grown = grown ∙ ap (λ (t : List ℕ). t ++ (line ++ line_end)) w.grown ∙ append_assoc o w.added (line ++ line_end);
      lines = subst (λ (rs : List Response). AreLines rs (w.added ++ (line ++ line_end))) more (are_more (take i told) w.added line response w.lines spelled);
    }

pub tellable_at : (told : List Response) (i : ℕ) (response : Response) → AreTellable told → i < length told →
    response ≡ get_or told i response → IsTellable response
tellable_at [] i response all lt is = absurd (omega arith)
tellable_at (first ∷ told) zero response all lt is = subst IsTellable (sym is) all.0
tellable_at (first ∷ told) (suc i) response all lt is = tellable_at told i response all.1 (omega arith) is

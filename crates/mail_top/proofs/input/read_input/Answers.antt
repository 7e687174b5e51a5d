use Rattle.std.proofs.Common.{◌++◌, ◌∙◌, ℕ, List, ap, refl, rules, sym, take}
use Rattle.std.proofs.lemmas.List.{append_assoc}
use Rattle.mail_top.proofs.Inputs.{input_err, memory_err, front_taken, longer, piece_most, ended_out, full_out}
use Rattle.mail_top.proofs.input.read_input.Goals as goal

pub returns-in_err-count-clause-value : goal.returns-in_err-count-clause-value
returns-in_err-count-clause-value g c = (g.I.Source.rest c.args.input.now, λ _. refl, input_err _ _ c.from_residual.ensures.1)

pub returns-in_err-extend_from_slice-clause-value : goal.returns-in_err-extend_from_slice-clause-value
returns-in_err-extend_from_slice-clause-value g c =
    (g.I.Source.rest c.args.input.now, λ _. refl, memory_err _ _ c.from_residual-in_err-extend_from_slice.ensures.1)

pub returns-in_err-extend_from_slice-clause-taken : goal.returns-in_err-extend_from_slice-clause-taken
returns-in_err-extend_from_slice-clause-taken g c tells =
    front_taken _ (c.loop-piece.given.items ++ take c.in_ok-count.count c.read.new.into) _
    (c.loop-piece.invariant.taken tells ∙ ap (λ (l : List ℕ). c.loop-piece.given.items ++ l) (c.in_ok-count.ensures.bytes tells)
    ∙ sym (append_assoc c.loop-piece.given.items (take c.in_ok-count.count c.read.new.into) _))
    (piece_most c.loop-piece.given.items c.read.new.into c.in_ok-count.count (search rules) c.loop-piece.invariant.most)

pub returns-clause-value : goal.returns-clause-value
returns-clause-value g c = (
  c.loop-piece.given.items ++ g.I.Source.rest c.loop-piece.input,
  λ tells. sym (c.loop-piece.invariant.taken tells),
  (
    refl,
    longer c.loop-piece.given.items (g.I.Source.rest c.loop-piece.input) (search rules),
  ),
)

pub returns-then-count-eq0-clause-out : goal.returns-then-count-eq0-clause-out
returns-then-count-eq0-clause-out g c tells unfailed enough =
    ended_out _ (c.loop-piece.given.items ++ take c.in_ok-count.count c.read.new.into) _
    (c.loop-piece.invariant.taken tells ∙ ap (λ (l : List ℕ). c.loop-piece.given.items ++ l) (c.in_ok-count.ensures.bytes tells)
    ∙ sym (append_assoc c.loop-piece.given.items (take c.in_ok-count.count c.read.new.into) _)) (search rules)
    (piece_most c.loop-piece.given.items c.read.new.into c.in_ok-count.count (search rules) c.loop-piece.invariant.most)

pub returns-clause-out : goal.returns-clause-out
returns-clause-out g c tells unfailed enough = full_out _ c.loop-piece.given.items _ (c.loop-piece.invariant.taken tells) (search rules)

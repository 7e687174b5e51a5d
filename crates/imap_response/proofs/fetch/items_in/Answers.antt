use Rattle.std.proofs.Common.{sym, ◌∙◌, refl}
use Rattle.std.proofs.lemmas.Result.{err_from_is_err_and}
use Rattle.imap_response.specs.Left.{left_of}
use Rattle.imap_response.proofs.TurnLemmas.{items_first, items_broken, items_closed, items_stuck, items_on, items_out}
use Rattle.imap_response.proofs.fetch.items_in.Goals as goal

pub returns-in_err-told-clause-value : goal.returns-in_err-told-clause-value
returns-in_err-told-clause-value c = let p = err_from_is_err_and c.from_residual.result c.from_residual.ensures.1 in
    rw (p.1, p.2) (items_broken _ _ _ _ _ _ _ c.loop-test.true c.in_err-told.ensures.value c.loop.invariant.same)

pub returns-in-Ok-clause-value : goal.returns-in-Ok-clause-value
returns-in-Ok-clause-value c = sym c.loop.invariant.same ∙ items_closed _ _ _ _ _
    (left_of c.in_ok-told.behind) _ _ c.loop-test.true c.in_ok-told.ensures.value c.in-Ok.ensures.value
    ∙ sym (rw (c.with_told-gathered.ensures.value, c.at.ensures) refl)

pub returns-in_err-gap-in-Err-clause-value : goal.returns-in_err-gap-in-Err-clause-value
returns-in_err-gap-in-Err-clause-value c = let p = err_from_is_err_and c.from_residual-in_err-gap-in-Err.result c.from_residual-in_err-gap-in-Err.ensures.1 in
    rw (p.1, p.2) (items_stuck _ _ _ _ _
    (left_of c.in_ok-told.behind) _ _ c.loop-test.true c.in_ok-told.ensures.value c.in-Err.ensures.place c.in-Err.ensures.value _ _
    c.in_err-gap-in-Err.ensures.value c.loop.invariant.same)

pub loop-init : goal.loop-init
loop-init c = record { small = rw c.nothing-gathered.ensures tt; same = rw c.nothing-gathered.ensures (items_first _ _ _ _) }

pub loop-preserved : goal.loop-preserved
loop-preserved c = record {
  small = c.with_told-gathered.ensures.small;
  same = rw (c.with_told-gathered.ensures.value, c.at-rest.ensures)
      (sym (items_on _ _ _ _ _
      (left_of c.in_ok-told.behind) _ _ c.loop-test.true c.in_ok-told.ensures.value c.in-Err.ensures.place c.in-Err.ensures.value _
      c.in_ok-gap-in-Err.ensures.value) ∙ c.loop.invariant.same);
}

pub returns-clause-value : goal.returns-clause-value
returns-clause-value c = sym c.loop.invariant.same ∙ items_out _ _ _ _ _ c.loop-test.false

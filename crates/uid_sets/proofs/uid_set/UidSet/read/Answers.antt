-- No bytes, and the faults of some.
use Rattle.std.proofs.Common.{◌≡◌, ◌<◌, length, ap, arith}
use Rattle.std.proofs.lemmas.Bool.Decides.{nat_tests}
use Rattle.std.proofs.lemmas.Result.{err_from_is_err_and}
use Rattle.uid_sets.proofs.Fits.{empty_refused, Err_injective}
use Rattle.uid_sets.proofs.Items.{items_of_none}
use Rattle.uid_sets.proofs.uid_set.UidSet.read.Goals as goal

pub returns-then-is_empty-clause-fault : goal.returns-then-is_empty-clause-fault
returns-then-is_empty-clause-fault c =
    let none : length c.args.text.now ≡ 0 = grind (arith, nat_tests) in items_of_none c.args.text.now none

pub returns-in_err-ranges-clause-empty : goal.returns-in_err-ranges-clause-empty
returns-in_err-ranges-clause-empty c =
    let text = c.args.text.now in
    let some : 0 < length text = grind (arith, nat_tests) in
    let p = err_from_is_err_and c.from_residual.result c.from_residual.ensures.1 in
    rw (p.1, p.2) ((
      λ is. absurd (empty_refused text _ some c.in_err-ranges.ensures.fault (Err_injective is)),
      λ none. let len = ap length none in absurd (omega arith),
    ))

-- A range more is written, behind a comma where it isn't the first.
use Rattle.std.proofs.Common.{◌≡◌, ◌+◌, ◌<◌, ◌++◌, length, take, get_or, refl, arith}
use Rattle.std.proofs.lemmas.List.{length-take-le}
use Rattle.uid_sets.specs.Spelling.{set_text, range_text}
use Rattle.uid_sets.specs.declared.uid.UidRange.{UidRange}
use Rattle.uid_sets.proofs.Texts.{set_text-push, set_text-first, take_here}
use Rattle.uid_sets.proofs.spelling.text_of.Goals as goal
use Rattle.uid_sets.proofs.spelling.text_of.Goals.{then-i-gt0+in_ok-push, else-i-gt0}

abbrev none : UidRange
none = record { low = 0; high = 0 }

pub loop-i-preserved : goal.loop-i-preserved
loop-i-preserved c =
    let ranges = c.args.ranges.now in
    let range = get_or ranges c.loop-i.i none in
    let here = take_here ranges c.loop-i.i none c.loop-i-test.true in
    let step : c.if-i-gt0.text.items ++ range_text range ≡ set_text (take (c.loop-i.i + 1) ranges) =
    elim c.if-i-gt0.branch [
      | then-i-gt0+in_ok-push w ↦
          let len = length-take-le c.loop-i.i ranges (omega arith) in
          let some : 0 < length (take c.loop-i.i ranges) = omega arith in
          let push = set_text-push (take c.loop-i.i ranges) range some in
          rw (w.text-is, w.in_ok-push.ensures.items, c.loop-i.invariant, here, push) refl
      | else-i-gt0 w ↦
          rw (w.text-is, here) (set_text-first ranges c.loop-i.i _ range (omega arith) c.loop-i.invariant)
    ] in
    rw c.in_ok-push_range.ensures step

-- The rows so far, with those that are still to come, are all; and none that is bare was passed.
use Rattle.std.proofs.Common.{◌≡◌, ◌+◌, ◌++◌, drop}
use Rattle.qresync_core.specs.ReadRows.{rows_in, first_bare}
use Rattle.qresync_core.proofs.rows.told_rows.Given as goal

abbrev pub invariant-loop-place : goal.invariant-loop-place
invariant-loop-place l = record {
  rows : l.rows.items ++ rows_in (drop l.place l.told) ≡ rows_in l.told;
  bare : first_bare (l.first + l.place) (drop l.place l.told) ≡ first_bare l.first l.told;
}

use Rattle.std.proofs.Common.{◌≡◌, ◌++◌, ◌+◌, take, map, length}
use Rattle.std.specs.Prelude.{codes}
use Rattle.conflict_report.specs.StatusLines.{shown_byte}
use Rattle.conflict_report.proofs.told.Told.error_refused.Given as goal

abbrev pub invariant-loop-byte : goal.invariant-loop-byte
invariant-loop-byte l = record {
  text : l.text ≡ codes "error refused: " ++ map shown_byte (take l.byte-index l.byte-items);
  len : length l.text ≡ 15 + l.byte-index;
}

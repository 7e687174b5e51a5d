use Rattle.std.proofs.Common.{◌≡◌}
use Rattle.record_codec.specs.Reading.{many_at, row_at, row_uid}
use Rattle.record_codec.specs.Spelling.{SpellFlags}
use Rattle.record_codec.proofs.Reader.{onto}
use Rattle.record_codec.proofs.reading.Fields.rows.Given as goal

abbrev pub invariant-loop-left : goal.invariant-loop-left
invariant-loop-left l = record {
  read : many_at (row_at l.vanished) row_uid l.count 0 l.fn.self.rest.now
      ≡ onto l.rows.items (many_at (row_at l.vanished) row_uid l.left l.floor l.self.rest.now);
  last : SpellFlags l.last.text.now l.last.flags;
}

abbrev pub decreases-loop-left : goal.decreases-loop-left
decreases-loop-left l = l.left

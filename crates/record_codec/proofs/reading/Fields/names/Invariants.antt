use Rattle.std.proofs.Common.{◌≡◌, []}
use Rattle.record_codec.specs.Reading.{many_at, new_name_at, and_name}
use Rattle.record_codec.proofs.Reader.{onto}
use Rattle.record_codec.proofs.reading.Fields.names.Given as goal

abbrev pub invariant-loop-left : goal.invariant-loop-left
invariant-loop-left l = many_at new_name_at and_name l.count [] l.fn.self.rest.now
    ≡ onto l.names.items (many_at new_name_at and_name l.left l.names.items l.self.rest.now)

abbrev pub decreases-loop-left : goal.decreases-loop-left
decreases-loop-left l = l.left

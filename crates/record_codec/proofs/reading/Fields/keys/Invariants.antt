use Rattle.std.proofs.Common.{◌≡◌, None}
use Rattle.record_codec.specs.Reading.{many_at, key_at, this_key, last_key}
use Rattle.record_codec.proofs.Reader.{onto}
use Rattle.record_codec.proofs.reading.Fields.keys.Given as goal

abbrev pub invariant-loop-left : goal.invariant-loop-left
invariant-loop-left l = many_at key_at this_key l.count None l.fn.self.rest.now ≡ onto l.set (many_at key_at this_key l.left (last_key l.set) l.self.rest.now)

abbrev pub decreases-loop-left : goal.decreases-loop-left
decreases-loop-left l = l.left

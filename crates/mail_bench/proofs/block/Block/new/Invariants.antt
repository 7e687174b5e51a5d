use Rattle.std.proofs.Common.{◌≡◌, ◌+◌, ◌-◌, ◌%◌, length}
use Rattle.mail_bench.specs.Repeated.{stretch}
use Rattle.mail_bench.proofs.block.Block.new.Given as goal

abbrev pub invariant-loop-bytes : goal.invariant-loop-bytes
invariant-loop-bytes l =
    (l.bytes.items ≡ stretch l.text 0 (length l.bytes.items)) × (length l.bytes.items % length l.text ≡ 0)

abbrev pub decreases-loop-bytes : goal.decreases-loop-bytes
decreases-loop-bytes l = length l.text + l.most - l.bytes.len

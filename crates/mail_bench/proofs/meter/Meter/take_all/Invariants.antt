use Rattle.std.proofs.Common.{◌≡◌, ℕ, List, length}
use Rattle.mail_bench.specs.Metered.{Metered}
use Rattle.mail_bench.proofs.meter.Meter.take_all.Given as goal

abbrev pub invariant-loop : goal.invariant-loop
invariant-loop l = (l.self.reads ≡ l.fn.self.reads) × ((all : List ℕ) → Metered all l.fn.self → Metered all l.self)

abbrev pub decreases-loop : goal.decreases-loop
decreases-loop l = length l.self.feed.bytes

use Rattle.std.proofs.Common.{ℕ, List, arith, ap, length}
use Rattle.world_mem.proofs.Stepping.{none_of}
use Rattle.world_mem.proofs.script_link.ScriptLink.new.Goals as goal

pub invariant_of-result : goal.invariant_of-result
invariant_of-result c = (ap (λ (l : List ℕ). length l) (none_of c.args.script.items), omega arith)

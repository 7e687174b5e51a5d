use Rattle.std.proofs.Common.{◌≡◌, drop}
use Rattle.world_mem.specs.Scripts.{rest_at}
use Rattle.world_mem.proofs.script_rest.rest_at.Given as goal

abbrev pub invariant-loop-piece : goal.invariant-loop-piece
invariant-loop-piece l = rest_at l.at (drop l.piece-index l.script) ≡ rest_at l.place l.script

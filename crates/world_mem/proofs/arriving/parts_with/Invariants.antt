use Rattle.std.proofs.Common.{◌≡◌, take}
use Rattle.world_mem.proofs.arriving.parts_with.Given as goal

abbrev pub invariant-loop-part : goal.invariant-loop-part
invariant-loop-part l = l.all ≡ take l.part-index l.parts

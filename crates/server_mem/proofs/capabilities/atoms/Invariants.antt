use Rattle.std.proofs.Common.{◌≡◌, take}
use Rattle.server_mem.specs.Offers.{atoms}
use Rattle.server_mem.proofs.capabilities.atoms.Given as goal

abbrev pub invariant-loop-word : goal.invariant-loop-word
invariant-loop-word l = l.kept ≡ atoms (take l.word-index l.names)

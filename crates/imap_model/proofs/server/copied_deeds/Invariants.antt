use Rattle.std.proofs.Common.{◌≡◌, take}
use Rattle.imap_model.proofs.server.copied_deeds.Given as goal

abbrev pub invariant-loop-deed : goal.invariant-loop-deed
invariant-loop-deed l = l.copies ≡ take l.deed-index l.deeds

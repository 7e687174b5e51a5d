use Rattle.std.proofs.Common.{◌↔◌, ℕ, take}
use Rattle.uid_sets.specs.UidSet.{Member, IsCanonical}
use Rattle.imap_model.proofs.SetOf.{Among}
use Rattle.server_mem.proofs.Setting.{AreUids}
use Rattle.server_mem.proofs.sets.set_of.Given as goal

abbrev pub invariant-loop-uid : goal.invariant-loop-uid
invariant-loop-uid l = IsCanonical l.set × (AreUids (take l.uid-index l.uids) × ((v : ℕ) → Member l.set v ↔ Among v (take l.uid-index l.uids)))

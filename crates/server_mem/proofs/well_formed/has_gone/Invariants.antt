use Rattle.std.proofs.Common.{◌≡◌, length}
use Rattle.std.specs.Prelude.{is_some}
use Rattle.imap_model.specs.Lookups.{gone_at}
use Rattle.server_mem.proofs.well_formed.has_gone.Given as goal

abbrev pub invariant-loop-one : goal.invariant-loop-one
invariant-loop-one l = is_some (gone_at l.uid l.gone) ≡ is_some (gone_at l.uid l.rest)

abbrev pub decreases-loop-one : goal.decreases-loop-one
decreases-loop-one l = length l.rest

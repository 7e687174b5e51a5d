use Rattle.std.proofs.Common.{◌≡◌, take}
use Rattle.journal_core.specs.Appending.{told_end}
use Rattle.journal_core.specs.Creating.{end_of}
use Rattle.journal_core.proofs.creating.place_behind.Given as goal

abbrev pub invariant-loop-body : goal.invariant-loop-body
invariant-loop-body l = l.place ≡ told_end (end_of (take l.body-index l.bodies))

-- What matches so far is what matches in the end, but for what is still told.
use Rattle.std.proofs.Common.{◌↔◌, ℕ, length}
use Rattle.uid_sets.specs.UidSet.{Member}
use Rattle.append_probe.specs.Marked.{IsIdentifier}
use Rattle.append_probe.specs.Verdict as spec
use Rattle.append_probe.proofs.verdict.matching_in.Given as goal

abbrev pub invariant-loop-response : goal.invariant-loop-response
invariant-loop-response l = IsIdentifier l.id → (uid : ℕ) →
    spec.Matches l.candidates l.told l.id uid ↔ spec.MatchesBy l.candidates l.id uid (Member l.matching uid) (spec.ids_told uid l.rest)

abbrev pub decreases-loop-response : goal.decreases-loop-response
decreases-loop-response l = length l.rest

use Rattle.std.proofs.Common.{◌≡◌, ◌<◌, ◌++◌, ℕ, List, All, length}
use Rattle.cases.specs.Written.{quoted}
use Rattle.cases.proofs.QuotedReading.{Left}
use Rattle.cases.proofs.words.take_quoted.Given as goal

abbrev pub invariant-loop-byte : goal.invariant-loop-byte
invariant-loop-byte l = (length l.rest < length l.fn.text)
    × ((whole tail : List ℕ) → All (λ byte. byte < 256) whole → l.fn.text ≡ quoted whole ++ tail →
    Left whole tail l.initial.word.items l.word.items l.rest)

abbrev pub decreases-loop-byte : goal.decreases-loop-byte
decreases-loop-byte l = length l.rest

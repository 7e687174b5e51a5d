use Rattle.std.proofs.Common.{◌≡◌, ◌<◌, ◌++◌, ℕ, List, Option, length}
use Rattle.cases.specs.Reading.{IsText, ended, in_quotes}
use Rattle.cases.proofs.words.take_texts.Given as goal

abbrev pub invariant-loop-more : goal.invariant-loop-more
invariant-loop-more l = (length l.rest < length l.fn.text)
    × ((whole : List ℕ) (left : Option (List ℕ)) → IsText whole → l.fn.text ≡ in_quotes whole ++ ended left →
    (l.rest ≡ ended left) × (l.word.items ≡ l.fn.word.items ++ whole))

abbrev pub decreases-loop-more : goal.decreases-loop-more
decreases-loop-more l = length l.rest

use Rattle.std.proofs.Common.{◌≡◌, ◌∷◌, List, All}
use Rattle.std.specs.Option.{option_copied}
use Rattle.flag_set.proofs.Faults.{left_len}
use Rattle.cases.specs.declared.words.Word.{Word}
use Rattle.cases.specs.Reading.{IsWord, line_of}
use Rattle.cases.proofs.ReadAgain.{Unread}
use Rattle.cases.proofs.words.words_of.Given as goal

abbrev pub invariant-loop-left : goal.invariant-loop-left
invariant-loop-left l = (first : Word) (more : List Word) → All IsWord (first ∷ more) → l.fn.line ≡ line_of (first ∷ more) →
    Unread l.words.items (first ∷ more) (option_copied l.left)

abbrev pub decreases-loop-left : goal.decreases-loop-left
decreases-loop-left l = left_len (option_copied l.left)

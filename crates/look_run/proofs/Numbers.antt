-- Which words write the number of an action.
use Rattle.std.proofs.Common.{◌≡◌, ℕ, List, sym, ◌∙◌, arith}
use Rattle.std.specs.Prelude.{decimal}
use Rattle.mail_top.proofs.Wording.{one_decimal}
use Rattle.look_run.specs.Words.{Asks, IsNumbered, WritesNumber}
use Rattle.look_run.specs.declared.look.Look.{Look}
use Rattle.look_run.specs.declared.look.Look.TheVariants as looks

-- a 0 is no action's number
pub zero_number : (word : List ℕ) (number : ℕ) → word ≡ decimal number → number ≡ 0 → (n : ℕ) → WritesNumber word n → ⊥
zero_number word number written none n w =
    let same = one_decimal n number w.fits (omega (arith, none)) (sym w.is ∙ written) in omega (arith, same, none, w.from_one)

-- what is asked for is numbered from 1
pub asked_numbered : (words : List (List ℕ)) (look : Look) → Asks words look → IsNumbered look
asked_numbered words looks.History asks = tt
asked_numbered words (looks.Letter n) asks = asks.writes.from_one

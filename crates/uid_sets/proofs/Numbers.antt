-- The digits that a text begins with.
use Rattle.std.proofs.Common.{◌≡◌, ℕ, ◌<◌, true, List, take, arith}
use Rattle.std.specs.List.{prefix_len}
use Rattle.std.specs.Char.{is_ascii_digit}
use Rattle.std.specs.Int.{IsInRange}
use Rattle.std.specs.Str.Parse.{AllDigits}
use Rattle.std.proofs.lemmas.List.{get_or-take}
use Rattle.std.proofs.lemmas.List.Sums.{prefix_len_passes}
use Rattle.std.proofs.lemmas.List.Folds.{length-prefix_len}
use Rattle.std.proofs.lemmas.Str.Parse.{tells_by_index, numerals_by_value}
use Rattle.std.proofs.lemmas.Bool.Decides.{nat_tests}

digit_in_range : (c : ℕ) → is_ascii_digit c ≡ true → IsInRange 48 57 c
digit_in_range c is = grind (arith, nat_tests)

-- they are digits
pub AllDigits-front : (text : List ℕ) → AllDigits 10 (take (prefix_len is_ascii_digit text) text)
AllDigits-front text =
    let digits = take (prefix_len is_ascii_digit text) text in
    (numerals_by_value _ tells_by_index).to digits (λ i within.
    let below : i < prefix_len is_ascii_digit text = rw length-prefix_len at within in
    rw (get_or-take _ text i 0 below) (digit_in_range _ (prefix_len_passes is_ascii_digit text i 0 below)))

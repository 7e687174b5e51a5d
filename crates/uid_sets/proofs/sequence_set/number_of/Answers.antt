-- The number that the digits spell, or its first fault.
use Rattle.std.proofs.Common.{arith}
use Rattle.std.proofs.lemmas.Bool.Decides.{nat_tests}
use Rattle.uid_sets.specs.SequenceSet.{number}
use Rattle.uid_sets.proofs.Numbers.{AllDigits-front}
use Rattle.uid_sets.proofs.sequence_set.number_of.Goals as goal

pub value_of-requires : goal.value_of-requires
value_of-requires c = rw c.digit_count_of-count.ensures (AllDigits-front c.args.text.now)

pub returns-then-count-eq0 : goal.returns-then-count-eq0
unfolding number
returns-then-count-eq0 c = grind (arith, nat_tests)

pub returns-in-Some-eq0 : goal.returns-in-Some-eq0
unfolding number
returns-in-Some-eq0 c = let value = rw c.digit_count_of-count.ensures at c.in-Some-eq0.ensures.value in grind (arith, nat_tests)

pub returns-in-Some : goal.returns-in-Some
unfolding number
returns-in-Some c = let value = rw c.digit_count_of-count.ensures at c.in-Some.ensures.value in grind (arith, nat_tests)

pub returns-in-Some-2 : goal.returns-in-Some-2
unfolding number
returns-in-Some-2 c = let value = rw c.digit_count_of-count.ensures at c.in-Some-2.ensures.value in grind (arith, nat_tests)

pub returns-in-None : goal.returns-in-None
unfolding number
returns-in-None c = let value = rw c.digit_count_of-count.ensures at c.in-None.ensures.too_large in grind (arith, nat_tests)

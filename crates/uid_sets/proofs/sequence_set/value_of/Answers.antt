-- One digit more, and a number that only grows.
use Rattle.std.proofs.Common.{◌+◌, get_or, arith}
use Rattle.std.proofs.lemmas.Str.{digit_value_digit}
use Rattle.std.proofs.lemmas.Str.Parse.{digit_at, digits_value-take-le}
use Rattle.std.proofs.lemmas.Int.Digits.{digits_value_more}
use Rattle.uid_sets.proofs.sequence_set.value_of.Goals as goal

pub overflow_sub-digit : goal.overflow_sub-digit
overflow_sub-digit c =
    let digit = digit_at c.args.digits.now c.loop-digit.digit-index c.requires c.loop-digit-test.true in omega arith

pub returns-then-value-from-clause-too_large : goal.returns-then-value-from-clause-too_large
returns-then-value-from-clause-too_large c =
    let digits = c.args.digits.now in
    let i = c.loop-digit.digit-index in
    let digit = digit_at digits i c.requires c.loop-digit-test.true in
    let is = digit_value_digit (get_or digits i 0) digit in
    let more = digits_value_more 10 digits i c.loop-digit-test.true in
    let all = digits_value-take-le 10 digits (i + 1) (omega arith) in
    omega arith

pub loop-digit-preserved : goal.loop-digit-preserved
loop-digit-preserved c =
    let digits = c.args.digits.now in
    let i = c.loop-digit.digit-index in
    let digit = digit_at digits i c.requires c.loop-digit-test.true in
    let is = digit_value_digit (get_or digits i 0) digit in
    let more = digits_value_more 10 digits i c.loop-digit-test.true in
    record { fits = omega arith; value = omega arith }

use Rattle.std.proofs.Common.{◌≡◌, take}
use Rattle.std.specs.Str.Parse.{digits_value}
use Rattle.mail_base.specs.Number.{FitsBefore}
use Rattle.mail_base.proofs.number.read_up_to.Given as goal

abbrev pub invariant-loop-at : goal.invariant-loop-at
invariant-loop-at l = FitsBefore l.largest l.text l.at × (l.number ≡ digits_value 10 (take l.at l.text))

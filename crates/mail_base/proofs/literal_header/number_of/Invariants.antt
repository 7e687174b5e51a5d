use Rattle.std.proofs.Common.{◌≡◌, take}
use Rattle.std.specs.Prelude.{min}
use Rattle.std.specs.Str.Parse.{digits_value}
use Rattle.mail_base.proofs.literal_header.number_of.Given as goal

abbrev pub invariant-loop-at : goal.invariant-loop-at
invariant-loop-at l = l.number ≡ min (digits_value 10 (take l.at l.digits)) 18446744073709551615

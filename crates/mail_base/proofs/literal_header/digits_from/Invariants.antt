use Rattle.std.proofs.Common.{◌≤◌, length, drop}
use Rattle.std.specs.Str.Parse.{AllDigits}
use Rattle.mail_base.proofs.literal_header.digits_from.Given as goal

abbrev pub invariant-loop-from : goal.invariant-loop-from
invariant-loop-from l = (l.from ≤ length l.text) × AllDigits 10 (drop l.from l.text)

abbrev pub decreases-loop-from : goal.decreases-loop-from
decreases-loop-from l = l.from

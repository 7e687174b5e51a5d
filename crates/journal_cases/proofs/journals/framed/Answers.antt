use Rattle.std.proofs.Common.{arith}
use Rattle.journal_cases.proofs.journals.framed.Goals as goal

pub returns : goal.returns
returns c = record { body = c.args.body.now; size = record { some = c.requires.some; fits = omega (arith, c.requires.fits) }; is = c.in_ok-bytes.ensures }

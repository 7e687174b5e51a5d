use Rattle.std.proofs.Common.{◌≡◌, length}
use Rattle.mail_header.specs.BodiesLeft.{bodies_left}
use Rattle.mail_header.proofs.identifier.IdBodies.next.Given as goal

abbrev pub invariant-loop-line : goal.invariant-loop-line
invariant-loop-line l = bodies_left l.self ≡ bodies_left l.fn.self

abbrev pub decreases-loop-line : goal.decreases-loop-line
decreases-loop-line l = length l.self.rest.now

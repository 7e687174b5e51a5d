use Rattle.std.proofs.Common.{◌≡◌, length}
use Rattle.mail_header.specs.Field.{fields_of}
use Rattle.mail_header.proofs.field.FieldsIterator.next.Given as goal

abbrev pub invariant-loop-line : goal.invariant-loop-line
invariant-loop-line l = fields_of l.self-inside.rest.now ≡ l.fn.self

abbrev pub decreases-loop-line : goal.decreases-loop-line
decreases-loop-line l = length l.self-inside.rest.now

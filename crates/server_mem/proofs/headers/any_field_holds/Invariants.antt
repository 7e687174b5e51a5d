use Rattle.std.proofs.Common.{◌≡◌}
use Rattle.mail_header.specs.Field.{fields_of}
use Rattle.server_mem.specs.IdFields.{any_holds}
use Rattle.server_mem.proofs.headers.any_field_holds.Given as goal

abbrev pub invariant-loop-field : goal.invariant-loop-field
invariant-loop-field l = any_holds l.part l.left ≡ any_holds l.part (fields_of l.text)

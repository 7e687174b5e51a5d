use Rattle.std.proofs.Common.{◌≡◌, ◌++◌}
use Rattle.mail_header.specs.Field.{fields_of}
use Rattle.server_mem.specs.IdFields.{id_text}
use Rattle.server_mem.proofs.headers.fields_text.Given as goal

abbrev pub invariant-loop-field : goal.invariant-loop-field
invariant-loop-field l = l.told.items ++ id_text l.left ≡ id_text (fields_of l.text)

use Rattle.std.proofs.Common.{◌≡◌, take, map}
use Rattle.std.specs.Prelude.{string_bytes}
use Rattle.mail_top.specs.Names.{name_of}
use Rattle.mail_top.proofs.names.names_in.Given as goal

abbrev pub invariant-loop-text : goal.invariant-loop-text
invariant-loop-text l = l.names ≡ map name_of (map string_bytes (take l.text-index l.texts))

use Rattle.std.proofs.Common.{◌≡◌, ◌∷◌, ◌++◌, take}
use Rattle.std.specs.List.{flat_map}
use Rattle.imap_model.specs.Astring.{escaped}
use Rattle.imap_command.proofs.argument.push_quoted.Given as goal

abbrev pub invariant-loop-byte : goal.invariant-loop-byte
invariant-loop-byte l = l.written.items ≡ l.fn.written.items ++ (34 ∷ flat_map escaped (take l.byte-index l.text))

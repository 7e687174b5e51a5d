use Rattle.std.proofs.Common.{◌≡◌, ◌++◌, drop}
use Rattle.imap_response.specs.ReadStrings.{unquoted_from, unquoted}
use Rattle.imap_response.proofs.strings.unquoted.Given as goal

abbrev pub invariant-loop-byte : goal.invariant-loop-byte
invariant-loop-byte l = l.bytes.items ++ unquoted_from l.escaped (drop l.byte-index l.inside) ≡ unquoted l.token

use Rattle.std.proofs.Common.{◌≡◌, ◌+◌, drop}
use Rattle.imap_tokens.specs.Scan.{quoted_from, quoted_size}
use Rattle.imap_tokens.proofs.word.quoted_size.Given as goal

abbrev pub invariant-loop-before : goal.invariant-loop-before
invariant-loop-before l = quoted_from l.escaped (l.before + 1) (drop l.before l.text) ≡ quoted_size l.text

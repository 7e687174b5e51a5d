use Rattle.std.proofs.Common.{◌≡◌, ◌++◌, ◌∷◌, ℕ, List, length}
use Rattle.std.specs.List.{flat_map}
use Rattle.imap_model.specs.Astring.{escaped}
use Rattle.command_texts.proofs.ArgumentReading.{Unquoted}
use Rattle.command_texts.proofs.reading.arguments.unquoted.Given as goal

abbrev pub invariant-loop-byte : goal.invariant-loop-byte
invariant-loop-byte l = (bytes rest : List ℕ) → l.fn.inner ≡ flat_map escaped bytes ++ 34 ∷ rest → Unquoted bytes rest l.text.items l.left

abbrev pub decreases-loop-byte : goal.decreases-loop-byte
decreases-loop-byte l = length l.left

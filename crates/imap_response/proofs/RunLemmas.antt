-- A run is no longer than its text.
use Rattle.std.proofs.Common.{ℕ, ◌≤◌, Bool, List, length}
use Rattle.std.proofs.lemmas.List.Sums.{prefix_len-le-length, suffix_len-le-length}
use Rattle.std.specs.List.{prefix_len, suffix_len}

pub run_within : (test : ℕ → Bool) (text : List ℕ) → prefix_len test text ≤ length text
run_within test text = prefix_len-le-length test text

pub last_within : (test : ℕ → Bool) (text : List ℕ) → suffix_len test text ≤ length text
last_within test text = suffix_len-le-length test text

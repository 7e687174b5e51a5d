-- The items so far and those of what is left are those of the whole text.
use Rattle.std.proofs.Common.{◌≡◌, ◌+◌, MatchOption, length, Ok}
use Rattle.std.specs.List.{slice_split}
use Rattle.uid_sets.specs.SequenceSet.{is_comma, items}
use Rattle.uid_sets.proofs.Items.{left_len, behind}
use Rattle.uid_sets.proofs.sequence_set.written_of.Given as goal

abbrev pub invariant-loop-left : goal.invariant-loop-left
invariant-loop-left l = record {
  place : MatchOption l.left (Unit {0}) (λ texts. l.at + length texts.now ≡ length l.fn.text);
  read : MatchOption l.left
      (items 0 (slice_split is_comma l.fn.text) ≡ Ok l.written.items)
      (λ texts. behind l.written.items (items l.at (slice_split is_comma texts.now)) ≡ items 0 (slice_split is_comma l.fn.text));
}

abbrev pub decreases-loop-left : goal.decreases-loop-left
decreases-loop-left l = left_len l.left

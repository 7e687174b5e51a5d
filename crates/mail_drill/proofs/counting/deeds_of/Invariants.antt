-- The count so far, and that of what is left, are the whole count.
use Rattle.std.proofs.Common.{◌≡◌, ◌+◌, ◌≤◌, drop, length}
use Rattle.imap_model.specs.Ours.{ours}
use Rattle.mail_drill.proofs.counting.deeds_of.Given as goal

abbrev pub invariant-loop-deed : goal.invariant-loop-deed
invariant-loop-deed l = record {
  counted : l.count + length (ours l.number (drop l.deed-index l.history)) ≡ length (ours l.number l.history);
  within : l.count ≤ l.deed-index;
}

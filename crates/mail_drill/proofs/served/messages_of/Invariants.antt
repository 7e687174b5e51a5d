-- The messages so far are those below the next number.
use Rattle.std.proofs.Common.{◌≡◌, ◌+◌, ◌-◌, ◌≤◌}
use Rattle.mail_drill.specs.Beginning.{messages_at_first}
use Rattle.mail_drill.proofs.served.messages_of.Given as goal

abbrev pub invariant-loop-number : goal.invariant-loop-number
invariant-loop-number l = record {
  below : l.messages ≡ messages_at_first (l.number - 1);
  within : l.number ≤ l.size + 1;
}

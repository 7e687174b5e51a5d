use Rattle.std.proofs.Common.{◌≡◌, ◌≤◌, drop, length}
use Rattle.std.specs.Option.{IfSome}
use Rattle.imap_response.specs.ReadTextParts.{closing_from}
use Rattle.imap_response.specs.Closing.{scanned}
use Rattle.imap_response.proofs.text_part.closing.Given as goal

abbrev pub invariant-loop-at : goal.invariant-loop-at
invariant-loop-at l = record {
  within : IfSome l.inside (λ size. size ≤ length l.text);
  same : scanned l.quoted l.escaped l.inside l.at (drop l.at l.text) ≡ closing_from 0 0 l.text;
}

use Rattle.std.proofs.Common.{◌≡◌, ◌-◌, length}
use Rattle.imap_model.specs.Small.{AreFewIfTold}
use Rattle.imap_response.specs.Flags.{kept}
use Rattle.imap_response.specs.Left.{left_of}
use Rattle.imap_response.specs.Items.{items_from, nothing}
use Rattle.imap_response.proofs.fetch.items_in.Given as goal

abbrev pub invariant-loop : goal.invariant-loop
invariant-loop l = record {
  small : AreFewIfTold l.gathered.fetched.flags;
  same : items_from kept (l.end - l.counter) l.gathered (left_of l.rest) ≡ items_from kept (length l.fn.rest.text.now) nothing (left_of l.fn.rest);
}

use Rattle.imap_command.proofs.Chains.{flat_literal}
use Rattle.imap_command.proofs.argument.astring.Goals as goal

pub returns : goal.returns
returns c =
    rw (← c.if-is_bare.ensures, ← c.if-is_quotable.ensures)
    (flat_literal _ _ _ _ _ c.new-written.ensures.items c.in_ok-push_header.ensures c.in_ok-extend_from_slice-2.ensures.items
    c.in_ok-extend_from_slice-3.ensures.items)

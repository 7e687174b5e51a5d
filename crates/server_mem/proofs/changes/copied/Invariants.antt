use Rattle.std.proofs.Common.{◌≡◌, take}
use Rattle.server_mem.proofs.changes.copied.Given as goal

abbrev pub invariant-loop-mailbox : goal.invariant-loop-mailbox
invariant-loop-mailbox l = l.copies ≡ take l.mailbox-index l.boxes

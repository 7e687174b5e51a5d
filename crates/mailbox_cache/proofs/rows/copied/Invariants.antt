-- What is copied is what was passed.
use Rattle.std.proofs.Common.{◌≡◌, take}
use Rattle.mailbox_cache.proofs.rows.copied.Given as goal

abbrev pub invariant-loop-uid : goal.invariant-loop-uid
invariant-loop-uid l = l.copies.items ≡ take l.uid-index l.rows

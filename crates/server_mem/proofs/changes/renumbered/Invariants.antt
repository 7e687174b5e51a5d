use Rattle.std.proofs.Common.{◌≡◌, ◌++◌, drop}
use Rattle.imap_model.specs.Lookups.{renumbered}
use Rattle.server_mem.proofs.changes.renumbered.Given as goal

abbrev pub invariant-loop-message : goal.invariant-loop-message
invariant-loop-message l = renumbered l.uids l.highest l.messages ≡ l.new ++ renumbered l.left l.highest (drop l.message-index l.messages)

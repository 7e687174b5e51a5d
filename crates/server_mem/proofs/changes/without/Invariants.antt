use Rattle.std.proofs.Common.{◌≡◌, take}
use Rattle.imap_model.specs.Lookups.{without_message}
use Rattle.server_mem.proofs.changes.without.Given as goal

abbrev pub invariant-loop-message : goal.invariant-loop-message
invariant-loop-message l = l.left ≡ without_message l.uid (take l.message-index l.messages)

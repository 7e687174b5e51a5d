use Rattle.std.proofs.Common.{◌≡◌, take}
use Rattle.imap_model.specs.PlainServer as plain
use Rattle.server_mem.proofs.questions.ids_in.Given as goal

abbrev pub invariant-loop-message : goal.invariant-loop-message
invariant-loop-message l = l.ids ≡ plain.ids_in l.uids (take l.message-index l.messages)

use Rattle.std.proofs.Common.{◌≡◌, take}
use Rattle.std.specs.Prelude.{map, filter}
use Rattle.imap_model.specs.PlainServer as plain
use Rattle.imap_model.specs.declared.server.Message.{Message}
use Rattle.server_mem.proofs.questions.found_in.Given as goal

abbrev pub invariant-loop-message : goal.invariant-loop-message
invariant-loop-message l = l.uids.items ≡ map (λ (m : Message). m.uid) (filter (plain.is_found l.from l.id l.messages) (take l.message-index l.messages))

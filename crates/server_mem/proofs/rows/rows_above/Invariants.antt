use Rattle.std.proofs.Common.{◌≡◌, take}
use Rattle.std.specs.Prelude.{nat_lt}
use Rattle.imap_model.specs.PlainServer.{rows_where}
use Rattle.server_mem.proofs.rows.rows_above.Given as goal

abbrev pub invariant-loop-message : goal.invariant-loop-message
invariant-loop-message l = l.rows ≡ rows_where (λ m. nat_lt l.modseq m.modseq) (take l.message-index l.messages)

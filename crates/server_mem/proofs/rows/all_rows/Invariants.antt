use Rattle.std.proofs.Common.{◌≡◌, take}
use Rattle.imap_model.specs.PlainServer.{any_message, rows_where}
use Rattle.server_mem.proofs.rows.all_rows.Given as goal

abbrev pub invariant-loop-message : goal.invariant-loop-message
invariant-loop-message l = l.rows ≡ rows_where any_message (take l.message-index l.messages)

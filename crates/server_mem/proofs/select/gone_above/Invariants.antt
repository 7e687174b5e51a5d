use Rattle.std.proofs.Common.{◌≡◌, take}
use Rattle.imap_model.specs.PlainServer as plain
use Rattle.server_mem.proofs.select.gone_above.Given as goal

abbrev pub invariant-loop-one : goal.invariant-loop-one
invariant-loop-one l = l.uids.items ≡ plain.gone_above l.modseq (take l.one-index l.gone)

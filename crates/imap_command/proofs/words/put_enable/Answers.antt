use Rattle.imap_command.proofs.words.put_enable.Goals as goal

pub returns-then-rev2 : goal.returns-then-rev2
returns-then-rev2 c = rw c.if-rev2.true c.put.ensures

use Rattle.journal_core.proofs.Few.{alone_none, alone_some}
use Rattle.journal_core.proofs.journal.Journal.next_alone.Goals as goal

pub returns-in-None-clause-first : goal.returns-in-None-clause-first
returns-in-None-clause-first g c tells bodies from = alone_none bodies _ c.next.new.self (rw c.in-None.is at c.in_ok-next.ensures.first tells bodies from)

pub returns-in-Some-clause-first : goal.returns-in-Some-clause-first
returns-in-Some-clause-first g c tells bodies from = alone_some bodies _ _ c.in-Some.body _
    (rw c.in-Some.is at c.in_ok-next.ensures.first tells bodies from) c.one.ensures

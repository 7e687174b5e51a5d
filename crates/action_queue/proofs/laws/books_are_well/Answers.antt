use Rattle.action_queue.proofs.AnewStays.{well_first, well_in_second, well_stays}
use Rattle.action_queue.proofs.laws.books_are_well.Goals as goal

pub returns-clause-first : goal.returns-clause-first
returns-clause-first c = well_first

pub returns-clause-stays : goal.returns-clause-stays
returns-clause-stays c = well_stays

pub returns-clause-second : goal.returns-clause-second
returns-clause-second c = well_in_second

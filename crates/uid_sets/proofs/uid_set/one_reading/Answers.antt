-- One text, one set, or a fault.
use Rattle.uid_sets.proofs.Fits.{same_reading}
use Rattle.uid_sets.proofs.uid_set.one_reading.Goals as goal

pub returns-clause-same : goal.returns-clause-same
returns-clause-same c = λ text left right first second. same_reading text left right first second

pub returns-clause-refused : goal.returns-clause-refused
returns-clause-refused c = λ text ranges fault spells is. let read = spells.read in cc

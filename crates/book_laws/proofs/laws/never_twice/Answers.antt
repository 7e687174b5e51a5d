-- The law, by its lemma.
use Rattle.book_laws.proofs.Twice.{never_twice}
use Rattle.book_laws.proofs.laws.never_twice.Goals as goal

pub returns : goal.returns
returns c = never_twice

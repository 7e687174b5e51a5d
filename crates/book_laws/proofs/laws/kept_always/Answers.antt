-- The law, by its lemma.
use Rattle.book_laws.proofs.Keeping.{run_keeps}
use Rattle.book_laws.proofs.laws.kept_always.Goals as goal

pub returns : goal.returns
returns c = run_keeps

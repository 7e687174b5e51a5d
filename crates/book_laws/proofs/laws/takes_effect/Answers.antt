-- The law, by its lemmas.
use Rattle.std.proofs.Common.{refl}
use Rattle.book_laws.proofs.Showing.{shown, start_kept}
use Rattle.book_laws.proofs.laws.takes_effect.Goals as goal

pub returns : goal.returns
returns c = record { run = shown; kept = start_kept; effect = refl }

-- The law, by its lemma.
use Rattle.book_laws.proofs.Deducing.{put_found}
use Rattle.book_laws.proofs.laws.had_its_effect.Goals as goal

pub returns : goal.returns
returns c = put_found

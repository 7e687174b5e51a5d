-- The law, by its lemmas.
use Rattle.book_laws.proofs.Deducing.{store_intends, shift_intends, put_intends}
use Rattle.book_laws.proofs.laws.intents_follow.Goals as goal

pub returns : goal.returns
returns c = record { store = store_intends; shift = shift_intends; put = put_intends }

-- The law, by its lemmas.
use Rattle.book_laws.proofs.Deducing.{store_again, shift_again, put_again}
use Rattle.book_laws.proofs.laws.had_no_effect.Goals as goal

pub returns : goal.returns
returns c = record { store = store_again; shift = shift_again; put = put_again }

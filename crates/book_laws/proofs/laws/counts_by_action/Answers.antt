-- The law, by its lemmas.
use Rattle.book_laws.proofs.Counting.{from_table, to_table}
use Rattle.book_laws.proofs.laws.counts_by_action.Goals as goal

pub returns : goal.returns
returns c = record { from_rows = from_table; into_rows = to_table }

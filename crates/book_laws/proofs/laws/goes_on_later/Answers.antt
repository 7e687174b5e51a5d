-- The law, by its lemmas.
use Rattle.book_laws.proofs.Deducing.{foreign_later, later_then, one_goes}
use Rattle.book_laws.proofs.Later.{carried_later}
use Rattle.book_laws.proofs.laws.goes_on_later.Goals as goal

pub returns : goal.returns
returns c = record { others = foreign_later; carried = carried_later; joined = later_then; goes = one_goes }

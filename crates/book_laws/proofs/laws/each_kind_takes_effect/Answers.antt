-- The examples.
use Rattle.book_laws.proofs.Acting.{stores, shifts, puts}
use Rattle.book_laws.proofs.laws.each_kind_takes_effect.Goals as goal

pub returns : goal.returns
returns c = record { store = stores; shift = shifts; put = puts }

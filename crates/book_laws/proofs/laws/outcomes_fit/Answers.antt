-- The law, by its lemmas.
use Rattle.book_laws.proofs.Carrying.{store_done, move_done, append_done, nothing_done}
use Rattle.book_laws.proofs.laws.outcomes_fit.Goals as goal

pub returns : goal.returns
returns c = λ b s t waiting kept w of. record {
  store = store_done b s t waiting kept w of;
  shift = move_done b s t waiting kept w of;
  put = append_done b s t waiting kept w of;
  nothing = nothing_done b s t waiting kept w of;
}

-- The law, by its lemmas.
use Rattle.book_laws.proofs.PlainDeeds.{once_decides}
use Rattle.book_laws.proofs.PlainBoxes.{open_decides, fresh_decides, good_id}
use Rattle.book_laws.proofs.laws.plain_decides.Goals as goal

pub returns : goal.returns
returns c = record { once = once_decides; open_intent = open_decides; fresh = fresh_decides; good_id = good_id }

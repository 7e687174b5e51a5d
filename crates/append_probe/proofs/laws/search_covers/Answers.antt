-- The law, by its lemma.
use Rattle.append_probe.proofs.Lawful.{search_is_complete}
use Rattle.append_probe.proofs.laws.search_covers.Goals as goal

pub returns : goal.returns
returns c = λ low id name box w s t r after set. search_is_complete name box w s t r after low id set

use Rattle.literal_feed.proofs.Searches.{none_found, lf_found}
use Rattle.literal_feed.proofs.part.first_lf.Goals as goal

pub returns-clause-none : goal.returns-clause-none
returns-clause-none c = none_found c.args.text.now c.memchr.result c.memchr.ensures

pub returns-clause-found : goal.returns-clause-found
returns-clause-found c = lf_found c.args.text.now c.memchr.result c.memchr.ensures

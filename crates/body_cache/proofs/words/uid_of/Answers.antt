use Rattle.body_cache.proofs.Wording.{zero_uid}
use Rattle.body_cache.proofs.words.uid_of.Goals as goal

pub returns-clause-none : goal.returns-clause-none
returns-clause-none c none uid writes = zero_uid c.args.text.now _ c.in_ok-number.ensures.some (c.new.ensures.zero.0 none) uid writes

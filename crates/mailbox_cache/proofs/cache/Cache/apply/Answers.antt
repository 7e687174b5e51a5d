-- The copies are what was copied.
use Rattle.mailbox_cache.proofs.cache.Cache.apply.Goals as goal

pub returns-clause-rows : goal.returns-clause-rows
returns-clause-rows c = rw (c.in_ok-cache.ensures, c.in_ok-delta.ensures) at c.after.ensures.rows

-- The UIDs so far, and those of the rows that are left, are all of them.
use Rattle.std.proofs.Common.{◌≡◌, ◌++◌, drop}
use Rattle.body_cache.specs.Keys.{uids_of}
use Rattle.body_cache.proofs.keys.uids_of.Given as goal

abbrev pub invariant-loop-uid : goal.invariant-loop-uid
invariant-loop-uid l = l.uids.items ++ uids_of (drop l.uid-index l.rows) ≡ uids_of l.cache.rows

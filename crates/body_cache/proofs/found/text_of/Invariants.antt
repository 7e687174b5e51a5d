-- What was told so far.
use Rattle.std.proofs.Common.{◌≡◌}
use Rattle.body_cache.specs.TextFound.{text_found}
use Rattle.body_cache.proofs.found.text_of.Given as goal

abbrev pub invariant-loop-response : goal.invariant-loop-response
invariant-loop-response l = l.found ≡ text_found l.uid l.yielded

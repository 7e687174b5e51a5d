use Rattle.std.proofs.Common.{◌≡◌, drop}
use Rattle.imap_response.specs.Tags.{tag_misfit}
use Rattle.imap_response.proofs.tag.tag_misfit.Given as goal

abbrev pub invariant-loop-at : goal.invariant-loop-at
invariant-loop-at l = tag_misfit l.start l.at (drop l.at l.word) ≡ tag_misfit 0 0 l.word

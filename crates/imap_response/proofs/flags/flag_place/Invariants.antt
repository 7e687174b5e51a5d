use Rattle.std.proofs.Common.{◌≡◌, drop}
use Rattle.imap_response.specs.Flags.{flag_place}
use Rattle.imap_response.proofs.flags.flag_place.Given as goal

abbrev pub invariant-loop-at : goal.invariant-loop-at
invariant-loop-at l = flag_place l.permanent l.before l.start l.at (drop l.at l.list) ≡ flag_place l.permanent 40 0 0 l.list

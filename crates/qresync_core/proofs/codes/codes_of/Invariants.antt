-- What was heard, with what is still to come, is all that is told.
use Rattle.std.proofs.Common.{◌≡◌, drop}
use Rattle.qresync_core.specs.Hearing.{nothing_told, heard_all}
use Rattle.qresync_core.specs.ToldCodes.{codes_in}
use Rattle.qresync_core.proofs.codes.codes_of.Given as goal

abbrev pub invariant-loop-response : goal.invariant-loop-response
invariant-loop-response l =
    heard_all l.told (codes_in (drop l.response-index l.responses) l.fn.selected.code) ≡ heard_all nothing_told (codes_in l.responses l.fn.selected.code)

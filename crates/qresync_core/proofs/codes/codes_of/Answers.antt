-- The numbers of all the codes that were heard.
use Rattle.std.proofs.Common.{List, ◌∙◌, ap, arith}
use Rattle.imap_model.specs.declared.response.Response.{Response}
use Rattle.qresync_core.proofs.Joining.{heard_out}
use Rattle.qresync_core.specs.Behind.{behind_closed}
use Rattle.qresync_core.specs.Hearing.{numbers_told}
use Rattle.qresync_core.specs.ToldCodes.{codes_in, numbers_of}
use Rattle.qresync_core.proofs.codes.codes_of.Goals as goal

pub returns : goal.returns
returns c =
    c.numbers.ensures ∙ ap numbers_told c.hear.ensures
    ∙ heard_out c.loop-response.told c.loop-response.response-index c.behind_closed-responses.result.now c.args.selected.now.code
    (omega (arith, c.loop-response-test.false)) c.loop-response.invariant
    ∙ ap (λ (l : List Response). numbers_of (codes_in l c.args.selected.now.code))
    (c.behind_closed-responses.ensures ∙ ap behind_closed c.as_slice.ensures)

-- What is found, from the UID on.
use Rattle.std.proofs.Common.{IfOk, List, subst}
use Rattle.std.proofs.lemmas.Result.{IfOk-weaker}
use Rattle.imap_model.specs.declared.response.Response.{Response}
use Rattle.uid_sets.specs.declared.uid.UidRange.{UidRange}
use Rattle.append_probe.specs.Candidates.{AreCandidates}
use Rattle.append_probe.proofs.Halves.{those_from}
use Rattle.append_probe.proofs.finding.candidates.Goals as goal

pub returns : goal.returns
returns c =
    subst (λ (told : List Response). IfOk c.from-2.result (AreCandidates c.args.uidnext told)) c.as_slice.ensures
    (IfOk-weaker c.from-2.result _ _
    (λ (rest : List UidRange) m. those_from c.args.uidnext c.as_slice.result.now c.in_ok-found_in.field-0 rest c.in_ok-found_in.ensures m)
    c.from-2.ensures.members)

-- What is left without the rows' UIDs.
use Rattle.std.proofs.Common.{Bool, ◌&&◌, List, ◌∙◌, ap}
use Rattle.std.specs.Prelude.{not}
use Rattle.std.proofs.lemmas.Result.{IfOk-weaker}
use Rattle.uid_sets.specs.declared.uid.UidRange.{UidRange}
use Rattle.mailbox_cache.specs.Rows.{has_uid, row_at}
use Rattle.qresync_core.proofs.GoneSets.{minus_has, not_some}
use Rattle.qresync_core.specs.SetsTold.{all_ranges}
use Rattle.qresync_core.proofs.gone_sets.GoneSets.without.Goals as goal

pub returns : goal.returns
returns c =
    IfOk-weaker c.minus-2.result _ _
    (λ (rest : List UidRange) m uid.
    minus_has c.in_ok-gone.gone c.in_ok-uids_of.field-0 rest uid (m uid)
    ∙ ap (λ (b : Bool). b && not (has_uid c.in_ok-uids_of.field-0 uid)) (c.in_ok-gone.ensures uid)
    ∙ ap (λ (ranges : List UidRange). has_uid ranges uid && not (has_uid c.in_ok-uids_of.field-0 uid)) (ap all_ranges c.deref.ensures.value ∙ c.self.view_is)
    ∙ ap (λ (b : Bool). has_uid c.args.self.now uid && not b) (c.in_ok-uids_of.ensures uid)
    ∙ ap (λ (b : Bool). has_uid c.args.self.now uid && b) (not_some (row_at uid c.args.rows.now)))
    c.minus-2.ensures.members

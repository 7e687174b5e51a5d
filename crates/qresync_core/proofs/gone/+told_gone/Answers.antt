-- Both halves are the whole.
use Rattle.std.proofs.Common.{Bool, ◌||◌, List, ◌∙◌, ap}
use Rattle.std.proofs.lemmas.Result.{IfOk-weaker}
use Rattle.uid_sets.specs.declared.uid.UidRange.{UidRange}
use Rattle.mailbox_cache.specs.Rows.{has_uid}
use Rattle.qresync_core.proofs.GoneSets.{union_has, two_halves}
use Rattle.qresync_core.specs.ToldGone.{is_told_gone}
use Rattle.qresync_core.proofs.gone.+told_gone.Goals as goal

pub returns-in_ok-told_gone-in_default-2 : goal.returns-in_ok-told_gone-in_default-2
returns-in_ok-told_gone-in_default-2 n c =
    IfOk-weaker c.union-in_default-2.result _ _
    (λ (both : List UidRange) m uid.
    union_has c.in_ok-told_gone-in_default.field-0 c.in_ok-told_gone-in_default-2.field-0 both uid (m uid)
    ∙ ap (λ (b : Bool). b || has_uid c.in_ok-told_gone-in_default-2.field-0 uid) (c.in_ok-told_gone-in_default.ensures uid)
    ∙ ap (λ (b : Bool). is_told_gone c.split_at.result.0.now uid || b) (c.in_ok-told_gone-in_default-2.ensures uid)
    ∙ two_halves c.args.told.now c.split_at.result.0.now c.split_at.result.1.now _ c.split_at.ensures.front c.split_at.ensures.back uid)
    c.union-in_default-2.ensures.members

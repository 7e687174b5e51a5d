-- One set more.
use Rattle.std.proofs.Common.{Bool, ◌||◌, ◌∙◌, ap}
use Rattle.mailbox_cache.specs.Rows.{has_uid}
use Rattle.qresync_core.proofs.GoneSets.{union_has}
use Rattle.qresync_core.proofs.LineSets.{joined_more}
use Rattle.qresync_core.proofs.gone_sets.joined.Goals as goal

pub loop-lines-preserved : goal.loop-lines-preserved
loop-lines-preserved c = λ uid.
    let lines = c.lines-item.result in
    union_has c.loop-lines.gone lines.uids _ uid (c.in_ok-gone.ensures.members uid)
    ∙ ap (λ (b : Bool). b || has_uid lines.uids uid) (c.loop-lines.invariant uid)
    ∙ joined_more c.args.sets.now c.loop-lines.lines-index lines uid c.loop-lines-test.true c.lines-item.is

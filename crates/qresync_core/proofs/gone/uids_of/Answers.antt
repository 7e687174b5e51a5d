-- One UID more.
use Rattle.qresync_core.proofs.GoneSets.{added_has}
use Rattle.qresync_core.proofs.gone.uids_of.Goals as goal

pub loop-uid-preserved : goal.loop-uid-preserved
loop-uid-preserved c = λ uid.
    added_has c.loop-uid.uids c.add.new.self c.args.rows.now c.loop-uid.uid-index c.loop-uid-item.result uid
    c.loop-uid-test.true c.loop-uid-item.is (c.in_ok-add.ensures.members uid)
    (c.loop-uid.invariant uid)

-- One line more, and then sets that become one.
use Rattle.std.proofs.Common.{◌||◌, List, ◌∙◌, ap}
use Rattle.uid_sets.specs.declared.uid.UidRange.{UidRange}
use Rattle.mailbox_cache.specs.Rows.{has_uid}
use Rattle.qresync_core.specs.SetsTold.{all_ranges}
use Rattle.qresync_core.specs.declared.gone_sets.Lines.{Lines}
use Rattle.qresync_core.proofs.LineSets.{has_more}
use Rattle.qresync_core.proofs.gone_sets.GoneSets.push.Goals as goal

pub returns-clause-pushed : goal.returns-clause-pushed
returns-clause-pushed c = λ uid.
    c.join_last.ensures uid
    ∙ ap (λ (sets : List Lines). has_uid (all_ranges sets) uid) c.in_ok-push.ensures.items
    ∙ has_more c.self.inside.sets.items (record { count = 1; uids = c.args.uids }) uid
    ∙ ap (λ (ranges : List UidRange). has_uid ranges uid || has_uid c.args.uids uid) c.self.view_is

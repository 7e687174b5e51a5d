-- What is known of a UID in the new rows follows from how they were made.
use Rattle.std.proofs.Common.{◌∙◌, ap}
use Rattle.mailbox_cache.specs.Rows.{row_at}
use Rattle.mailbox_cache.specs.declared.cache.Cache.{Cache}
use Rattle.mailbox_cache.proofs.Lookups.{known_after}
use Rattle.mailbox_cache.proofs.cache.Cache.after.Goals as goal

pub returns-clause-rows : goal.returns-clause-rows
returns-clause-rows c = λ uid.
    ap (λ (cache : Cache). row_at uid cache.rows) c.within.ensures
    ∙ known_after c.args.delta.vanished c.args.delta.rows c.args.self.rows uid

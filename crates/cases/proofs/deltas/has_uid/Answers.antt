use Rattle.std.proofs.lemmas.Bool.Decides.{same_from_decides}
use Rattle.mailbox_cache.specs.Rows.{has_uid}
use Rattle.mailbox_cache.proofs.Members.{has_uid-Decides}
use Rattle.cases.proofs.deltas.has_uid.Goals as goal

pub returns : goal.returns
returns c = same_from_decides c.contains.result (has_uid c.args.set.now c.args.uid) (c.contains.ensures.0, c.contains.ensures.1)
    (has_uid-Decides c.args.set.now c.args.uid)

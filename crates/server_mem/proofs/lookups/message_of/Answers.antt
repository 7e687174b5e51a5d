use Rattle.std.proofs.Common.{refl, length}
use Rattle.std.proofs.lemmas.Option.{slice_get_read}
use Rattle.server_mem.proofs.MessagePlacing.{message_there}
use Rattle.server_mem.proofs.lookups.message_of.Goals as goal

pub returns-clause-some : goal.returns-clause-some
returns-clause-some c = message_there c.args.uid c.args.messages.now c.in_ok-at.at c.index-messages-at.result
    (slice_get_read c.args.messages.now (length c.args.messages.now) c.in_ok-at.at c.index-messages-at.result refl
    c.in_ok-at.ensures.some.within c.index-messages-at.is) c.in_ok-at.ensures.some

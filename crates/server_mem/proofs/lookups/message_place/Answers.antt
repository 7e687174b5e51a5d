use Rattle.server_mem.proofs.MessagePlacing.{message_place_none, message_place_some}
use Rattle.server_mem.proofs.lookups.message_place.Goals as goal

pub returns-clause-none : goal.returns-clause-none
returns-clause-none c = message_place_none c.args.uid c.args.messages.now c.uid_place.result c.uid_place.ensures

pub returns-clause-some : goal.returns-clause-some
returns-clause-some c = message_place_some c.args.uid c.args.messages.now c.uid_place.result c.uid_place.ensures

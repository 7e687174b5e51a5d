use Rattle.server_mem.proofs.Renewing.{all_done}
use Rattle.server_mem.proofs.changes.renumbered.Goals as goal

pub returns : goal.returns
returns c =
    all_done c.args.uids.now c.loop-message.left.now c.args.highest c.loop-message.message-index c.args.messages.now c.loop-message.new
    c.loop-message-test.false c.loop-message.invariant

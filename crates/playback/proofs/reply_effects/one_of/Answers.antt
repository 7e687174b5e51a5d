use Rattle.playback.proofs.OneUid.{one_is}
use Rattle.playback.proofs.reply_effects.one_of.Goals as goal

pub returns : goal.returns
returns c = one_is c.args.uids.now c.only.result c.ranges-canonical.ensures.canonical c.only.ensures.value c.only.ensures.none

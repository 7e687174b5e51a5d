-- The law, by its lemma.
use Rattle.playback.proofs.Falling
use Rattle.playback.proofs.player_laws.left_at_first.Goals as goal

pub returns : goal.returns
returns c = Falling.left_at_first

-- The law, by its lemma.
use Rattle.playback.proofs.Playing
use Rattle.playback.proofs.player_laws.plays_well.Goals as goal

pub returns : goal.returns
returns c = Playing.plays_well

-- The example.
use Rattle.playback.proofs.PlayedOver.{played_over}
use Rattle.playback.proofs.player_laws.plays_over.Goals as goal

pub returns : goal.returns
returns c = played_over

-- The example.
use Rattle.playback.proofs.PlayedThrice.{played_thrice}
use Rattle.playback.proofs.player_laws.plays_thrice.Goals as goal

pub returns : goal.returns
returns c = played_thrice

-- The example.
use Rattle.playback.proofs.PlayedThrough.{played}
use Rattle.playback.proofs.player_laws.plays_through.Goals as goal

pub returns : goal.returns
returns c = played

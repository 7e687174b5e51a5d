-- The law, by its lemma.
use Rattle.playback.proofs.PlayerRows.{needs_rows}
use Rattle.playback.proofs.player_laws.needs_in_cases.Goals as goal

pub returns : goal.returns
returns c = needs_rows

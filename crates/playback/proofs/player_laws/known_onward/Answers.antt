-- The law, by its lemmas.
use Rattle.playback.proofs.Onward.{asks_know, carried_knows, others_know, says_know}
use Rattle.playback.proofs.Resetting.{reset_knows}
use Rattle.playback.proofs.player_laws.known_onward.Goals as goal

pub returns : goal.returns
returns c = record { others = others_know; sends = says_know; asks = asks_know; carries = carried_knows; resets = reset_knows }

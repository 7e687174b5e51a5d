-- The law, by its lemmas.
use Rattle.book_laws.proofs.Sounding.{begun_sound, sound_behind}
use Rattle.book_laws.proofs.laws.sound_stays.Goals as goal

pub returns : goal.returns
returns c = record { at_first = begun_sound; behind = sound_behind }

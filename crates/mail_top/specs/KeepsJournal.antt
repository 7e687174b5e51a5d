-- What a run keeps of the journal, whatever is asked of it.
use Rattle.world_traits.specs.declared.clocked.Clocked.{Ghosts}
use Rattle.mail_top.specs.Leaving.{LosesNone}
use Rattle.mail_top.specs.Resting.{KeepsOneSide}

-- No action that all images hold is lost, nor its outcome; and one side stays at rest.
pub record KeepsJournal {Self : Type 0} (W : Ghosts Self) (old new : Self) : Type 0 where
  pub held : W.tells_files → LosesNone (W.clock old).now (W.clock new).now
  pub sides : W.tells_files → KeepsOneSide (W.clock old) (W.clock new)

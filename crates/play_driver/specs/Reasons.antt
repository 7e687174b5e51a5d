-- That what is recorded has its reason.
use Rattle.std.specs.Prelude.{Some, Result, IsErrOf}
use Rattle.action_queue.specs.Book.{Meaning}
use Rattle.action_queue.specs.declared.event.Event.{Event}
use Rattle.playback.specs.Choosing.{IsEntered}
use Rattle.book_laws.specs.Kept.{Kept}
use Rattle.playback.specs.declared.player.Player.{Player}
use Rattle.store_core.specs.Mail.{mail}
use Rattle.store_core.specs.Taking.{IsTaking}
use Rattle.world_traits.specs.Moments.{Clock}
use Rattle.world_traits.specs.declared.clocked.Clocked.{Ghosts}
use Rattle.play_driver.specs.Joining.{AllFair, IsKept}
use Rattle.play_driver.specs.KnownAt.{KnownAt}
use Rattle.play_driver.specs.Played.{played}
use Rattle.play_driver.specs.Progress.{IsPlayEvent}
use Rattle.play_driver.specs.Sessions.{held_in, permits_in}
use Rattle.play_driver.specs.TrueRecords.{IsTrueBefore, IsTrueSince, RecordsTruly, StopsTruly}
use Rattle.play_driver.specs.declared.fault.PlayFault.{PlayFault}
use Rattle.play_driver.specs.declared.fault.PlayFault.TheVariants as faults
use Rattle.play_driver.specs.declared.session.Session.{Session}

-- What was recorded in one turn or several has its reason. Where the disk failed, what was to be recorded had it. This is asked of others
-- for it: of one turn nothing, of several that they are fair.
pub record Reasons {Self : Type 0} (W : Ghosts Self) (others : Type 0) (old new : Self) (session : Session) (p : Player) (b c : Meaning)
    (result : Result Session PlayFault) : Type 0 where
  pub truly : W.tells_server → (made : Clock) (entry : Meaning) → IsKept mail Kept (W.clock old).now
      → KnownAt made (W.clock old) (permits_in session) (held_in session) p b → others → IsEntered entry p b
      → IsTrueSince entry made (W.clock old) b → (IsErrOf result faults.Disk → ⊥) → IsTrueSince entry made (W.clock new) c
  pub stopped : W.tells_files → IsErrOf result faults.Disk → (event : Event) × IsPlayEvent event
      × IsTaking mail (Some c) event (W.clock new).now
      × (W.tells_server → (made : Clock) (entry : Meaning) → IsKept mail Kept (W.clock old).now
      → KnownAt made (W.clock old) (permits_in session) (held_in session) p b → others → IsEntered entry p b
      → IsTrueSince entry made (W.clock old) b → IsTrueBefore event entry c made (W.clock new))

-- So it is of a run, where others are fair.
pub record RunReasons {Self T : Type 0} (W : Ghosts Self) (old new : Self) (b c : Meaning) (result : Result T PlayFault) : Type 0 where
  pub truly : W.tells_server → IsKept mail Kept (W.clock old).now → AllFair mail played (W.clock old) (W.clock new)
      → (IsErrOf result faults.Disk → ⊥) → RecordsTruly b c (W.clock old) (W.clock new)
  pub stopped : W.tells_files → IsErrOf result faults.Disk → (event : Event) × IsPlayEvent event × IsTaking mail (Some c) event (W.clock new).now
  pub stopped_truly : W.tells_server → IsErrOf result faults.Disk → IsKept mail Kept (W.clock old).now
      → AllFair mail played (W.clock old) (W.clock new) → StopsTruly b c (W.clock old) (W.clock new)

-- What a turn says, on the bytes sent and received.
use Rattle.std.specs.Prelude.{◌≡◌, ◌≤◌, ◌<◌, ◌+◌, None, Result, IfOk, OnOk, IsErr, IsErrOf}
use Rattle.action_queue.specs.Book.{Meaning}
use Rattle.playback.specs.Choosing.{IsEntered}
use Rattle.book_laws.specs.Kept.{Kept}
use Rattle.playback.specs.Needs.{IsFinished}
use Rattle.playback.specs.declared.player.Player.{Player}
use Rattle.store_core.specs.Holding.{Holding}
use Rattle.store_core.specs.Mail.{mail}
use Rattle.world_traits.specs.Moments.{Clock}
use Rattle.world_traits.specs.declared.clocked.Clocked.{Ghosts}
use Rattle.play_driver.specs.Faults.{IsReplyFault}
use Rattle.play_driver.specs.Joining.{AllFair, IsKept}
use Rattle.play_driver.specs.KnownAt.{KnownAt}
use Rattle.play_driver.specs.Played.{played}
use Rattle.play_driver.specs.Running.{RunsBetween, StopsBehind, turns_left}
use Rattle.play_driver.specs.Sessions.{count_of, held_in, permits_in}
use Rattle.play_driver.specs.Turning.{TurnFails, Turns, standing_of}
use Rattle.play_driver.specs.declared.fault.PlayFault.{PlayFault}
use Rattle.play_driver.specs.declared.fault.PlayFault.TheVariants as faults
use Rattle.play_driver.specs.declared.session.Session.{Session}

-- The turn was taken: what was sent, received and recorded, and a number fell. Or why not: then the player is as before, unless a delta
-- waited in it to be recorded, and the store too where the disk didn't fail.
pub record TakesTurn {Self : Type 0} (W : Ghosts Self) (old new : Self) (session : Session) (p q : Player) (s t : Holding mail)
    (result : Result Session PlayFault) : Type 0 where
  pub turns : W.tells_files → IfOk result (λ next. Turns (standing_of (W.link old) session s p) (standing_of (W.link new) next t q))
  pub why : W.tells_files → (fault : PlayFault) → IsErrOf result fault → TurnFails (standing_of (W.link old) session s p) (W.link new) fault
  pub same : IsErr result → p.learns ≡ None → q ≡ p
  pub stays : IsErr result → t.book ≡ s.book
  pub kept : IsErr result → (IsErrOf result faults.Disk → ⊥) → t ≡ s
  pub entered : OnOk result ((entry : Meaning) → IsEntered entry p s.book → IsEntered entry q t.book)
  pub falls : IfOk result (λ next. turns_left (held_in next) q t.book < turns_left (held_in session) p s.book)
  pub counted : IfOk result (λ next. count_of next ≤ count_of session + 2)

-- The turns that were taken until nothing was needed, with a question's number left for LOGOUT, and no reply held; or why one failed behind
-- some.
pub record RunsOn {Self : Type 0} (W : Ghosts Self) (old new : Self) (session : Session) (p q : Player) (s t : Holding mail)
    (result : Result Session PlayFault) : Type 0 where
  pub runs : W.tells_files → IfOk result (λ next. RunsBetween (standing_of (W.link old) session s p) (standing_of (W.link new) next t q))
  pub finished : OnOk result (IsFinished q t.book)
  pub unheld : IfOk result (λ next. held_in next ≡ None)
  pub counted : IfOk result (λ next. count_of next + 1 < 4294967295)
  pub why : W.tells_files → (fault : PlayFault) → IsErrOf result fault → StopsBehind (standing_of (W.link old) session s p) t (W.link new) fault

-- Where the book is kept, the player knows the connection, and others are fair: no reply is at fault.
pub record Excuses {Self : Type 0} (W : Ghosts Self) (old new : Self) (session : Session) (p : Player) (b : Meaning)
    (result : Result Session PlayFault) : Type 0 where
  pub faultless : W.tells_server → (made : Clock) → IsKept mail Kept (W.clock old).now → KnownAt made (W.clock old) (permits_in session) (held_in session) p b
      → AllFair mail played (W.clock old) (W.clock new) → (fault : PlayFault) → IsErrOf result fault → IsReplyFault fault → ⊥

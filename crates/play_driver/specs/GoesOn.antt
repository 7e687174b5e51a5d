-- How a run goes on over one turn or several.
use Rattle.std.specs.Prelude.{◌≡◌, Result, IfOk}
use Rattle.action_queue.specs.Book.{Meaning}
use Rattle.journal_core.specs.OneSide.{EachOneSide}
use Rattle.book_laws.specs.Kept.{Kept}
use Rattle.playback.specs.declared.player.Player.{Player}
use Rattle.store_core.specs.Mail.{mail}
use Rattle.world_traits.specs.Links.{Any}
use Rattle.world_traits.specs.Moments.{Clock, Since}
use Rattle.world_traits.specs.declared.clocked.Clocked.{Ghosts}
use Rattle.play_driver.specs.Accuses.{ConnectsOnce}
use Rattle.play_driver.specs.Grounds.{GroundStep}
use Rattle.play_driver.specs.Joining.{AllFair, Grows, IsKept, StaysJoined}
use Rattle.play_driver.specs.KnownAt.{KnownAt}
use Rattle.play_driver.specs.Played.{played}
use Rattle.play_driver.specs.Progress.{Progresses, box_names}
use Rattle.play_driver.specs.Questioning.{ConnectsFirst, RunStep, TalkStep}
use Rattle.play_driver.specs.SendsOnce.{SendsOnce}
use Rattle.play_driver.specs.Sessions.{held_in, permits_in}
use Rattle.play_driver.specs.Settled.{IsSyncedSoFar}
use Rattle.play_driver.specs.declared.fault.PlayFault.{PlayFault}
use Rattle.play_driver.specs.declared.session.Session.{Session}

-- At every moment a stop leaves the book that was, or one further on. Where the book is kept, and the player knows the connection, which was
-- made at some clock: up to each moment to which others were fair each one is kept, and joined to the one before it; and where others were
-- fair all the time the player knows it still. One side of the journal rests, and no connection is made: what was sent in earlier ones is
-- what it was. Each mailbox that is selected is one of the book's, and a question about a selected mailbox is asked while one is.
pub record GoesOn {Self : Type 0} (W : Ghosts Self) (old new : Self) (session : Session) (p q : Player) (b c : Meaning)
    (result : Result Session PlayFault) : Type 0 where
  pub progress : W.tells_files → Progresses b (W.clock old) (W.clock new)
  pub joined : W.tells_server → (made : Clock) → IsKept mail Kept (W.clock old).now → KnownAt made (W.clock old) (permits_in session) (held_in session) p b
      → StaysJoined mail Kept played (W.clock old) (W.clock new)
  pub known : W.tells_server → (made : Clock) → IsKept mail Kept (W.clock old).now → KnownAt made (W.clock old) (permits_in session) (held_in session) p b
      → AllFair mail played (W.clock old) (W.clock new) → IfOk result (λ next. KnownAt made (W.clock new) (permits_in next) (held_in next) q c)
  pub each_one_side : W.tells_files → EachOneSide (W.clock old) (W.clock new)
  pub talks : W.tells_server → Since Any TalkStep (W.clock old) (W.clock new)
  pub grounds : W.tells_server → Since Any (GroundStep (box_names b)) (W.clock old) (W.clock new)
  pub earlier : W.tells_files → (W.link new).earlier ≡ (W.link old).earlier

-- each mailbox that the player counts stays the server's, where the player knows the connection
abbrev pub SyncsOn : {Self : Type 0} → Ghosts Self → Self → Self → Session → Player → Player → Meaning → Meaning → Result Session PlayFault → Type 0
SyncsOn W old new session p q b c result =
    W.tells_server → (made start : Clock) → Grows start (W.clock old) → IsKept mail Kept (W.clock old).now
    → KnownAt made (W.clock old) (permits_in session) (held_in session) p b
    → AllFair mail played (W.clock old) (W.clock new) → IsSyncedSoFar start (W.clock old) (held_in session) p b
    → IfOk result (λ next. IsSyncedSoFar start (W.clock new) (held_in next) q c)

-- The same of a whole run, which makes at most one connection, and none behind its first question. Whatever the link gives, it sends at
-- most one command of each action.
pub record RunGoesOn {Self : Type 0} (W : Ghosts Self) (old new : Self) (b : Meaning) : Type 0 where
  pub progress : W.tells_files → Progresses b (W.clock old) (W.clock new)
  pub joined : W.tells_server → IsKept mail Kept (W.clock old).now → StaysJoined mail Kept played (W.clock old) (W.clock new)
  pub each_one_side : W.tells_files → EachOneSide (W.clock old) (W.clock new)
  pub once : W.tells_server → ConnectsFirst RunStep (W.clock old) (W.clock new)
  pub one : W.tells_files → ConnectsOnce (W.link old) (W.link new)
  pub sends : W.tells_files → SendsOnce (W.link old) (W.link new)

-- What a turn asks of the run in which it is taken, and what it says.
use Rattle.std.specs.Prelude.{◌≡◌, ◌<◌, ◌+◌, IfOk, IsTrue, Result}
use Rattle.journal_core.specs.Sides.{version_written}
use Rattle.playback.specs.declared.player.Player.{Player}
use Rattle.store_core.specs.Fold.{IsFold}
use Rattle.store_core.specs.Holding.{Holding, IsAsLeft}
use Rattle.store_core.specs.Mail.{mail}
use Rattle.world_traits.specs.Files.{Files}
use Rattle.world_traits.specs.declared.clocked.Clocked.{Ghosts}
use Rattle.play_driver.specs.Accuses.{Accuses, AccusesLink}
use Rattle.play_driver.specs.GoesOn.{GoesOn, SyncsOn}
use Rattle.play_driver.specs.Reasons.{Reasons}
use Rattle.play_driver.specs.Rests.{Rests, Stored}
use Rattle.play_driver.specs.Sessions.{count_of}
use Rattle.play_driver.specs.TakesTurn.{Excuses, TakesTurn}
use Rattle.play_driver.specs.declared.fault.PlayFault.{PlayFault}
use Rattle.play_driver.specs.declared.session.Session.{Session}

-- The run rests, with numbers left for two questions. The store is whole, and the files are as it left them, on a journal of the version
-- that is written.
pub record MayTurn {Self : Type 0} (W : Ghosts Self) (at : Self) (seen : Files) (session : Session) (p : Player) (s : Holding mail)
    : Type 0 where
  pub fold : IsFold s.book
  pub rests : Rests W at p s.book session
  pub room : count_of session + 2 < 4294967295
  pub written : s.journal.version ≡ version_written
  pub sound : IsTrue s.journal.failed → ⊥
  pub left : W.tells_files → IsAsLeft mail s (W.clock at).now seen

-- At every moment of the turn a stop leaves the book that was, or one further on; each mailbox that counts stays the server's; and what is
-- recorded has its reason. It tells what was done, or why not, on the bytes sent and received, and how store and connection stand then.
pub record Turned {Self : Type 0} (W : Ghosts Self) (old new : Self) (seen : Files) (session : Session) (p q : Player) (s t : Holding mail)
    (result : Result Session PlayFault) : Type 0 where
  pub goes_on : GoesOn W old new session p q s.book t.book result
  pub synced : SyncsOn W old new session p q s.book t.book result
  pub reasons : Reasons W (Unit {0}) old new session p s.book t.book result
  pub takes : TakesTurn W old new session p q s t result
  pub excuses : Excuses W old new session p s.book result
  pub accuses : Accuses W old new result
  pub rests : IfOk result (Rests W new q t.book)
  pub stored : Stored W new seen s.book t result

-- So it is of a turn that is a call of the link, which leaves store and disk alone, and accuses the link alone.
pub record TurnedByLink {Self : Type 0} (W : Ghosts Self) (old new : Self) (seen : Files) (session : Session) (p q : Player) (s : Holding mail)
    (result : Result Session PlayFault) : Type 0 where
  pub turned : Turned W old new seen session p q s s result
  pub accuses : AccusesLink W old new result

-- How a run stands between two turns.
use Rattle.std.specs.Prelude.{◌≡◌, false, None, Result, IsErrOf}
use Rattle.action_queue.specs.Book.{Meaning}
use Rattle.imap_session.specs.Session.{Follows, Stands}
use Rattle.journal_core.specs.Sides.{version_written}
use Rattle.playback.specs.Needs.{IsBeside}
use Rattle.playback.specs.Worlds.{name_of}
use Rattle.playback.specs.declared.player.Player.{Player}
use Rattle.store_core.specs.Fold.{IsFold}
use Rattle.store_core.specs.Holding.{Holding, IsAsLeft}
use Rattle.store_core.specs.Mail.{mail}
use Rattle.world_traits.specs.Files.{Files}
use Rattle.world_traits.specs.declared.clocked.Clocked.{Ghosts}
use Rattle.play_driver.specs.Progress.{IsLater}
use Rattle.play_driver.specs.Holds.{HeldFits}
use Rattle.play_driver.specs.Sessions.{feed_of, held_in, selected_in}
use Rattle.play_driver.specs.declared.fault.PlayFault.{PlayFault}
use Rattle.play_driver.specs.declared.fault.PlayFault.TheVariants as faults
use Rattle.play_driver.specs.declared.session.Session.{Session}

-- The player is beside its book, what it has selected is selected in the session, unless a reply is held, and the connection is as the session
-- has it.
pub record Rests {Self : Type 0} (W : Ghosts Self) (at : Self) (player : Player) (book : Meaning) (session : Session) : Type 0 where
  pub beside : IsBeside player book
  pub selected : held_in session ≡ None → name_of player.selected ≡ selected_in session
  pub stands : W.tells_server → Stands (selected_in session) (W.clock at) (W.link at).connection (feed_of session)
  pub still : W.tells_files → Follows (W.link at).connection (feed_of session)
  pub held : HeldFits (held_in session) player book

-- The store has this book, or one further on. Where the disk didn't fail it is as it was left, on a journal of the version that is written.
pub record Stored {Self T : Type 0} (W : Ghosts Self) (at : Self) (seen : Files) (b : Meaning) (store : Holding mail) (result : Result T PlayFault)
    : Type 0 where
  pub fold : IsFold store.book
  pub later : IsLater b store.book
  pub left : W.tells_files → (IsErrOf result faults.Disk → ⊥) → IsAsLeft mail store (W.clock at).now seen
  pub sound_still : (IsErrOf result faults.Disk → ⊥) → store.journal.failed ≡ false
  pub written : (IsErrOf result faults.Disk → ⊥) → store.journal.version ≡ version_written

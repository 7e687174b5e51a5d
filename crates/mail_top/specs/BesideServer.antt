-- What a run gives of the book beside the server (this client's profile of RFC 4549, section 4.2).
use Rattle.std.specs.Prelude.{◌≡◌, ℕ, List}
use Rattle.mail_base.specs.declared.status.Status.{Status}
use Rattle.mail_base.specs.declared.status.Status.TheVariants as status
use Rattle.world_traits.specs.Files.{Files}
use Rattle.world_traits.specs.Moments.{Clock, OneSideAtRest}
use Rattle.world_traits.specs.declared.clocked.Clocked.{Ghosts}
use Rattle.store_core.specs.Mail.{mail}
use Rattle.store_core.specs.Steps.{Books}
use Rattle.store_core.specs.Taking.{HasBooks}
use Rattle.play_driver.specs.Joining.{AllFair, Grows}
use Rattle.play_driver.specs.Played.{played}
use Rattle.play_driver.specs.Serving.{AllServing}
use Rattle.mail_top.specs.AnyServer.{StandsAny}
use Rattle.mail_top.specs.CompletePlay.{HasEachBox, IsTheServers}
use Rattle.mail_top.specs.Connecting.{Connects}
use Rattle.mail_top.specs.Headline.{StaysOnce}
use Rattle.mail_top.specs.KeptNow.{IsKeptNow, StaysKept}
use Rattle.mail_top.specs.Played.{AreSynced, CameThrough}
use Rattle.mail_top.specs.SurePlay.{EndsSurely}
use Rattle.mail_top.specs.Telling.{TellsNoPlace}
use Rattle.mail_top.specs.TruePlay.{PlaysTruly}

-- the link tells its server, the book is kept as the run begins, and others are fair in it
pub record Fairly {Self : Type 0} (W : Ghosts Self) (old new : Self) : Type 0 where
  pub tells : W.tells_server
  pub kept : IsKeptNow (W.clock old).now
  pub fair : AllFair mail played (W.clock old) (W.clock new)

-- the same, and others are fair up to a clock on its way
pub record FairUpTo {Self : Type 0} (W : Ghosts Self) (old new : Self) (at : Clock) : Type 0 where
  pub tells : W.tells_server
  pub kept : IsKeptNow (W.clock old).now
  pub reach : Grows (W.clock old) at
  pub left : Grows at (W.clock new)
  pub fair : AllFair mail played (W.clock old) at

-- the link tells its server, and as the run begins the book is kept, one side is at rest, and the books that a stop may leave are known
pub record EntersKept {Self : Type 0} (W : Ghosts Self) (old : Self) : Type 0 where
  pub tells : W.tells_server
  pub one_side : OneSideAtRest (W.clock old).now
  pub books : Books mail
  pub have : HasBooks mail books (W.clock old).now
  pub kept : IsKeptNow (W.clock old).now

-- What a run gives of the book beside the server, what more where it is a `play`, and what at any server (`any_server`): each field is the
-- clause of `run` of this name, or the field of one.
-- (`kept` hands the book on to the next run; by `serves` a server that serves ends no `play`.)
pub record BesideServer {Self : Type 0} (W : Ghosts Self) (seen : Self → Files) (IsPlay : Type 0) (old new : Self) (s : Status) (text : List ℕ)
    : Type 0 where
  pub joined : EntersKept W old → StaysKept (W.clock old) (W.clock new)
  pub twice : W.tells_server → IsKeptNow (W.clock old).now → StaysOnce (W.clock old) (W.clock new)
  pub kept : IsPlay → Fairly W old new → IsKeptNow (W.clock new).now
  pub truly : IsPlay → Fairly W old new → PlaysTruly (seen old) (W.clock old) (W.clock new)
  pub surely : IsPlay → (s ≡ status.Disk → ⊥) → Fairly W old new → EndsSurely (seen old) (seen new)
  pub synced : IsPlay → CameThrough s → Fairly W old new → AreSynced (seen new) (W.clock old) (W.clock new)
  pub serves : IsPlay → Fairly W old new → AllServing (W.clock old) (W.clock new) → HasEachBox (seen old) (W.clock old).now.outside.server →
      IsTheServers s → ⊥
  pub faultless : Fairly W old new → s ≡ status.Reply → ⊥
  pub honest : W.tells_server → s ≡ status.Reply → TellsNoPlace text
  pub connects : Connects W old new
  pub any_server : W.tells_files → StandsAny W old new

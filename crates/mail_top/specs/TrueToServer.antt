-- That what a run takes from a server's replies is so (this client's profile of RFC 4549, section 4.2; RFC 7162, section 3.2.5).
use Rattle.std.specs.Prelude.{◌≡◌, ℕ, List}
use Rattle.mail_base.specs.declared.status.Status.{Status}
use Rattle.mail_base.specs.declared.status.Status.TheVariants as status
use Rattle.world_traits.specs.Files.{Files}
use Rattle.world_traits.specs.declared.clocked.Clocked.{Ghosts}
use Rattle.mail_top.specs.BesideServer.{Fairly}
use Rattle.mail_top.specs.Played.{AreSynced, CameThrough}
use Rattle.mail_top.specs.TruePlay.{PlaysTruly}
use Rattle.mail_top.specs.Words.{WritesPlay}

-- What a `play` records has its reason, and the caches that it leaves are the server's; and no reply is found at fault.
pub record TrueToServer {Self : Type 0} (W : Ghosts Self) (seen : Self → Files) (words : List (List ℕ)) (old new : Self) (s : Status) : Type 0 where
  pub truly : WritesPlay words → Fairly W old new → PlaysTruly (seen old) (W.clock old) (W.clock new)
  pub synced : WritesPlay words → CameThrough s → Fairly W old new → AreSynced (seen new) (W.clock old) (W.clock new)
  pub faultless : Fairly W old new → s ≡ status.Reply → ⊥

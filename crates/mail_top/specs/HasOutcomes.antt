-- What became of the actions of a `play` (this client's profile of RFC 4549, section 4.2).
use Rattle.std.specs.Prelude.{◌≡◌, ℕ, List}
use Rattle.mail_base.specs.declared.status.Status.{Status}
use Rattle.mail_base.specs.declared.status.Status.TheVariants as status
use Rattle.world_traits.specs.Files.{Files}
use Rattle.world_traits.specs.declared.clocked.Clocked.{Ghosts}
use Rattle.mail_top.specs.BesideServer.{Fairly}
use Rattle.mail_top.specs.Headline.{Finishes, OnceOrReported}
use Rattle.mail_top.specs.Played.{CameThrough}
use Rattle.mail_top.specs.SurePlay.{EndsSurely}
use Rattle.mail_top.specs.Words.{WritesPlay}

-- Behind a `play` that came to its end every action has an outcome, which its changes at the server fit. And behind any that no fault of
-- the disk ended, none ended as unsure but the one whose intent was pending.
pub record HasOutcomes {Self : Type 0} (W : Ghosts Self) (seen : Self → Files) (words : List (List ℕ)) (old new : Self) (s : Status) : Type 0 where
  pub finishes : W.tells_files → WritesPlay words → CameThrough s → Finishes (seen old) (seen new) (W.clock new).now
  pub once_or_reported : WritesPlay words → CameThrough s → Fairly W old new → OnceOrReported (seen old) (seen new) (W.clock new).now
  pub surely : WritesPlay words → (s ≡ status.Disk → ⊥) → Fairly W old new → EndsSurely (seen old) (seen new)

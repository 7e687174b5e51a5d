-- What is known of a command that was carried out in a drill's world: nobody else changed anything, so all that `run` promises where
-- others are fair is so.
use Rattle.std.specs.Prelude.{◌≡◌, ℕ, false, List}
use Rattle.mail_base.specs.Account.{Credentials}
use Rattle.mail_base.specs.declared.status.Status.{Status}
use Rattle.journal_core.specs.OneSide.{EachOneSide}
use Rattle.store_core.specs.Mail.{mail}
use Rattle.store_core.specs.Steps.{Books}
use Rattle.store_core.specs.Taking.{HasBooks}
use Rattle.play_driver.specs.Joining.{Joined}
use Rattle.play_driver.specs.Played.{played}
use Rattle.world_traits.specs.Moments.{OneSideAtRest, Since}
use Rattle.world_mem.specs.Worlds.{link_of}
use Rattle.mail_top.specs.Course.{Course}
use Rattle.mail_top.specs.Going.{Goes}
use Rattle.mail_top.specs.Headline.{AlwaysOwned, Finishes, OnceOrReported}
use Rattle.mail_top.specs.KeptNow.{IsKeptNow}
use Rattle.mail_top.specs.Played.{AreSynced, CameThrough}
use Rattle.mail_top.specs.Words.{WritesPlay}
use Rattle.mail_drill.specs.Standing.{clock_of, now_of, seen_of}
use Rattle.mail_drill.specs.declared.quiet_world.QuietWorld.{QuietWorld}

-- the clock, what the files read as, and the link, each at entry and now
abbrev pub course_from : QuietWorld → QuietWorld → Course
course_from old new = record {
  old = clock_of old;
  new = clock_of new;
  seen = seen_of old;
  seen_after = seen_of new;
  link = link_of old.world;
  link_after = link_of new.world;
}

pub record Ran (account : Credentials) (words : List (List ℕ)) (input : List ℕ) (old new : QuietWorld) (s : Status) : Type 0 where
  pub sufficed : new.short ≡ false
  pub text : List ℕ
  pub goes : Goes account words input (course_from old new) s text
  pub one_side : OneSideAtRest (now_of old) → OneSideAtRest (now_of new)
  pub each_one_side : OneSideAtRest (now_of old) → EachOneSide (clock_of old) (clock_of new)
  pub joined : OneSideAtRest (now_of old) → (books : Books mail) → HasBooks mail books (now_of old) → IsKeptNow (now_of old) →
      Since IsKeptNow (Joined mail played) (clock_of old) (clock_of new)
  pub owned : OneSideAtRest (now_of old) → (books : Books mail) → HasBooks mail books (now_of old) → IsKeptNow (now_of old) →
      AlwaysOwned (clock_of old) (clock_of new)
  pub synced : WritesPlay words → CameThrough s → IsKeptNow (now_of old) → AreSynced (seen_of new) (clock_of old) (clock_of new)
  pub finishes : WritesPlay words → CameThrough s → Finishes (seen_of old) (seen_of new) (now_of new)
  pub once_or_reported : WritesPlay words → CameThrough s → IsKeptNow (now_of old) → OnceOrReported (seen_of old) (seen_of new) (now_of new)

-- A world in memory whose last connection is served (RFC 9051, section 7.1).
use Rattle.std.specs.Prelude.{◌≡◌, ◌≢◌, ◌⊎◌, ◌≤◌, [], ◌∷◌, None, Some, length}
use Rattle.imap_model.specs.Talking.{Arriving, greeted}
use Rattle.imap_model.specs.declared.response.Response.TheVariants as responses
use Rattle.world_traits.specs.Connected.{IsGreeted}
use Rattle.world_traits.specs.Moments.{Clock, Moment, Since}
use Rattle.world_mem.specs.Worlds.{connection_at, disk_faults_of, link_faults_of, planned_of, run_in}
use Rattle.world_mem.specs.declared.mem_world.MemWorld.{MemWorld}
use Rattle.play_driver.specs.Joining.{Grows}
use Rattle.play_driver.specs.Serving.{IsServing}
use Rattle.mail_drill.specs.Misfortunes.{nothing_fails}
use Rattle.mail_drill.specs.Offering.{OffersAll}

-- something was told in the present connection, and not a BYE alone
pub record IsTold (m : Moment) : Type 0 where
  pub some : 1 ≤ length m.outside.talk.told
  pub more : m.outside.talk.told ≢ responses.Bye ∷ []

-- from one clock on the server served up to another
pub record IsServedFrom (made c : Clock) : Type 0 where
  pub later : Since IsTold IsServing made c
  pub told : IsTold c.now

-- A connection was made at a clock on the way to this one, which wasn't greeted by BYE, and from then on the server served.
pub record IsMade (c : Clock) : Type 0 where
  pub made : Clock
  pub fresh : IsGreeted made.now.outside
  pub hello : made.now.outside.talk ≢ greeted responses.Bye
  pub served : IsServedFrom made c

-- nothing was told, and no text arrives
pub record IsUntouched (m : Moment) : Type 0 where
  pub untold : m.outside.talk.told ≡ []
  pub none : m.outside.talk.arriving ≡ None

-- so it was at each moment
abbrev pub Untouched : Clock → Type 0
Untouched c = (at : Clock) → Grows at c → IsUntouched at.now

-- no connection was made since the world began, or went on behind a stop
pub record IsUnmade (w : MemWorld) : Type 0 where
  pub none : connection_at w ≡ None
  pub untouched : Untouched (run_in w).clock

-- bytes have come that aren't a whole part
pub record IsBare (m : Moment) : Type 0 where
  pub text : Arriving
  pub arrives : m.outside.talk.arriving ≡ Some text
  pub none : text.parts ≡ []

-- so it was at some moment
pub record WasBare (c : Clock) : Type 0 where
  pub at : Clock
  pub later : Grows at c
  pub is : IsBare at.now

-- With a plan by which nothing fails no call of the disk has failed, nor of the link, unless at some moment bytes had come that weren't a
-- whole part: a receive then waits for what doesn't come.
abbrev pub IsUnfailed : MemWorld → Type 0
IsUnfailed w = (planned_of w).plan ≡ nothing_fails → (disk_faults_of w ≡ 0) × ((link_faults_of w ≡ 0) ⊎ WasBare (run_in w).clock)

-- The server offers what a run needs, and serves from the greeting on in the last connection that was made, if one was; and where nothing is
-- planned to fail nothing fails.
pub record IsServed (w : MemWorld) : Type 0 where
  pub offers : OffersAll (run_in w).state.choices
  pub connection : IsUnmade w ⊎ IsMade (run_in w).clock
  pub unfailed : IsUnfailed w

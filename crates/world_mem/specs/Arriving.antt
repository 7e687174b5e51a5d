-- How bytes arrive at the server, and how much of them where memory is wanting.
use Rattle.std.specs.Prelude.{◌≡◌, ℕ, List, ◌++◌, Result, OnErr, OnOk}
use Rattle.server_mem.specs.Hearing.{with_bytes}
use Rattle.world_traits.specs.Links.{AnyStep, Linked}
use Rattle.world_mem.specs.Heard.{HearsSome}
use Rattle.world_mem.specs.Memory.{SentSome, earlier_of, had_in, line_of, run_of, sent_of}
use Rattle.world_mem.specs.declared.course.Course.{Course}
use Rattle.world_mem.specs.declared.course.Phase.TheVariants as phases

-- The bytes have come, after what came before, and are still to be heard.
pub record TakesIn (bytes : List ℕ) (old new : Course) : Type 0 where
  pub phase : new.phase ≡ phases.Hearing
  pub server : new.server ≡ with_bytes bytes old.server
  pub begun : new.server.begun ≡ old.server.begun ++ bytes
  pub sent : sent_of new ≡ sent_of old ++ bytes

-- What has come is heard: nothing more is sent, and unless memory was wanting the connection goes on, with what was received
-- as before.
pub record Listens {T E : Type 0} (old new : Course) (result : Result T E) : Type 0 where
  pub sent : sent_of new ≡ sent_of old
  pub earlier : earlier_of new ≡ earlier_of old
  pub phase : OnOk result (new.phase ≡ phases.Hearing)
  pub had : OnOk result (had_in (line_of new) ≡ had_in (line_of old))

-- The files stay. Where memory was wanting, some front of these bytes was sent, some front of them came, and some whole parts
-- were answered.
pub record ArrivesSome {T E : Type 0} (bytes : List ℕ) (old new : Course) (result : Result T E) : Type 0 where
  pub files : Linked AnyStep (run_of old).clock (run_of new).clock
  pub earlier : earlier_of new ≡ earlier_of old
  pub some : OnErr result (HearsSome bytes old.server (run_of old) (run_of new))
  pub front : OnErr result (SentSome bytes (sent_of old) (sent_of new))

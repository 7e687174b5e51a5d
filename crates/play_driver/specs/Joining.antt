-- What each moment of a call keeps, and how it is joined to the one before.
use Rattle.std.specs.Prelude.{Option}
use Rattle.imap_model.specs.Changes.{Batch}
use Rattle.imap_model.specs.Talking.{Peer}
use Rattle.world_traits.specs.Files.{Files}
use Rattle.world_traits.specs.Links.{Any}
use Rattle.world_traits.specs.Moments.{Moment, MayLeave, Clock, Since, Keeps}
use Rattle.store_core.specs.Keeping.{Keeping}
use Rattle.store_core.specs.Books.{HoldsBook}
use Rattle.store_core.specs.Steps.{Books, EachBook}
use Rattle.store_core.specs.Taking.{HasBooks}
use Rattle.play_driver.specs.States.{state_of}
use Rattle.play_driver.specs.Machine.{Relation, Machine, Step}

-- The files hold a book that is in the relation to the server and to what waits there; or no side has an open head gate, and no
-- book is in it.
pub record Relates (K : Keeping) (R : Relation K) (files : Files) (p : Peer) : Type 0 where
  pub book : Option K.Book
  pub holds : HoldsBook K book files
  pub related : R book p.server p.waiting

-- so it is in each image of the moment
abbrev pub IsKept : (K : Keeping) → Relation K → Moment → Type 0
IsKept K R m = Keeps (Relates K R) m

-- From one moment to the next the machine takes a step, or stays.
pub record Joined (K : Keeping) (M : Machine K) (m n : Moment) : Type 0 where
  pub old : Books K
  pub new : Books K
  pub at_old : HasBooks K old m
  pub at_new : HasBooks K new n
  pub step : Step K M (state_of K old m.outside) (state_of K new n.outside)

-- Where others changed something from one moment to the next, they spared each book that a stop could have left before.
pub record IsFair (K : Keeping) (M : Machine K) (m n : Moment) : Type 0 where
  pub each : (files : Files) (b : Option K.Book) → MayLeave m files → HoldsBook K b files →
      Batch m.outside.server.boxes m.outside.server n.outside.server → M.Spares b m.outside n.outside.server

-- what others spare of these books, where they change something from one server to another
abbrev pub SparesAt : (K : Keeping) → Machine K → Books K → Peer → Peer → Type 0
SparesAt K M x p q = Batch p.server.boxes p.server q.server → EachBook K (λ b. M.Spares b p q.server) x

-- others were fair all the time
abbrev pub AllFair : (K : Keeping) → Machine K → Clock → Clock → Type 0
AllFair K M old new = Since Any (IsFair K M) old new

-- any two moments
abbrev pub AnyTwo : Moment → Moment → Type 0
AnyTwo m n = Unit {0}

-- time goes on
abbrev pub Grows : Clock → Clock → Type 0
Grows old new = Since Any AnyTwo old new

-- The moments of a call: up to each to which others were fair, each one added is kept, and joined to the one before it. An unfair
-- moment takes nothing away from those before it.
abbrev pub StaysJoined : (K : Keeping) → Relation K → Machine K → Clock → Clock → Type 0
StaysJoined K R M old new = (at : Clock) → Grows old at → Grows at new → AllFair K M old at → Since (IsKept K R) (Joined K M) old at

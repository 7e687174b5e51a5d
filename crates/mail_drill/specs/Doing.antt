-- What may be done in a world in memory, whatever befalls its calls, and that its server serves in it (RFC 9051, sections 2.2, 6 and 7).
use Rattle.std.specs.Prelude.{◌≡◌, List, [], ◌∷◌, ◌++◌, None}
use Rattle.server_mem.specs.Answered.{IsAnswered}
use Rattle.world_traits.specs.Moments.{Clock}
use Rattle.world_mem.specs.Running.{Run, run, step, waiting_of}
use Rattle.world_mem.specs.declared.did.Did.{Did}
use Rattle.world_mem.specs.declared.did.Did.TheVariants as did
use Rattle.play_driver.specs.Joining.{Grows}
use Rattle.play_driver.specs.Serving.{AllServing}
use Rattle.mail_drill.specs.Offering.{OffersAll}

-- In a connection no command waits, and the server stands as it told.
pub record IsLevel (r : Run) : Type 0 where
  pub quiet : r.clock.now.outside.waiting ≡ None
  pub selected : r.clock.now.outside.talk.selected ≡ r.state.selected
  pub server : r.clock.now.outside.server ≡ r.state.server

-- Behind the end of a connection no text arrives, and what waits is what is held.
pub record IsEnded (r : Run) : Type 0 where
  pub none : r.clock.now.outside.talk.arriving ≡ None
  pub waits : r.clock.now.outside.waiting ≡ waiting_of r.state r.held
  pub server : r.clock.now.outside.server ≡ r.state.server

-- A part is answered as the server answers, in a connection; what is held is carried out behind the end of one; and all else may be done at
-- any time: the files are written and synced, others change something, a connection begins or ends, bytes come, or a command waits.
abbrev pub MayBeDone : Did → Run → Type 0
MayBeDone (did.Wrote side at bytes) r = Unit {0}
MayBeDone (did.Synced side) r = Unit {0}
MayBeDone (did.Changed name change) r = Unit {0}
MayBeDone did.Greeted r = Unit {0}
MayBeDone (did.Heard part answered) r = IsLevel r × IsAnswered r.state (r.state.parts ++ part ∷ []) answered
MayBeDone did.Began r = Unit {0}
MayBeDone (did.Waited held) r = Unit {0}
MayBeDone did.Settled r = IsEnded r
MayBeDone did.Ended r = Unit {0}

-- so each of these is, one behind another
abbrev pub MayBeAllDone : List Did → Run → Type 0
MayBeAllDone [] r = Unit {0}
MayBeAllDone (d ∷ ds) r = MayBeDone d r × MayBeAllDone ds (step d r)

-- Whatever is done behind a greeting, a server that offers all that a run needs serves it: each question that has what it needs is answered by
-- OK, BYE is told to LOGOUT alone, and each CAPABILITY and ENABLE tells what is needed.
abbrev pub ServesInMemory : Type 0
ServesInMemory = (old : Clock) (first : Run) (ds : List Did) → Grows old (step did.Greeted first).clock → OffersAll first.state.choices
    → MayBeAllDone ds (step did.Greeted first) → AllServing old (run ds (step did.Greeted first)).clock

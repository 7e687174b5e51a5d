-- What is heard of a reply while it comes, and what a listener takes of it.
use Rattle.std.specs.Prelude.{◌≡◌, ◌-◌, ℕ, Bool, false, length, List, [], ◌∷◌, ◌++◌, Option, MatchOption}
use Rattle.mail_base.specs.declared.tag.Tag.{Tag}
use Rattle.literal_feed.specs.Stream.{Stream}
use Rattle.imap_model.specs.declared.command.Command.{Command}
use Rattle.imap_model.specs.declared.response.Response.{Response}
use Rattle.world_traits.specs.Moments.{Clock}
use Rattle.world_traits.specs.declared.clocked.Clocked.{Ghosts}
use Rattle.imap_session.specs.Hearing.{Reads, all_told_by}
use Rattle.imap_session.specs.Knowing.{NoEnd}
use Rattle.imap_session.specs.Permanent.{behind_all}
use Rattle.imap_session.specs.Replying.{AllSmall, HeardDone, HeardEarly, HeardOn, HeardTo, read_as}
use Rattle.imap_session.specs.Session.{Answered, Begun, IsReady, Sending, Stands, waiting_of}
use Rattle.imap_session.specs.declared.listening.Line.{Line}
use Rattle.imap_session.specs.declared.permits.Permits.{Permits}
use Rattle.imap_model.specs.declared.listen.Last.{Last}

-- A listener took what these responses tell: it stands for that behind what it stood for. This PERMANENTFLAGS counts behind
-- them, and each set of flags in them is small.
pub record Takes {H : Type 0} (Holds : H → List Response → Type 0) (told : List Response) (old new : H) (before after : Option Permits)
    : Type 0 where
  pub stands : (list : List Response) → Holds old list → Holds new (list ++ all_told_by told)
  pub permits : after ≡ behind_all before (all_told_by told)
  pub small : AllSmall (all_told_by told)

-- It took what some responses tell, of which none ends the reply.
pub record TookSome {H : Type 0} (Holds : H → List Response → Type 0) (old new : H) : Type 0 where
  pub told : List Response
  pub none : NoEnd false told
  pub stands : (list : List Response) → Holds old list → Holds new (list ++ all_told_by told)

-- A line was read that ends a reply, or the wait behind a part, and what was told before it was taken.
pub record HeardLine {Self H : Type 0} (L : Ghosts Self) (Holds : H → List Response → Type 0) (part : Bool) (old new : Self)
    (left less : ℕ) (feed after : Stream) (was is : H) (counted counts : Option Permits) (line : Line) : Type 0 where
  pub told : List Response
  pub none : NoEnd part told
  pub takes : Takes Holds told was is counted counts
  pub reads : L.tells_files → (heard : List Response) (had : List ℕ) (most : ℕ)
      → Reads heard had most left (L.link old).connection feed
      → HeardTo part heard told line.frame line.response had most less (L.link new).connection after

-- A part was sent that isn't the last. The server asked for the next one, and told nothing else, or it answered; and what it
-- told was taken.
pub record HeardPart {Self H : Type 0} (L : Ghosts Self) (Holds : H → List Response → Type 0) (tag : Tag) (command : Command)
    (part : List ℕ) (old new : Self) (left less : ℕ) (feed after : Stream) (was is : H) (counted counts : Option Permits)
    (done : Option Last) : Type 0 where
  pub told : List Response
  pub none : NoEnd false told
  pub takes : Takes Holds told was is counted counts
  pub reads : L.tells_files → (heard : List Response) (had : List ℕ) (most : ℕ)
      → Reads heard had most left (L.link old).connection feed
      → MatchOption done (HeardOn heard told 1 had most less (L.link new).connection after)
      (λ d. HeardDone heard told tag d.ending d.code 0 had most less (L.link new).connection after)
  pub went : L.tells_server → (selected : Option (List ℕ)) (before : List (List ℕ)) (next : List ℕ) (behind : List (List ℕ))
      (start : Clock)
      → IsReady (waiting_of selected tag command) before part (next ∷ behind) start (L.clock old) (L.link old).connection feed
      → MatchOption done
      ((all_told_by told ≡ [])
      × Sending (waiting_of selected tag command) (before ++ part ∷ []) start (L.clock new) (L.link new).connection after)
      (λ d. Answered (waiting_of selected tag command) (read_as (all_told_by told) d.ending d.code) start (L.clock new)
      (L.link new).connection after)

-- The parts of a command were sent, or it was answered before the last one; and what the server told was taken.
pub record HeardStart {Self H : Type 0} (L : Ghosts Self) (Holds : H → List Response → Type 0) (tag : Tag) (command : Command)
    (parts : List (List ℕ)) (old new : Self) (left less : ℕ) (feed after : Stream) (was is : H) (counted counts : Option Permits)
    (done : Option Last) : Type 0 where
  pub told : List Response
  pub none : NoEnd false told
  pub takes : Takes Holds told was is counted counts
  pub reads : L.tells_files → (heard : List Response) (had : List ℕ) (most : ℕ)
      → Reads heard had most left (L.link old).connection feed
      → MatchOption done (HeardOn heard told (length parts - 1) had most less (L.link new).connection after)
      (λ d. HeardEarly heard told tag d.ending d.code parts had most less (L.link old) (L.link new) after)
  pub begun : L.tells_server → (selected : Option (List ℕ)) → Stands selected (L.clock old) (L.link old).connection feed
      → MatchOption done
      ((all_told_by told ≡ []) × Begun (waiting_of selected tag command) (L.clock old) (L.clock new) (L.link new).connection after)
      (λ d. Answered (waiting_of selected tag command) (read_as (all_told_by told) d.ending d.code) (L.clock old) (L.clock new)
      (L.link new).connection after)

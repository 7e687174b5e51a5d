-- The parts of a command (RFC 9051, section 4.3): what a call says that sends some of them.
use Rattle.std.specs.Prelude.{◌≡◌, ◌≢◌, ℕ, List, ◌++◌, Result, OnOk, IsErrOf}
use Rattle.mail_base.specs.declared.tag.Tag.{Tag}
use Rattle.imap_model.specs.Carrying.{Waiting}
use Rattle.imap_model.specs.declared.ending.Ending.{Ending}
use Rattle.imap_model.specs.declared.ending.Ending.TheVariants as endings
use Rattle.world_traits.specs.Asking.{Asking}
use Rattle.world_traits.specs.Links.{Linked, AnyStep}
use Rattle.world_traits.specs.Moments.{Clock}
use Rattle.world_traits.specs.declared.clocked.Clocked.{Ghosts}
use Rattle.imap_session.specs.Blame.{Blames}
use Rattle.imap_session.specs.Faults.{IsCount}
use Rattle.imap_session.specs.Sent.{SentFront}
use Rattle.imap_session.specs.declared.fault.SessionFault.{SessionFault}
use Rattle.imap_session.specs.declared.fault.SessionFault.TheVariants as faults

-- However the call ends, the files stay as they were, and a front of this text was sent and nothing more; all of it unless
-- there is a fault.
pub record Sends {Self T : Type 0} (L : Ghosts Self) (text : List ℕ) (old new : Self) (result : Result T SessionFault)
    : Type 0 where
  pub files : L.tells_files → Linked AnyStep (L.clock old) (L.clock new)
  pub sent : L.tells_files → SentFront text (L.link old).sent (L.link new).sent
  pub whole : L.tells_files → OnOk result ((L.link new).sent ≡ (L.link old).sent ++ text)
  pub earlier : L.tells_files → (L.link new).earlier ≡ (L.link old).earlier
  pub blames : Blames L old new result

-- A completion that came while a part was still to be sent: it isn't OK, and a question has none.
pub record IsEarly (tag : Tag) (ending : Ending) : Type 0 where
  pub accepted : IsCount tag → ending ≡ endings.Ok
  pub refused : ending ≢ endings.Ok

-- A part was sent that isn't the last, since the command was begun at this start. The server does what it may meanwhile, and no
-- honest server's reply is called bad.
pub record GoesOn {Self T : Type 0} (L : Ghosts Self) (w : Waiting) (start : Clock) (old new : Self) (result : Result T SessionFault)
    : Type 0 where
  pub told : Linked (Asking start.now.outside.talk.told w.tag w.command) (L.clock old) (L.clock new)
  pub honest : (at : ℕ) → IsErrOf result (faults.BadReply at) → ⊥

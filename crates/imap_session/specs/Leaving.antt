-- How a session ends: LOGOUT is sent, and a BYE or the completion is read, whichever comes first (RFC 9051, sections 6.1.3 and
-- 7.1.5). The BYE may have been told before LOGOUT was sent.
use Rattle.std.specs.Prelude.{◌≡◌, ◌≢◌, ◌⊎◌, ℕ, false, List, [], ◌∷◌, ◌++◌, Option, Result, OnOk, IsErrOf}
use Rattle.mail_base.specs.declared.frame.Frame.{Frame}
use Rattle.mail_base.specs.declared.tag.Tag.{Tag}
use Rattle.literal_feed.specs.Stream.{Stream}
use Rattle.imap_model.specs.CommandText.{parts_of}
use Rattle.imap_model.specs.declared.code.Code.{Code}
use Rattle.imap_model.specs.declared.command.Command.TheVariants as commands
use Rattle.imap_model.specs.declared.ending.Ending.TheVariants as endings
use Rattle.imap_model.specs.declared.response.Response.{Response}
use Rattle.imap_model.specs.declared.response.Response.TheVariants as responses
use Rattle.world_traits.specs.LinkState.{Connection}
use Rattle.world_traits.specs.declared.clocked.Clocked.{Ghosts}
use Rattle.imap_session.specs.Causes.{LastLine, ReadingFails}
use Rattle.imap_session.specs.Faults.{Unfit}
use Rattle.imap_session.specs.Hearing.{Hears}
use Rattle.imap_session.specs.Knowing.{NoEnd}
use Rattle.imap_session.specs.Most.{most_since}
use Rattle.imap_session.specs.Replying.{ReceivedAtMost}
use Rattle.imap_session.specs.Sent.{joined}
use Rattle.imap_session.specs.declared.fault.SessionFault.{SessionFault}

-- BYE, or the completion of LOGOUT
abbrev pub IsFarewell : Tag → Response → Type 0
IsFarewell tag response = (response ≡ responses.Bye) ⊎ ((code : Code) × (response ≡ responses.Done tag endings.Ok code))

-- Behind what was heard before, such a line was read last, and before it neither a BYE nor any completion.
pub record Left (heard : List Response) (tag : Tag) (c : Option Connection) : Type 0 where
  pub rows : List Response
  pub last : Response
  pub feed : Stream
  pub hears : Hears (heard ++ (rows ++ last ∷ [])) c feed
  pub first : NoEnd false rows
  pub farewell : IsFarewell tag last

-- the last line that was read is no such line; a BYE is never a fault
pub record IsNoFarewell (heard : List Response) (tag : Tag) (had : List ℕ) (c : Option Connection) (fault : SessionFault) : Type 0 where
  pub frame : Frame
  pub response : Response
  pub line : LastLine heard frame response had c
  pub unfit : Unfit tag ⊥ frame response fault
  pub other : response ≢ responses.Bye

-- what a fault of leaving says of the bytes received behind those that were had
abbrev pub Staying : List Response → Tag → List ℕ → Option Connection → SessionFault → Type 0
Staying heard tag had c fault = ReadingFails false heard had most_since c fault ⊎ IsNoFarewell heard tag had c fault

-- Where a call that says LOGOUT succeeds, a farewell was read, within a reply's limit, and LOGOUT was sent whole. Where it
-- fails, the fault's cause stands in the bytes received.
pub record Leaves {Self T : Type 0} (L : Ghosts Self) (tag : Tag) (old new : Self) (before : Stream)
    (result : Result T SessionFault) : Type 0 where
  pub left : L.tells_files → (heard : List Response) → Hears heard (L.link old).connection before
      → OnOk result (Left heard tag (L.link new).connection)
  pub within : L.tells_files → (heard : List Response) → (h : Hears heard (L.link old).connection before)
      → OnOk result (ReceivedAtMost h.connection.received (L.link new).connection)
  pub whole : L.tells_files
      → OnOk result ((L.link new).sent ≡ (L.link old).sent ++ joined (parts_of tag commands.Logout))
  pub why : L.tells_files → (heard : List Response) → (h : Hears heard (L.link old).connection before)
      → (fault : SessionFault) → IsErrOf result fault
      → Staying heard tag h.connection.received (L.link new).connection fault

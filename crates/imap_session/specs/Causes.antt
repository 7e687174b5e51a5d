-- Why a reply isn't one, by the bytes that came behind what was heard before (RFC 9051, sections 2.2.2 and 7).
use Rattle.std.specs.Prelude.{◌⊎◌, ℕ, ◌<◌, Bool, false, List, [], ◌∷◌, ◌++◌, Option}
use Rattle.mail_base.specs.declared.frame.Frame.{Frame}
use Rattle.mail_base.specs.declared.tag.Tag.{Tag}
use Rattle.literal_feed.specs.Stream.{Stream}
use Rattle.imap_model.specs.Responses.{Spells}
use Rattle.imap_model.specs.declared.command.Command.{Command}
use Rattle.imap_model.specs.declared.response.Response.{Response}
use Rattle.world_traits.specs.LinkState.{Connection}
use Rattle.imap_session.specs.Faults.{Reading, Unfit, more_parts}
use Rattle.imap_session.specs.Hearing.{Took}
use Rattle.imap_session.specs.Knowing.{NoEnd, requests}
use Rattle.imap_session.specs.Most.{most_of}
use Rattle.imap_session.specs.declared.fault.SessionFault.{SessionFault}

-- Behind what was heard before, these responses came, none of which ends the reply, and then reading failed.
pub record ReadingFails (part : Bool) (heard : List Response) (had : List ℕ) (most : ℕ) (c : Option Connection)
    (fault : SessionFault) : Type 0 where
  pub told : List Response
  pub none : NoEnd part told
  pub reading : Reading (heard ++ told) had most c fault

-- Behind what was heard before, these responses came, none of which ends a reply, and then this line.
pub record LastLine (heard : List Response) (frame : Frame) (response : Response) (had : List ℕ) (c : Option Connection) : Type 0 where
  pub told : List Response
  pub none : NoEnd false told
  pub before : List Frame
  pub left : Stream
  pub took : Took (heard ++ (told ++ response ∷ [])) (before ++ frame ∷ []) left had c
  pub spells : Spells frame response

-- The line is no completion that this command may have, of which so many parts have to be asked for before it can be OK.
pub record IsNoReply (heard : List Response) (tag : Tag) (parts : ℕ) (had : List ℕ) (c : Option Connection) (fault : SessionFault) : Type 0 where
  pub frame : Frame
  pub response : Response
  pub line : LastLine heard frame response had c
  pub unfit : Unfit tag (requests line.told < parts) frame response fault

-- What the fault of a command says of the bytes received behind those that were had, of which at most so many are taken.
abbrev pub Fails : List Response → Tag → ℕ → List ℕ → ℕ → Option Connection → SessionFault → Type 0
Fails heard tag parts had most c fault = ReadingFails false heard had most c fault ⊎ IsNoReply heard tag parts had c fault

-- A reply has at most what its command allows.
abbrev pub FailsBehind : List Response → Tag → Command → List ℕ → Option Connection → SessionFault → Type 0
FailsBehind heard tag command had c fault = Fails heard tag (more_parts tag command) had (most_of command) c fault

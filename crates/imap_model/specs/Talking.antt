-- One connection to a server, as the server has it (RFC 9051, sections 2.2, 3, 4.3 and 7.1.5): what it has told, what is
-- selected, the text that is arriving, and the command that waits.
use Rattle.std.specs.Prelude.{◌≡◌, ◌≢◌, ℕ, Bool, true, false, List, [], ◌∷◌, ◌++◌, Option, Some, None}
use Rattle.mail_base.specs.declared.tag.Tag.{Tag}
use Rattle.imap_model.specs.CarriedOut.{CarriesOut, SaysRemarks, told_in}
use Rattle.imap_model.specs.Carrying.{Waiting}
use Rattle.imap_model.specs.Changes.{Batch}
use Rattle.imap_model.specs.CommandText.{parts_of}
use Rattle.imap_model.specs.Held.{IsSent}
use Rattle.imap_model.specs.Lines.{AreLines}
use Rattle.imap_model.specs.Remarks.{selected_box, MayCode}
use Rattle.imap_model.specs.declared.command.Command.{Command}
use Rattle.imap_model.specs.declared.ending.Ending.TheVariants as endings
use Rattle.imap_model.specs.declared.replies.Replies.{Replies}
use Rattle.imap_model.specs.declared.response.Response.{Response}
use Rattle.imap_model.specs.declared.response.Response.TheVariants as responses
use Rattle.imap_model.specs.declared.server.Server.{Server}

-- Parts of a text have arrived whole, and the text isn't complete: its tag, those parts, and whether the next was asked for.
pub record Arriving : Type 0 where
  pub tag : Tag
  pub parts : List (List ℕ)
  pub asked : Bool

-- what was told in this connection, what is selected in it, and the text that is arriving, if one is
pub record Talk : Type 0 where
  pub told : List Response
  pub selected : Option (List ℕ)
  pub arriving : Option Arriving

-- a server with its connection
pub record Peer : Type 0 where
  pub server : Server
  pub waiting : Option Waiting
  pub talk : Talk

-- the first response of a connection (RFC 9051, section 7.1.4 and 7.1.5)
abbrev pub IsGreeting : Response → Type 0
IsGreeting (responses.Untagged endings.Ok code) = MayCode None code
IsGreeting (responses.Untagged endings.No code) = ⊥
IsGreeting (responses.Untagged endings.Bad code) = ⊥
IsGreeting (responses.Preauth code) = MayCode None code
IsGreeting responses.Bye = Unit {0}
IsGreeting (responses.Done tag ending code) = ⊥
IsGreeting responses.Go = ⊥
IsGreeting (responses.Capability words) = ⊥
IsGreeting (responses.Enabled words) = ⊥
IsGreeting (responses.Exists count) = ⊥
IsGreeting (responses.Fetch fetched) = ⊥
IsGreeting (responses.Vanished earlier uids) = ⊥
IsGreeting (responses.Found uids) = ⊥
IsGreeting responses.Other = ⊥

-- a connection that has just been made
abbrev pub greeted : Response → Talk
greeted greeting = record { told = greeting ∷ []; selected = None; arriving = None }

-- the server asks for the next part
abbrev pub went_on : Arriving → Peer → Peer
went_on a p = record p { talk = record p.talk { told = p.talk.told ++ responses.Go ∷ []; arriving = Some (record a { asked = true }) } }

-- the server refuses in place of that, and the text is dropped
abbrev pub refused : Arriving → Replies → Peer → Peer
refused a r p = record p { talk = record p.talk { told = p.talk.told ++ told_in a.tag r; arriving = None } }

-- the refusal of a text: NO or BAD, and remarks
pub record IsRefusal (p : Peer) (r : Replies) : Type 0 where
  pub ending : r.ending ≢ endings.Ok
  pub says : SaysRemarks (selected_box p.talk.selected p.server.boxes) r

-- the waiting command was carried out
abbrev pub carried : Waiting → Replies → Server → Option (List ℕ) → Peer → Peer
carried w r t after p = record p { server = t; waiting = None; talk = record p.talk { told = p.talk.told ++ told_in w.tag r; selected = after } }

-- What may happen at the server: nothing, changes by others at one moment, an answer to a part, the answer to a command.
pub data Answering (p : Peer) : Peer → Type 0 where
  stays : Answering p p
  others : (t : Server) → Batch p.server.boxes p.server t → Answering p (record p { server = t })
  goes_on : (a : Arriving) → p.talk.arriving ≡ Some a → a.asked ≡ false → Answering p (went_on a p)
  refuses : (a : Arriving) (r : Replies) → p.talk.arriving ≡ Some a → a.asked ≡ false → IsRefusal p r → Answering p (refused a r p)
  carries : (w : Waiting) (r : Replies) (t : Server) (after : Option (List ℕ)) → p.waiting ≡ Some w → CarriesOut w p.server r t after →
      Answering p (carried w r t after p)

-- As a connection is made besides: what waited is dropped, and a talk begins. So a command of a lost connection is carried
-- out before the next greeting or never (this client's premise).
pub data Connecting (p : Peer) : Peer → Type 0 where
  as_before : {q : Peer} → Answering p q → Connecting p q
  ends : Connecting p (record p { talk = record p.talk { selected = None; arriving = None } })
  begins : (greeting : Response) → IsGreeting greeting → Connecting p (record { server = p.server; waiting = None; talk = greeted greeting })

-- a part of a command's text, with the parts before it and behind it
pub record IsPartOf (tag : Tag) (command : Command) (before : List (List ℕ)) (part : List ℕ) (behind : List (List ℕ)) : Type 0 where
  pub sent : IsSent tag command
  pub text : parts_of tag command ≡ before ++ part ∷ behind

-- These parts of a text have arrived, and the next one is awaited. Where there are none, nothing waits, and a text may begin.
abbrev pub Awaits : Tag → List (List ℕ) → Peer → Type 0
Awaits tag [] p = (p.waiting ≡ None) × (p.talk.arriving ≡ None)
Awaits tag (part ∷ parts) p = (p.waiting ≡ None) × (p.talk.arriving ≡ Some (record { tag = tag; parts = part ∷ parts; asked = true }))

-- the part has arrived whole: where it is the last one of its text, the command waits
abbrev pub arrived : Tag → Command → List (List ℕ) → List ℕ → List (List ℕ) → Peer → Peer
arrived tag command before part [] p =
    record p { waiting = Some (record { selected = p.talk.selected; tag = tag; command = command }); talk = record p.talk { arriving = None } }
arrived tag command before part (next ∷ behind) p =
    record p { talk = record p.talk { arriving = Some (record { tag = tag; parts = before ++ part ∷ []; asked = false }) } }

-- a part has arrived that isn't answered
abbrev pub Unanswered : Peer → Type 0
Unanswered p = (a : Arriving) × (p.talk.arriving ≡ Some a) × (a.asked ≡ false)

-- The server owes nothing: all that was told was received, no command waits, and each part that arrived was answered.
pub record OwesNothing (p : Peer) (received : List ℕ) : Type 0 where
  pub all : AreLines p.talk.told received
  pub quiet : p.waiting ≡ None
  pub answered : ¬ (Unanswered p)

-- a reply is due
abbrev pub IsDue : Peer → List ℕ → Type 0
IsDue p received = ¬ (OwesNothing p received)

-- What a client asks of a server, one question behind the other, and how that ends.
use Rattle.std.specs.Prelude.{◌≡◌, ◌⊎◌, ℕ, ◌+◌, ◌≤◌, Bool, false, List, [], ◌∷◌, ◌++◌, length, Option, Some, None}
use Rattle.mail_base.specs.declared.tag.Tag.{Tag}
use Rattle.mail_base.specs.declared.tag.Tag.TheVariants as tags
use Rattle.literal_feed.specs.Stream.{Stream}
use Rattle.imap_model.specs.CommandText.{parts_of}
use Rattle.imap_model.specs.declared.command.Command.{Command}
use Rattle.imap_model.specs.declared.ending.Ending.TheVariants as endings
use Rattle.imap_model.specs.declared.item.Item.{Item}
use Rattle.imap_model.specs.declared.replies.Replies.{Replies}
use Rattle.imap_model.specs.declared.response.Response.{Response}
use Rattle.imap_model.specs.declared.response.Response.TheVariants as responses
use Rattle.world_traits.specs.Asking.{Asking}
use Rattle.world_traits.specs.LinkState.{Connection, LinkState}
use Rattle.world_traits.specs.Links.{Linked}
use Rattle.world_traits.specs.Moments.{Clock}
use Rattle.imap_session.specs.Causes.{FailsBehind}
use Rattle.imap_session.specs.Faults.{more_parts}
use Rattle.imap_session.specs.Hearing.{Hears, all_told_by}
use Rattle.imap_session.specs.Knowing.{NoEnd, requests}
use Rattle.imap_session.specs.Most.{most_of}
use Rattle.imap_session.specs.Replying.{AreSmall}
use Rattle.imap_session.specs.Sent.{joined, SentFront}
use Rattle.imap_session.specs.Session.{Answered, waiting_of}
use Rattle.imap_session.specs.declared.fault.SessionFault.{SessionFault}
use Rattle.imap_session.specs.declared.fault.SessionFault.TheVariants as faults

-- Nothing more is asked, and it is known whether the server speaks IMAP4rev2; or a thing is lacking; or a command is sent, and
-- what comes then depends on its replies.
pub data Dialogue : Type 0 where
  Ends : Bool → Dialogue
  Lacks : Item → Dialogue
  Asks : Command → (Replies → Dialogue) → Dialogue

-- the tag of the next question in a connection in which so many were asked
abbrev pub next_tag : ℕ → Tag
next_tag count = tags.Count (count + 1)

-- the text of that question
abbrev pub next_text : ℕ → Command → List ℕ
next_text count command = joined (parts_of (next_tag count) command)

-- Behind what was heard before, these lines are the whole reply: the untagged responses, with a `+` for each part of the
-- command that has to be asked for among them, and the completion, which says OK. They were read from these bytes, which came
-- behind those that were had, and pass no limit.
pub record IsReply (had : List ℕ) (heard : List Response) (tag : Tag) (command : Command) (r : Replies) (came : List ℕ)
    (lines : List Response) : Type 0 where
  pub told : List Response
  pub none : NoEnd false told
  pub untagged : r.untagged ≡ all_told_by told
  pub whole : lines ≡ told ++ responses.Done tag r.ending r.code ∷ []
  pub accepted : r.ending ≡ endings.Ok
  pub asked : more_parts tag command ≤ requests told
  pub small : AreSmall r
  pub feed : Stream
  pub hears : Hears (heard ++ lines) (Some (record { received = had ++ came })) feed
  pub few : length came ≤ most_of command

-- what is known at a dialogue's end: how many questions were asked in the connection, and whether the server speaks IMAP4rev2
pub record Known : Type 0 where
  pub count : ℕ
  pub rev2 : Bool

-- these bytes were sent and those received, and of them this was heard
pub record StoodAt (sent had : List ℕ) (heard : List Response) (link : LinkState) (feed : Stream) : Type 0 where
  pub sends : link.sent ≡ sent
  pub has : link.connection ≡ Some (record { received = had })
  pub hears : Hears heard link.connection feed

-- The dialogue came to its end: each question was sent whole and its replies were read, one behind the other. So many were
-- asked in the connection before it, and this was sent, received and heard in it.
abbrev pub CameToEnd : Dialogue → ℕ → List ℕ → List ℕ → List Response → Known → LinkState → Stream → Type 0
CameToEnd (Ends rev2) count sent had heard known link feed =
    (known ≡ record { count = count; rev2 = rev2 }) × StoodAt sent had heard link feed
CameToEnd (Lacks item) count sent had heard known link feed = ⊥
CameToEnd (Asks command next) count sent had heard known link feed =
    (r : Replies) × (came : List ℕ) × (lines : List Response) × IsReply had heard (next_tag count) command r came lines
    × CameToEnd (next r) (count + 1) (sent ++ next_text count command) (had ++ came) (heard ++ lines) known link feed

-- A question was not answered, behind what was received and heard before it: its text was sent to no more than its end.
pub record NoAnswer (sent had : List ℕ) (heard : List Response) (tag : Tag) (command : Command) (link : LinkState)
    (fault : SessionFault) : Type 0 where
  pub text : SentFront (joined (parts_of tag command)) sent link.sent
  pub failing : FailsBehind heard tag command had link.connection fault

-- Why a dialogue didn't come to its end: a question wasn't answered, or what its replies tell lacks a thing. Then nothing
-- more was sent.
abbrev pub BrokeOff : Dialogue → ℕ → List ℕ → List ℕ → List Response → LinkState → SessionFault → Type 0
BrokeOff (Ends rev2) count sent had heard link fault = ⊥
BrokeOff (Lacks item) count sent had heard link fault =
    (fault ≡ faults.Lacking item) × ((feed : Stream) × StoodAt sent had heard link feed)
BrokeOff (Asks command next) count sent had heard link fault = NoAnswer sent had heard (next_tag count) command link fault
    ⊎ ((r : Replies) × (came : List ℕ) × (lines : List Response) × IsReply had heard (next_tag count) command r came lines
    × BrokeOff (next r) (count + 1) (sent ++ next_text count command) (had ++ came) (heard ++ lines) link fault)

-- what was sent in a dialogue as far as it came: the texts of its questions, in their order, the last one maybe not to its end
abbrev pub SentIn : Dialogue → ℕ → List ℕ → List ℕ → Type 0
SentIn (Ends rev2) count old new = new ≡ old
SentIn (Lacks item) count old new = new ≡ old
SentIn (Asks command next) count old new = SentFront (next_text count command) old new
    ⊎ ((r : Replies) × SentIn (next r) (count + 1) (old ++ next_text count command) new)

-- a question was answered by OK at one moment of the time between
pub record Replied (count : ℕ) (command : Command) (r : Replies) (old new : Clock) : Type 0 where
  pub connection : Option Connection
  pub feed : Stream
  pub answered : Answered (waiting_of None (next_tag count) command) r old new connection feed
  pub accepted : r.ending ≡ endings.Ok

-- a time with what was sent up to it
pub record Point : Type 0 where
  pub clock : Clock
  pub sent : List ℕ

abbrev pub so_far : Clock → LinkState → Point
so_far clock link = record { clock = clock; sent = link.sent }

-- What the server did and what was sent in a dialogue as far as it came: each question was asked behind the answer to the one
-- before it, and what was asked next depends on that answer.
abbrev pub Talked : Dialogue → ℕ → Point → Point → Type 0
Talked (Ends rev2) count old new = new ≡ old
Talked (Lacks item) count old new = new ≡ old
Talked (Asks command next) count old new =
    (Linked (Asking old.clock.now.outside.talk.told (next_tag count) command) old.clock new.clock
    × SentFront (next_text count command) old.sent new.sent)
    ⊎ ((r : Replies) × (at : Clock) × Replied count command r old.clock at
    × Talked (next r) (count + 1) (record { clock = at; sent = old.sent ++ next_text count command }) new)

-- Each question was answered, and the dialogue ended, or ended since this was lacking.
abbrev pub TalkedOut : Dialogue → ℕ → Option Item → Point → Point → Type 0
TalkedOut (Ends rev2) count None old new = new ≡ old
TalkedOut (Ends rev2) count (Some item) old new = ⊥
TalkedOut (Lacks item) count None old new = ⊥
TalkedOut (Lacks item) count (Some what) old new = (what ≡ item) × (new ≡ old)
TalkedOut (Asks command next) count lacking old new = (r : Replies) × (at : Clock) × Replied count command r old.clock at
    × TalkedOut (next r) (count + 1) lacking (record { clock = at; sent = old.sent ++ next_text count command }) new

-- Why reading ends.
use Rattle.std.specs.Prelude.{◌≡◌, ◌≢◌, ◌⊎◌, ℕ, ◌-◌, List, [], ◌∷◌, length, Option}
use Rattle.mail_base.specs.declared.frame.Frame.{Frame}
use Rattle.mail_base.specs.declared.tag.Tag.{Tag}
use Rattle.mail_base.specs.declared.tag.Tag.TheVariants as tags
use Rattle.literal_feed.specs.Stream.{Stream}
use Rattle.imap_model.specs.CommandText.{parts_of}
use Rattle.imap_model.specs.declared.code.Code.{Code}
use Rattle.imap_model.specs.declared.command.Command.{Command}
use Rattle.imap_model.specs.declared.ending.Ending.{Ending}
use Rattle.imap_model.specs.declared.ending.Ending.TheVariants as endings
use Rattle.mail_base.specs.declared.frame.FeedFault.{FeedFault}
use Rattle.mail_base.specs.declared.frame.FeedFault.TheVariants as feeds
use Rattle.imap_model.specs.Responses.{Spells}
use Rattle.imap_model.specs.declared.limit.Limit.TheVariants as limits
use Rattle.imap_model.specs.declared.response.Response.{Response}
use Rattle.imap_model.specs.declared.response.Response.TheVariants as responses
use Rattle.world_traits.specs.LinkState.{Connection}
use Rattle.imap_session.specs.Hearing.{PassesLimit, Took, Unspelled, TooMuch}
use Rattle.imap_session.specs.Most.{most_before}
use Rattle.imap_session.specs.declared.fault.SessionFault.{SessionFault}
use Rattle.imap_session.specs.declared.fault.SessionFault.TheVariants as faults

-- a fault of the feed as it is told
abbrev pub of_feed : FeedFault → SessionFault
of_feed (feeds.BareLf at) = faults.BadReply at
of_feed (feeds.LiteralTooLarge at asked) = faults.TooLarge limits.Literal asked
of_feed (feeds.LineTooLong at) = faults.TooLarge limits.Line 1048577
of_feed feeds.Memory = faults.Memory

-- what a fault of reading says of the bytes received behind those that were had, of which at most so many are taken and this
-- was heard
abbrev pub Reading : List Response → List ℕ → ℕ → Option Connection → SessionFault → Type 0
Reading heard had most c faults.Memory = Unit {0}
Reading heard had most c faults.Link = Unit {0}
Reading heard had most c (faults.Refused line) = ⊥
Reading heard had most c (faults.BadReply at) = Unspelled heard at had c
Reading heard had most c (faults.Lacking item) = ⊥
Reading heard had most c (faults.TooLarge limit number) = TooMuch heard limit number had most c

-- what it says of a frame
abbrev pub LineBad : Frame → SessionFault → Type 0
LineBad frame faults.Memory = Unit {0}
LineBad frame faults.Link = ⊥
LineBad frame (faults.Refused line) = ⊥
LineBad frame (faults.BadReply at) = (at ≡ frame.at) × ((response : Response) → ¬ (Spells frame response))
LineBad frame (faults.Lacking item) = ⊥
LineBad frame (faults.TooLarge limit number) = PassesLimit frame limit number

-- the tag of a question
abbrev pub IsCount : Tag → Type 0
IsCount (tags.Play n) = ⊥
IsCount (tags.Again id turn) = ⊥
IsCount (tags.Count n) = Unit {0}
IsCount tags.Strange = ⊥

-- how many parts of the command a server has to ask for
abbrev pub more_parts : Tag → Command → ℕ
more_parts tag command = length (parts_of tag command) - 1

-- there are some
pub record HasParts (tag : Tag) (command : Command) : Type 0 where
  pub first : List ℕ
  pub next : List ℕ
  pub behind : List (List ℕ)
  pub text : parts_of tag command ≡ first ∷ next ∷ behind

-- why a completion is no answer: it has another tag, or says OK while a part is awaited
abbrev pub IsWrong : Tag → Type 0 → Tag → Ending → Type 0
IsWrong tag Early other ending = (other ≢ tag) ⊎ ((ending ≡ endings.Ok) × Early)

-- what the last line that was read says of a fault
abbrev pub Unfit : Tag → Type 0 → Frame → Response → SessionFault → Type 0
Unfit tag Early frame response faults.Memory = ⊥
Unfit tag Early frame response faults.Link = ⊥
Unfit tag Early frame response (faults.Refused line) =
    (line ≡ frame.bytes)
    × ((response ≡ responses.Bye)
    ⊎ (IsCount tag × ((ending : Ending) × (code : Code) × (response ≡ responses.Done tag ending code) × (ending ≢ endings.Ok))))
Unfit tag Early frame response (faults.BadReply at) =
    (at ≡ frame.at)
    × ((other : Tag) × (ending : Ending) × (code : Code) × (response ≡ responses.Done other ending code) × IsWrong tag Early other ending)
Unfit tag Early frame response (faults.Lacking item) = ⊥
Unfit tag Early frame response (faults.TooLarge limit number) = ⊥

-- a greeting after which the session goes on
abbrev pub IsHello : Response → Type 0
IsHello (responses.Done tag ending code) = ⊥
IsHello (responses.Untagged endings.Ok code) = Unit {0}
IsHello (responses.Untagged endings.No code) = ⊥
IsHello (responses.Untagged endings.Bad code) = ⊥
IsHello responses.Bye = ⊥
IsHello (responses.Preauth code) = Unit {0}
IsHello responses.Go = ⊥
IsHello (responses.Capability words) = ⊥
IsHello (responses.Enabled words) = ⊥
IsHello (responses.Exists count) = ⊥
IsHello (responses.Fetch fetched) = ⊥
IsHello (responses.Vanished earlier uids) = ⊥
IsHello (responses.Found uids) = ⊥
IsHello responses.Other = ⊥

-- what the first line says of a fault
abbrev pub HelloUnfit : Frame → Response → SessionFault → Type 0
HelloUnfit frame response faults.Memory = ⊥
HelloUnfit frame response faults.Link = ⊥
HelloUnfit frame response (faults.Refused line) = (line ≡ frame.bytes) × (response ≡ responses.Bye)
HelloUnfit frame response (faults.BadReply at) = (at ≡ frame.at) × ¬ (IsHello response) × (response ≢ responses.Bye)
HelloUnfit frame response (faults.Lacking item) = ⊥
HelloUnfit frame response (faults.TooLarge limit number) = ⊥

-- this was the first line of the connection
pub record FirstLine (frame : Frame) (response : Response) (c : Option Connection) : Type 0 where
  pub left : Stream
  pub took : Took (response ∷ []) (frame ∷ []) left [] c
  pub spells : Spells frame response

-- it is no greeting
pub record IsNoHello (c : Option Connection) (fault : SessionFault) : Type 0 where
  pub frame : Frame
  pub response : Response
  pub line : FirstLine frame response c
  pub unfit : HelloUnfit frame response fault

-- what the fault of reading the greeting says of the bytes received
abbrev pub NoHello : Option Connection → SessionFault → Type 0
NoHello c fault = Reading [] [] most_before c fault ⊎ IsNoHello c fault

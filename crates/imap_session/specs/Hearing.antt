-- What was read from a connection, and why nothing more is.
use Rattle.std.specs.Prelude.{◌≡◌, ◌⊎◌, ℕ, ◌+◌, ◌≤◌, ◌<◌, List, [], ◌∷◌, ◌++◌, length, Option, Some, Err}
use Rattle.mail_base.specs.Frames.{FirstFault, IsNext, NoWhole}
use Rattle.mail_base.specs.declared.frame.Frame.{Frame}
use Rattle.mail_base.specs.declared.frame.FeedFault.TheVariants as feeds
use Rattle.literal_feed.specs.Stream.{Stream, StandsFor}
use Rattle.imap_model.specs.Responses.{Spells}
use Rattle.imap_model.specs.declared.limit.Limit.{Limit}
use Rattle.imap_model.specs.declared.limit.Limit.TheVariants as limits
use Rattle.imap_model.specs.declared.response.Response.{Response}
use Rattle.imap_model.specs.declared.response.Response.TheVariants as responses
use Rattle.imap_response.specs.Flags.{kept}
use Rattle.imap_response.specs.Reading.{answer_to, reading}
use Rattle.imap_response.specs.Within.{SpellsWithin}
use Rattle.imap_response.specs.declared.fault.ResponseFault.TheVariants as readings
use Rattle.imap_response.specs.Heard.{Spell}
use Rattle.world_traits.specs.LinkState.{Connection}

-- each frame spells its response, and keeps the limits of flags
abbrev pub KeepLimits : List Frame → List Response → Type 0
KeepLimits [] [] = Unit {0}
KeepLimits [] (r ∷ rs) = ⊥
KeepLimits (f ∷ fs) [] = ⊥
KeepLimits (f ∷ fs) (r ∷ rs) = SpellsWithin f r × KeepLimits fs rs

-- Of all that was received in the connection these frames were taken, which spell these responses, and the rest stands in the
-- feed.
pub record Hears (heard : List Response) (c : Option Connection) (feed : Stream) : Type 0 where
  pub connection : Connection
  pub there : c ≡ Some connection
  pub taken : List Frame
  pub stands : StandsFor connection.received taken feed
  pub spell : Spell taken heard
  pub limited : KeepLimits taken heard

-- Behind the bytes that were had, these came of a reply, which has at most so many; and so many may still come.
pub record Reads (heard : List Response) (had : List ℕ) (most left : ℕ) (c : Option Connection) (feed : Stream) : Type 0 where
  pub hears : Hears heard c feed
  pub reply : List ℕ
  pub grown : hears.connection.received ≡ had ++ reply
  pub room : length reply + left ≡ most

-- The last of the responses was read from this frame.
pub record ReadsLast (heard : List Response) (frame : Frame) (had : List ℕ) (most left : ℕ) (c : Option Connection)
    (feed : Stream) : Type 0 where
  pub reads : Reads heard had most left c feed
  pub before : List Frame
  pub last : reads.hears.taken ≡ before ++ frame ∷ []

-- what a response tells of a reply: a `+` asks for a part of the command, and tells nothing
abbrev pub told_by : Response → List Response
told_by (responses.Done tag ending code) = responses.Done tag ending code ∷ []
told_by (responses.Untagged ending code) = responses.Untagged ending code ∷ []
told_by responses.Bye = responses.Bye ∷ []
told_by (responses.Preauth code) = responses.Preauth code ∷ []
told_by responses.Go = []
told_by (responses.Capability words) = responses.Capability words ∷ []
told_by (responses.Enabled words) = responses.Enabled words ∷ []
told_by (responses.Exists count) = responses.Exists count ∷ []
told_by (responses.Fetch fetched) = responses.Fetch fetched ∷ []
told_by (responses.Vanished earlier uids) = responses.Vanished earlier uids ∷ []
told_by (responses.Found uids) = responses.Found uids ∷ []
told_by responses.Other = responses.Other ∷ []

abbrev pub all_told_by : List Response → List Response
all_told_by [] = []
all_told_by (r ∷ rs) = told_by r ++ all_told_by rs

-- The frames that were taken, and what is left of all that was received: the bytes that were had, and those that came behind
-- them.
pub record Took (heard : List Response) (taken : List Frame) (left : Stream) (had : List ℕ) (c : Option Connection) : Type 0 where
  pub connection : Connection
  pub there : c ≡ Some connection
  pub reply : List ℕ
  pub grown : connection.received ≡ had ++ reply
  pub stands : StandsFor connection.received taken left
  pub spell : Spell taken heard

-- the next frame of the stream has this place and spells no response
pub record SpellsNone (at : ℕ) (left : Stream) : Type 0 where
  pub frame : Frame
  pub rest : List ℕ
  pub next : IsNext left.at left.bytes frame rest
  pub place : at ≡ frame.at
  pub none : (response : Response) → ¬ (Spells frame response)

-- Behind all that was heard the bytes received don't go on as spelled responses: no whole frame is left and there is an LF
-- without CR, or the next frame spells none.
pub record Unspelled (heard : List Response) (at : ℕ) (had : List ℕ) (c : Option Connection) : Type 0 where
  pub taken : List Frame
  pub left : Stream
  pub took : Took heard taken left had c
  pub bad : (NoWhole left.bytes × ∥ FirstFault left.at left.bytes (feeds.BareLf at) ∥₁) ⊎ SpellsNone at left

-- The frame spells a response, and a list of its flags is the first that passes this limit, or one of its flags.
pub record PassesLimit (frame : Frame) (limit : Limit) (number : ℕ) : Type 0 where
  pub spells : (response : Response) × Spells frame response
  pub none : (response : Response) → ¬ (SpellsWithin frame response)
  pub which : answer_to (length frame.bytes) (reading kept frame) ≡ Err (readings.TooLarge limit number)

-- The next frame spells a response with more, or longer, flags than this client takes.
pub record SpellsTooMuch (limit : Limit) (number : ℕ) (left : Stream) : Type 0 where
  pub frame : Frame
  pub rest : List ℕ
  pub next : IsNext left.at left.bytes frame rest
  pub passes : PassesLimit frame limit number

-- A line has more bytes, or a literal more octets, than this client takes.
abbrev pub FedTooMuch : Limit → ℕ → Stream → Type 0
FedTooMuch limit number left =
    ((at : ℕ) × (limit ≡ limits.Literal) × ∥ FirstFault left.at left.bytes (feeds.LiteralTooLarge at number) ∥₁)
    ⊎ ((at : ℕ) × (limit ≡ limits.Line) × (number ≡ 1048577) × ∥ FirstFault left.at left.bytes (feeds.LineTooLong at) ∥₁)

-- With the last bytes that came, of which there are at most 4,096, the reply has more than it may. Before them this was heard,
-- no whole frame was left, and the reply had no more than it may.
pub record TooLong (heard : List Response) (had : List ℕ) (most : ℕ) (c : Option Connection) : Type 0 where
  pub before : Option Connection
  pub taken : List Frame
  pub left : Stream
  pub took : Took heard taken left had before
  pub none : NoWhole left.bytes
  pub within : length took.reply ≤ most
  pub last : List ℕ
  pub few : length last ≤ 4096
  pub there : c ≡ Some (record { received = took.connection.received ++ last })
  pub long : most < length (took.reply ++ last)

-- Behind all that was heard, what comes next is too large: what stands there where no whole frame is left, or the next frame.
pub record NextTooLarge (heard : List Response) (limit : Limit) (number : ℕ) (had : List ℕ) (c : Option Connection) : Type 0 where
  pub taken : List Frame
  pub left : Stream
  pub took : Took heard taken left had c
  pub large : (NoWhole left.bytes × FedTooMuch limit number left) ⊎ SpellsTooMuch limit number left

-- Behind all that was heard, the bytes received pass a limit.
abbrev pub TooMuch : List Response → Limit → ℕ → List ℕ → ℕ → Option Connection → Type 0
TooMuch heard limit number had most c =
    ((limit ≡ limits.Reply) × (number ≡ most + 1) × TooLong heard had most c) ⊎ NextTooLarge heard limit number had c

-- How a reply comes (RFC 9051, section 2.2.2): untagged responses, a `+` for each part of the command that is asked for, and
-- then the completion.
use Rattle.std.specs.List.{AllByRecursion}
use Rattle.std.specs.Prelude.{◌≡◌, ℕ, ◌+◌, ◌≤◌, Bool, false, List, [], ◌∷◌, ◌++◌, length, take, Option, Some}
use Rattle.imap_model.specs.Small.{IsSmall, IsSmallCode}
use Rattle.mail_base.specs.declared.frame.Frame.{Frame}
use Rattle.mail_base.specs.declared.tag.Tag.{Tag}
use Rattle.literal_feed.specs.Stream.{Stream}
use Rattle.imap_model.specs.declared.code.Code.{Code}
use Rattle.imap_model.specs.CommandText.{parts_of}
use Rattle.imap_model.specs.declared.command.Command.{Command}
use Rattle.imap_model.specs.declared.ending.Ending.{Ending}
use Rattle.imap_model.specs.declared.ending.Ending.TheVariants as endings
use Rattle.imap_model.specs.declared.replies.Replies.{Replies}
use Rattle.imap_model.specs.declared.response.Response.{Response}
use Rattle.imap_model.specs.declared.response.Response.TheVariants as responses
use Rattle.world_traits.specs.LinkState.{Connection, LinkState}
use Rattle.imap_session.specs.Faults.{more_parts}
use Rattle.imap_session.specs.Hearing.{Hears, Reads, ReadsLast, all_told_by}
use Rattle.imap_session.specs.Knowing.{NoEnd, requests}
use Rattle.imap_session.specs.Most.{most_since}
use Rattle.imap_session.specs.Sent.{joined}

-- Behind what was heard before this was heard, and nothing that ends the reply; so many parts were asked for.
pub record HeardOn (heard told : List Response) (parts : ℕ) (had : List ℕ) (most left : ℕ) (c : Option Connection) (feed : Stream)
    : Type 0 where
  pub none : NoEnd false told
  pub asked : requests told ≡ parts
  pub reads : Reads (heard ++ told) had most left c feed

-- The same, and then this response, read from this frame.
pub record HeardTo (part : Bool) (heard told : List Response) (frame : Frame) (last : Response) (had : List ℕ) (most left : ℕ)
    (c : Option Connection) (feed : Stream) : Type 0 where
  pub none : NoEnd part told
  pub reads : ReadsLast (heard ++ (told ++ last ∷ [])) frame had most left c feed

-- The same, and then the completion.
pub record HeardDone (heard told : List Response) (tag : Tag) (ending : Ending) (code : Code) (parts : ℕ) (had : List ℕ)
    (most left : ℕ) (c : Option Connection) (feed : Stream) : Type 0 where
  pub none : NoEnd false told
  pub asked : requests told ≡ parts
  pub reads : Reads (heard ++ (told ++ responses.Done tag ending code ∷ [])) had most left c feed

-- So it was before the last part was sent: one part was sent, and one more for each that was asked for.
pub record HeardEarly (heard told : List Response) (tag : Tag) (ending : Ending) (code : Code) (texts : List (List ℕ))
    (had : List ℕ) (most left : ℕ) (old new : LinkState) (feed : Stream) : Type 0 where
  pub parts : ℕ
  pub done : HeardDone heard told tag ending code parts had most left new.connection feed
  pub sent : new.sent ≡ old.sent ++ joined (take (parts + 1) texts)

-- The replies are all that came behind what was heard before: neither a BYE nor another completion is among it. One part of the
-- command was sent, and one more for each that was asked for, while there was one. Where the answer is OK, all were.
pub record Came (heard : List Response) (tag : Tag) (command : Command) (r : Replies) (old new : LinkState) (feed : Stream) : Type 0 where
  pub told : List Response
  pub none : NoEnd false told
  pub untagged : r.untagged ≡ all_told_by told
  pub hears : Hears (heard ++ (told ++ responses.Done tag r.ending r.code ∷ [])) new.connection feed
  pub sent : new.sent ≡ old.sent ++ joined (take (requests told + 1) (parts_of tag command))
  pub all : r.ending ≡ endings.Ok → more_parts tag command ≤ requests told

-- the replies that were read
abbrev pub read_as : List Response → Ending → Code → Replies
read_as rows ending code = record { untagged = rows; ending = ending; code = code }

-- each flag set in these responses has at most 1,024 keys
abbrev pub AllSmall : List Response → Type 0
AllSmall rs = AllByRecursion IsSmall rs

-- and so has each in the replies
pub record AreSmall (r : Replies) : Type 0 where
  pub untagged : AllSmall r.untagged
  pub code : IsSmallCode r.code

-- Behind the bytes that were had, at most so many were received in the connection.
pub record ReceivedWithin (most : ℕ) (had : List ℕ) (c : Option Connection) : Type 0 where
  pub reply : List ℕ
  pub there : c ≡ Some (record { received = had ++ reply })
  pub few : length reply ≤ most

-- no more than a reply may have from the first SELECT on
abbrev pub ReceivedAtMost : List ℕ → Option Connection → Type 0
ReceivedAtMost had c = ReceivedWithin most_since had c

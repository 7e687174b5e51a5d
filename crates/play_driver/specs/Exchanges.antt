-- Questions with their replies, one behind the other (RFC 9051, section 2.2.2).
use Rattle.std.specs.Prelude.{◌≡◌, ℕ, ◌+◌, List, [], ◌∷◌, ◌++◌, Option}
use Rattle.mail_base.specs.declared.tag.Tag.{Tag}
use Rattle.literal_feed.specs.Stream.{Stream}
use Rattle.imap_model.specs.declared.command.Command.{Command}
use Rattle.imap_model.specs.declared.ending.Ending.TheVariants as endings
use Rattle.imap_model.specs.declared.replies.Replies.{Replies}
use Rattle.imap_model.specs.declared.response.Response.{Response}
use Rattle.world_traits.specs.LinkState.{Connection, LinkState}
use Rattle.world_traits.specs.Moments.{Clock}
use Rattle.imap_session.specs.Dialogue.{IsReply, StoodAt, next_tag, next_text}
use Rattle.imap_session.specs.Session.{Answered, waiting_of}

-- a question and the whole reply to it
pub record Exchange : Type 0 where
  pub asked : Command
  pub replies : Replies

-- the server answered the question by OK at one moment of the time between, while this was selected
pub record IsAnsweredOk (selected : Option (List ℕ)) (tag : Tag) (x : Exchange) (old new : Clock) : Type 0 where
  pub connection : Option Connection
  pub feed : Stream
  pub answered : Answered (waiting_of selected tag x.asked) x.replies old new connection feed
  pub accepted : x.replies.ending ≡ endings.Ok

-- So it answered each question, behind the one before it. So many were asked in the connection before, and this was selected.
abbrev pub AnsweredAll : List Exchange → Option (List ℕ) → ℕ → Clock → Clock → Type 0
AnsweredAll [] selected count old new = new ≡ old
AnsweredAll (x ∷ xs) selected count old new =
    (at : Clock) × (a : IsAnsweredOk selected (next_tag count) x old at) × AnsweredAll xs a.answered.after (count + 1) at new

-- Each question was sent whole, and its replies are all that came behind what was heard before it. This had been sent, received
-- and heard before.
abbrev pub CameAll : List Exchange → ℕ → List ℕ → List ℕ → List Response → LinkState → Stream → Type 0
CameAll [] count sent had heard link feed = StoodAt sent had heard link feed
CameAll (x ∷ xs) count sent had heard link feed =
    (came : List ℕ) × (lines : List Response) × IsReply had heard (next_tag count) x.asked x.replies came lines
    × CameAll xs (count + 1) (sent ++ next_text count x.asked) (had ++ came) (heard ++ lines) link feed

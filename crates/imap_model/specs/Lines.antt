-- The lines that a server writes (RFC 9051, sections 2.2 and 4.3), however long they are: what is too long is for the client to refuse.
use Rattle.std.specs.Prelude.{◌≡◌, ℕ, List, [], ◌∷◌, ◌++◌}
use Rattle.std.specs.List.{AllByRecursion}
use Rattle.mail_base.specs.Frames.{Opening, NoLf, line_text, literals_from}
use Rattle.mail_base.specs.ToldLines.{IsOpened, IsClosed}
use Rattle.mail_base.specs.declared.frame.Frame.{Frame}
use Rattle.imap_model.specs.Responses.{Spells}
use Rattle.imap_model.specs.declared.response.Response.{Response}

-- the frame is a line: parts that open literals, and a last part that opens none
pub record IsLineFrame (frame : Frame) : Type 0 where
  pub openings : List Opening
  pub last : List ℕ
  pub opened : AllByRecursion IsOpened openings
  pub plain : NoLf last
  pub closed : IsClosed last
  pub text : frame.bytes ≡ line_text openings last
  pub literals : frame.literals ≡ literals_from 0 openings

-- the line of a response, without its CRLF
pub record IsSpelled (response : Response) (line : List ℕ) : Type 0 where
  pub frame : Frame
  pub is_line : IsLineFrame frame
  pub spells : Spells frame response
  pub text : line ≡ frame.bytes

-- the bytes are a line for each of the responses, and nothing more
abbrev pub AreLines : List Response → List ℕ → Type 0
AreLines [] stream = stream ≡ []
AreLines (response ∷ told) stream =
    (line : List ℕ) × (rest : List ℕ) × IsSpelled response line × (stream ≡ line ++ 13 ∷ 10 ∷ rest) × AreLines told rest

-- the bytes received are a front of the lines of what was told
pub record Received (told : List Response) (received : List ℕ) : Type 0 where
  pub rest : List ℕ
  pub lines : AreLines told (received ++ rest)

-- What holds of the definition of responses (RFC 9051, sections 2.2 and 4.3): a frame spells one response at most, and no line that
-- spells one is the front of another.
use Rattle.std.specs.Prelude.{◌≡◌, ◌↔◌, ℕ, List, [], ◌∷◌, ◌++◌, None, Ok}
use Rattle.mail_base.specs.declared.frame.Frame.{Frame}
use Rattle.mail_base.specs.Frames.{IsNext}
use Rattle.imap_model.specs.declared.response.Response.{Response}
use Rattle.imap_model.specs.Responses.{Spells}
use Rattle.imap_response.specs.declared.line.Said.{Said}
use Rattle.imap_response.specs.Flags.{whole}
use Rattle.imap_response.specs.Reading.{reading}
use Rattle.imap_response.specs.Within.{SpellsWithin}

-- the frame is read as this response, whatever the size of its flags
abbrev pub IsReadAs : Frame → Response → Type 0
IsReadAs frame response = (said : Said) × (reading whole frame ≡ Ok said) × (said.response ≡ response)

-- what is read is spelled so, and what is spelled so is read
abbrev pub ReadsAsSpelled : Type 0
ReadsAsSpelled = (frame : Frame) (response : Response) → Spells frame response ↔ IsReadAs frame response

-- it is given without an excess exactly where each set of flags in the line keeps this client's limits
abbrev pub GivesWithin : Type 0
GivesWithin = (frame : Frame) (response : Response) → SpellsWithin frame response ↔ (reading whole frame ≡ Ok (record { response = response; excess = None }))

abbrev pub OneResponse : Type 0
OneResponse = (frame : Frame) (one other : Response) → Spells frame one → Spells frame other → one ≡ other

-- a frame that a feed gives: the counts of its literals are right
abbrev pub IsFed : Frame → Type 0
IsFed frame = (at : ℕ) × (stream : List ℕ) × (rest : List ℕ) × IsNext at stream frame rest

-- a line as it comes, with its CRLF
abbrev pub whole_line : Frame → List ℕ
whole_line frame = frame.bytes ++ 13 ∷ 10 ∷ []

-- Of two lines that spell responses one is the front of the other only where they are the same line, and then they spell the same
-- response.
abbrev pub NoFront : Type 0
NoFront = (short long : Frame) (one other : Response) (rest : List ℕ) → IsFed short → IsFed long → Spells short one → Spells long other
    → whole_line long ≡ whole_line short ++ rest → (rest ≡ []) × (one ≡ other)

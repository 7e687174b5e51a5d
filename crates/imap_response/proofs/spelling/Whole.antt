-- The laws of the definition: what is read is spelled so, what is spelled is read so, and so a frame spells one response at most.
use Rattle.std.proofs.Common.{◌≡◌, ℕ, List, [], ◌∷◌, ◌++◌, ap, sym, ◌∙◌, subst, append_assoc, append-nil, None, refl, arith, Result, Ok, Err}
use Rattle.mail_base.specs.declared.frame.Frame.{Frame}
use Rattle.mail_base.specs.Frames.{Opening, IsLine, line_text, literals_from, BeginsWith}
use Rattle.mail_base.proofs.Frames.{one_whole}
use Rattle.imap_model.specs.declared.response.Response.{Response}
use Rattle.imap_model.specs.Responses.{IsLineOf, Spells}
use Rattle.imap_response.specs.declared.line.Said.{Said}
use Rattle.imap_response.specs.Flags.{whole}
use Rattle.imap_response.specs.Reading.{whole_of, reading}
use Rattle.imap_response.specs.OneResponse.{IsReadAs, ReadsAsSpelled, GivesWithin, OneResponse, whole_line, NoFront}
use Rattle.imap_response.proofs.spelling.LineReads.{line_reads, line_within}
use Rattle.imap_response.proofs.spelling.Lines.{line_spells}
use Rattle.imap_response.proofs.spelling.Passing.{Fits, frame_passes, passes_frame}

whole_fits : (frame : Frame) → Fits (whole_of frame)
whole_fits frame = omega arith

-- what is read is spelled so
pub reading_spells : (frame : Frame) (said : Said) → reading whole frame ≡ Ok said → Spells frame said.response
reading_spells frame said is =
    let w = line_spells (whole_of frame) said (whole_fits frame) is in
    (w.parts, passes_frame frame w.parts w.end w.passes w.none, w.line)

-- what is spelled is read so
pub reading_reads : (frame : Frame) (response : Response) → Spells frame response → IsReadAs frame response
reading_reads frame response spells =
    let w = frame_passes frame spells.0 spells.1 in
    line_reads (whole_of frame) w.0 spells.0 response spells.2 w.1 w.2

pub reads_as_spelled : ReadsAsSpelled
reads_as_spelled frame response = (reading_reads frame response, λ read. subst (Spells frame) read.2 (reading_spells frame read.0 read.1))

-- what is given without an excess is spelled within the limits, and what is spelled within them is given so
pub within_gives : GivesWithin
within_gives frame response = (
  λ spells. let w = frame_passes frame spells.0 spells.1 in line_within (whole_of frame) w.0 spells.0 response spells.2 w.1 w.2,
  λ read.
      let w = line_spells (whole_of frame) (record { response = response; excess = None }) (whole_fits frame) read in
      (w.parts, passes_frame frame w.parts w.end w.passes w.none, w.within refl),
)

-- where nothing is read, nothing is spelled
pub nothing_spelled : (frame : Frame) (left : ℕ) (response : Response) → reading whole frame ≡ Err left → Spells frame response → ⊥
nothing_spelled frame left response is spells = let w = reading_reads frame response spells in let read = w.1 in cc

same_said : (read : Result Said ℕ) (x y : Said) → read ≡ Ok x → read ≡ Ok y → x ≡ y
same_said read x y is is' = cc

-- a frame spells one response at most
pub one_response : OneResponse
one_response frame one other first second =
    let a = reading_reads frame one first in
    let b = reading_reads frame other second in
    sym a.2 ∙ ap (λ (s : Said). s.response) (same_said (reading whole frame) a.0 b.0 a.1 b.1) ∙ b.2

-- of a frame only its bytes and its literals matter
pub same_frame : (one other : Frame) (response : Response) → one.bytes ≡ other.bytes → one.literals ≡ other.literals →
    Spells one response → Spells other response
same_frame one other response text literals spells =
    let made = spells.1 in (
      spells.0,
      record { lawful = made.lawful; text = sym text ∙ made.text; unused = made.unused; literals = sym literals ∙ made.literals },
      subst (λ (t : List ℕ). IsLineOf t spells.0 response) text spells.2,
    )

-- a fed line in front of whatever
begins : (frame : Frame) (openings : List Opening) (last more : List ℕ) → IsLine openings last → frame.bytes ≡ line_text openings last →
    BeginsWith (whole_line frame ++ more) openings last more
begins frame openings last more line text = record {
  line = line;
  whole = append_assoc frame.bytes (13 ∷ 10 ∷ []) more ∙ ap (λ (t : List ℕ). t ++ 13 ∷ 10 ∷ more) text;
}

pub no_front : NoFront
no_front short long one other rest fed fed' spells spells' is =
    let s = fed.3 in
    let l = fed'.3 in
    let a = begins short s.0 s.1 rest s.2.line s.3 in
    let b : BeginsWith (whole_line long) l.0 l.1 [] = subst (λ (t : List ℕ). BeginsWith t l.0 l.1 []) (append-nil (whole_line long))
    (begins long l.0 l.1 [] l.2.line l.3) in
    let same = one_whole (whole_line long) l.0 s.0 l.1 [] s.1 rest b (subst (λ (t : List ℕ). BeginsWith t s.0 s.1 rest) (sym is) a) in
    let text : short.bytes ≡ long.bytes = s.3 ∙ ap (λ (o : List Opening). line_text o s.1) (sym same.0) ∙ ap (line_text l.0) (sym same.1) ∙ sym l.3 in
    let literals : short.literals ≡ long.literals = s.4 ∙ ap (literals_from 0) (sym same.0) ∙ sym l.4 in
    (sym same.2, one_response long one other (same_frame short long one text literals spells) spells')

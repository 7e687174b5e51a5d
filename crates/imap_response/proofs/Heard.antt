-- The frames that were taken of a stream spell a front of the responses that were told in it; and where neither a frame nor a
-- fault stands at its front, nothing more was told (RFC 9051, sections 2.2 and 4.3).
use Rattle.std.proofs.Common.{◌≡◌, ℕ, ◌+◌, List, [], ◌∷◌, ◌++◌, length, refl, sym, ◌∙◌, ap, subst, arith, length-append}
use Rattle.mail_base.specs.declared.frame.Frame.{Frame}
use Rattle.mail_base.specs.declared.frame.FeedFault.{FeedFault}
use Rattle.mail_base.specs.Frames.{line_text, IsNext, NoWhole, AreFrames, FirstFault}
use Rattle.mail_base.specs.ToldLines.{IsToldLine}
use Rattle.mail_base.proofs.ToldLines.{one_told, none_told}
use Rattle.imap_model.specs.Lines.{IsLineFrame, IsSpelled, AreLines}
use Rattle.imap_model.specs.Responses.{Spells}
use Rattle.imap_model.specs.declared.response.Response.{Response}
use Rattle.imap_response.specs.Heard.{Spell}
use Rattle.imap_response.proofs.spelling.Whole.{same_frame, one_response}

-- the line of a server is a whole line, of any size
pub told_line : (frame : Frame) (is : IsLineFrame frame) → IsToldLine is.openings is.last
told_line frame is = record { opened = is.opened; plain = is.plain; closed = is.closed }

-- a stream that was told so, with the line's literals apart
whole_told : (stream : List ℕ) (s : Response) (line rest : List ℕ) (spelt : IsSpelled s line) → stream ≡ line ++ 13 ∷ 10 ∷ rest
    → stream ≡ line_text spelt.is_line.openings spelt.is_line.last ++ 13 ∷ 10 ∷ rest
whole_told stream s line rest spelt is = is ∙ ap (λ (t : List ℕ). t ++ 13 ∷ 10 ∷ rest) (spelt.text ∙ spelt.is_line.text)

-- a frame that is fed and the line of a response that is told, at the front of one stream, are one
pub told_spells : (at : ℕ) (stream : List ℕ) (f : Frame) (rest : List ℕ) (s : Response) (line rest' : List ℕ) → IsNext at stream f rest
    → IsSpelled s line → stream ≡ line ++ 13 ∷ 10 ∷ rest' → Spells f s × (rest ≡ rest')
told_spells at stream f rest s line rest' next spelt is =
    let g = spelt.is_line in
    let same = one_told at stream f rest g.openings g.last rest' next (told_line spelt.frame g) (whole_told stream s line rest' spelt is) in
    (same_frame spelt.frame f s (g.text ∙ same.0) (g.literals ∙ same.1) spelt.spells, same.2)

no_bytes : (line rest : List ℕ) → line ++ 13 ∷ 10 ∷ rest ≡ [] → ⊥
no_bytes line rest e = omega (arith, ap length e, length-append line (13 ∷ 10 ∷ rest))

-- what was heard is a front of what was told, and the rest of the stream is the lines of the rest
pub front : (at : ℕ) (stream : List ℕ) (fs : List Frame) (rest : List ℕ) (heard told : List Response) → AreFrames at stream fs rest
    → Spell fs heard → AreLines told stream → (more : List Response) × (told ≡ heard ++ more) × AreLines more rest
front at stream [] rest [] told are spell lines = (told, refl, subst (AreLines told) are lines)
front at stream [] rest (r ∷ heard) told are spell lines = absurd spell
front at stream (f ∷ fs) rest [] told are spell lines = absurd spell
front at stream (f ∷ fs) rest (r ∷ heard) [] are spell lines = absurd (no_bytes (line_text are.1.0 are.1.1) are.0 (sym are.1.2.whole ∙ lines))
front at stream (f ∷ fs) rest (r ∷ heard) (s ∷ told) are spell lines =
    let same = told_spells at stream f are.0 s lines.0 lines.1 are.1 lines.2 lines.3 in
    let r_s : r ≡ s = one_response f r s spell.0 same.0 in
    let later = front (at + length f.bytes + 2) are.0 fs rest heard told are.2 spell.1 (subst (AreLines told) (sym same.1) lines.4) in
    (later.0, ap (λ (q : Response). q ∷ told) (sym r_s) ∙ ap (λ (qs : List Response). r ∷ qs) later.1, later.2)

-- where no whole frame stands at the front of a stream without a fault, no response was told there: a line that is too large
-- would be a fault
pub no_lines : (at : ℕ) (stream : List ℕ) (more : List Response) → NoWhole stream → ((fault : FeedFault) → FirstFault at stream fault → ⊥)
    → AreLines more stream → more ≡ []
no_lines at stream [] none sound lines = refl
no_lines at stream (s ∷ more) none sound lines =
    let g = lines.2.is_line in
    absurd (none_told at stream g.openings g.last lines.1 none sound (told_line lines.2.frame g) (whole_told stream s lines.0 lines.1 lines.2 lines.3))

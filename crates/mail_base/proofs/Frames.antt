-- A stream has its frames, its rest and its first fault in one way, and keeps them when more bytes follow (RFC 9051, sections 2.2, 4.3 and 9).
use Rattle.std.proofs.Common.{◌≡◌, ℕ, ◌+◌, ◌-◌, ◌≤◌, List, [], ◌∷◌, ◌++◌, length, min, refl, sym, ◌∙◌, ap, subst, arith, append_assoc, length-append}
use Rattle.std.specs.List.{AllByRecursion}
use Rattle.std.specs.Str.Parse.{IsNumeral, digits_value}
use Rattle.mail_base.specs.Frames.{told, header, Opening, IsOpening, part_of, counted, BeginsWith, line_text, literals_from, IsNext}
use Rattle.mail_base.specs.Frames.{NoWhole, AreFrames, PartFault, LineFault, FirstFault}
use Rattle.mail_base.specs.declared.frame.Frame.{Frame}
use Rattle.mail_base.specs.declared.frame.FeedFault.{FeedFault}
use Rattle.mail_base.specs.declared.frame.FeedFault.TheVariants as faults
use Rattle.mail_base.proofs.Lf.{one_lf}
use Rattle.mail_base.proofs.Headers.{one_header}
use Rattle.mail_base.proofs.Openings.{Crlf, crlf_unique, crlf_bare, crlf_long, bare_long, opening_crlf, large_crlf, spelled, NoOpening, align}

-- the part ends its line
abbrev pub IsLast : ℕ → List ℕ → List ℕ → List ℕ → Type 0
IsLast used tail last rest = Crlf used tail last rest × ((front digits : List ℕ) → IsNumeral 10 digits → last ≡ front ++ header digits → ⊥)

-- a last part opens no literal
pub last_opens_none : (used : ℕ) (tail last rest : List ℕ) → IsLast used tail last rest → NoOpening used tail
last_opens_none used tail last rest is o x io n e =
    is.1 o.front o.digits io.number (sym (crlf_unique used tail (part_of o) (o.octets ++ x) (opening_crlf used tail o x io n e) last rest used is.0).0)

-- nor does a part with a fault
pub fault_opens_none : (at used : ℕ) (tail : List ℕ) (fault : FeedFault) → PartFault at used tail fault → NoOpening used tail
fault_opens_none at used tail (faults.BareLf place) bad o x io n e =
    crlf_bare used tail (part_of o) (o.octets ++ x) (opening_crlf used tail o x io n e) bad.0 bad.1 bad.2
fault_opens_none at used tail (faults.LiteralTooLarge place asked) bad o x io n e =
    let same = crlf_unique used tail (part_of o) (o.octets ++ x) (opening_crlf used tail o x io n e) (bad.0 ++ header bad.1) bad.2 used
    (large_crlf used tail bad.0 bad.1 bad.2 bad.3) in
    let digits = one_header o.front o.digits bad.0 bad.1 io.number.1 bad.3.number.1 same.0 in
    omega (arith, ap (digits_value 10) digits.1, io.octets, io.few, bad.3.large)
fault_opens_none at used tail (faults.LineTooLong place) bad o x io n e =
    crlf_long used tail (part_of o) (o.octets ++ x) (opening_crlf used tail o x io n e) bad.0 bad.1 bad.2 bad.3
fault_opens_none at used tail faults.Memory bad o x io n e = bad

-- a last part has no fault
last_fault : (at used : ℕ) (tail last rest : List ℕ) (fault : FeedFault) → IsLast used tail last rest → PartFault at used tail fault → ⊥
last_fault at used tail last rest (faults.BareLf place) is bad = crlf_bare used tail last rest is.0 bad.0 bad.1 bad.2
last_fault at used tail last rest (faults.LiteralTooLarge place asked) is bad =
    is.1 bad.0 bad.1 bad.3.number (crlf_unique used tail last rest is.0 (bad.0 ++ header bad.1) bad.2 used (large_crlf used tail bad.0 bad.1 bad.2 bad.3)).0
last_fault at used tail last rest (faults.LineTooLong place) is bad = crlf_long used tail last rest is.0 bad.0 bad.1 bad.2 bad.3
last_fault at used tail last rest faults.Memory is bad = bad

-- a part has one fault
part_fault : (at used : ℕ) (tail : List ℕ) (f g : FeedFault) → PartFault at used tail f → PartFault at used tail g → f ≡ g
part_fault at used tail (faults.BareLf p) (faults.BareLf q) a b =
    let same = one_lf a.0 b.0 a.1 b.1 a.2.plain b.2.plain (sym a.2.text ∙ b.2.text) in
    ap (λ (k : ℕ). faults.BareLf k) (a.3 ∙ ap (λ (t : List ℕ). told (at + length t)) same.0 ∙ sym b.3)
part_fault at used tail (faults.BareLf p) (faults.LiteralTooLarge q y) a b =
    absurd (crlf_bare used tail (b.0 ++ header b.1) b.2 (large_crlf used tail b.0 b.1 b.2 b.3) a.0 a.1 a.2)
part_fault at used tail (faults.BareLf p) (faults.LineTooLong q) a b = absurd (bare_long used tail a.0 a.1 a.2 b.0 b.1 b.2 b.3)
part_fault at used tail (faults.BareLf p) faults.Memory a b = absurd b
part_fault at used tail (faults.LiteralTooLarge p x) (faults.BareLf q) a b =
    absurd (crlf_bare used tail (a.0 ++ header a.1) a.2 (large_crlf used tail a.0 a.1 a.2 a.3) b.0 b.1 b.2)
part_fault at used tail (faults.LiteralTooLarge p x) (faults.LiteralTooLarge q y) a b =
    let same = crlf_unique used tail (a.0 ++ header a.1) a.2 (large_crlf used tail a.0 a.1 a.2 a.3) (b.0 ++ header b.1) b.2 used
    (large_crlf used tail b.0 b.1 b.2 b.3) in
    let parts = one_header a.0 a.1 b.0 b.1 a.3.number.1 b.3.number.1 same.0 in
    let place : p ≡ q = a.4 ∙ ap (λ (t : List ℕ). told (at + length t)) parts.0 ∙ sym b.4 in
    let asked : x ≡ y = a.5 ∙ ap (λ (d : List ℕ). min (digits_value 10 d) 9223372036854775807) parts.1 ∙ sym b.5 in
    λ i. faults.LiteralTooLarge (place i) (asked i)
part_fault at used tail (faults.LiteralTooLarge p x) (faults.LineTooLong q) a b =
    absurd (crlf_long used tail (a.0 ++ header a.1) a.2 (large_crlf used tail a.0 a.1 a.2 a.3) b.0 b.1 b.2 b.3)
part_fault at used tail (faults.LiteralTooLarge p x) faults.Memory a b = absurd b
part_fault at used tail (faults.LineTooLong p) (faults.BareLf q) a b = absurd (bare_long used tail b.0 b.1 b.2 a.0 a.1 a.2 a.3)
part_fault at used tail (faults.LineTooLong p) (faults.LiteralTooLarge q y) a b =
    absurd (crlf_long used tail (b.0 ++ header b.1) b.2 (large_crlf used tail b.0 b.1 b.2 b.3) a.0 a.1 a.2 a.3)
part_fault at used tail (faults.LineTooLong p) (faults.LineTooLong q) a b =
    let n : length a.0 ≡ length b.0 = omega (arith, a.3.full, b.3.full) in
    ap (λ (k : ℕ). faults.LineTooLong k) (a.4 ∙ ap (λ (k : ℕ). told (at + k)) n ∙ sym b.4)
part_fault at used tail (faults.LineTooLong p) faults.Memory a b = absurd b
part_fault at used tail faults.Memory g a b = absurd a

-- Now of whole lines.
pub fault_short : (at used : ℕ) (tail : List ℕ) (fault : FeedFault) → PartFault at used tail fault → used ≤ 1048576
fault_short at used tail (faults.BareLf place) bad = omega (arith, bad.2.short)
fault_short at used tail (faults.LiteralTooLarge place asked) bad = omega (arith, bad.3.short)
fault_short at used tail (faults.LineTooLong place) bad = omega (arith, bad.3.full)
fault_short at used tail faults.Memory bad = absurd bad

pub one_way : (os ps : List Opening) (t u : List ℕ) → AllByRecursion IsOpening os → AllByRecursion IsOpening ps → counted os ≤ 1048576 →
    counted ps ≤ 1048576 → NoOpening (counted os) t → NoOpening (counted ps) u → spelled os ++ t ≡ spelled ps ++ u → (os ≡ ps) × (t ≡ u)
one_way os ps t u a b m n lacks lacks' e =
    let zo : counted os ≡ 0 + counted os = omega arith in
    let zp : counted ps ≡ 0 + counted ps = omega arith in
    align 0 os ps t u a b (omega (arith, m)) (omega (arith, n)) (subst (λ (k : ℕ). NoOpening k t) zo lacks) (subst (λ (k : ℕ). NoOpening k u) zp lacks') e

-- a whole line, seen from its last part
pub last_tail : (line : List ℕ) (os : List Opening) (last rest : List ℕ) → BeginsWith line os last rest → line ≡ spelled os ++ (last ++ 13 ∷ 10 ∷ rest)
last_tail line os last rest is = is.whole ∙ append_assoc (spelled os) last (13 ∷ 10 ∷ rest)

pub last_is : (line : List ℕ) (os : List Opening) (last rest : List ℕ) → BeginsWith line os last rest → IsLast (counted os) (last ++ 13 ∷ 10 ∷ rest) last rest
last_is line os last rest is = (record { text = refl; plain = is.line.plain; short = is.line.short }, is.line.closed)

pub last_short : (line : List ℕ) (os : List Opening) (last rest : List ℕ) → BeginsWith line os last rest → counted os ≤ 1048576
last_short line os last rest is = omega (arith, is.line.short)

-- a line with a fault isn't whole
pub fault_no_whole : (line : List ℕ) (at : ℕ) (fault : FeedFault) → LineFault at line fault → NoWhole line
fault_no_whole line at fault bad ps last rest whole =
    let same = one_way bad.0 ps bad.1 (last ++ 13 ∷ 10 ∷ rest) bad.2 whole.line.opened (fault_short _ (counted bad.0) bad.1 fault bad.4)
    (last_short line ps last rest whole) (fault_opens_none _ (counted bad.0) bad.1 fault bad.4)
    (last_opens_none (counted ps) (last ++ 13 ∷ 10 ∷ rest) last rest (last_is line ps last rest whole))
    (sym bad.3 ∙ last_tail line ps last rest whole) in
    last_fault (at + length (spelled bad.0)) (counted bad.0) bad.1 last rest fault
    (subst (λ (t : List ℕ). IsLast (counted bad.0) t last rest) (sym same.1)
    (subst (λ (o : List Opening). IsLast (counted o) (last ++ 13 ∷ 10 ∷ rest) last rest) (sym same.0)
    (last_is line ps last rest whole)))
    bad.4

-- a whole line is one
pub one_whole : (line : List ℕ) (os ps : List Opening) (last rest last' rest' : List ℕ) → BeginsWith line os last rest →
    BeginsWith line ps last' rest' → (os ≡ ps) × (last ≡ last') × (rest ≡ rest')
one_whole line os ps last rest last' rest' a b =
    let same = one_way os ps (last ++ 13 ∷ 10 ∷ rest) (last' ++ 13 ∷ 10 ∷ rest') a.line.opened b.line.opened
    (last_short line os last rest a) (last_short line ps last' rest' b)
    (last_opens_none (counted os) (last ++ 13 ∷ 10 ∷ rest) last rest (last_is line os last rest a))
    (last_opens_none (counted ps) (last' ++ 13 ∷ 10 ∷ rest') last' rest' (last_is line ps last' rest' b))
    (sym (last_tail line os last rest a) ∙ last_tail line ps last' rest' b) in
    let ends = crlf_unique (counted os) (last ++ 13 ∷ 10 ∷ rest) last rest (last_is line os last rest a).0 last' rest' (counted ps)
    (record { text = same.1; plain = b.line.plain; short = b.line.short }) in
    (same.0, ends.0, ends.1)

-- a line has one fault
pub one_line_fault : (at : ℕ) (line : List ℕ) (f g : FeedFault) → LineFault at line f → LineFault at line g → f ≡ g
one_line_fault at line f g a b =
    let same = one_way a.0 b.0 a.1 b.1 a.2 b.2 (fault_short _ (counted a.0) a.1 f a.4) (fault_short _ (counted b.0) b.1 g b.4)
    (fault_opens_none _ (counted a.0) a.1 f a.4) (fault_opens_none _ (counted b.0) b.1 g b.4) (sym a.3 ∙ b.3) in
    part_fault (at + length (spelled b.0)) (counted b.0) b.1 f g
    (subst (λ (t : List ℕ). PartFault (at + length (spelled b.0)) (counted b.0) t f) same.1
    (subst (λ (o : List Opening). PartFault (at + length (spelled o)) (counted o) a.1 f) same.0 a.4))
    b.4

-- Now of streams: the frame in front is one.
pub one_next : (at : ℕ) (stream : List ℕ) (f g : Frame) (rest rest' : List ℕ) → IsNext at stream f rest → IsNext at stream g rest' → (f ≡ g) × (rest ≡ rest')
one_next at stream f g rest rest' a b =
    let same = one_whole stream a.0 b.0 a.1 rest b.1 rest' a.2 b.2 in
    let bytes : f.bytes ≡ g.bytes = a.3 ∙ ap (λ (o : List Opening). line_text o a.1) same.0 ∙ ap (λ (l : List ℕ). line_text b.0 l) same.1 ∙ sym b.3 in
    let literals : f.literals ≡ g.literals = a.4 ∙ ap (λ (o : List Opening). literals_from 0 o) same.0 ∙ sym b.4 in
    let place : f.at ≡ g.at = a.5 ∙ sym b.5 in
    ((λ i. record { bytes = bytes i; literals = literals i; at = place i }), same.2)

-- frames and their bytes
pub next_size : (at : ℕ) (stream : List ℕ) (f : Frame) (rest : List ℕ) → IsNext at stream f rest → length stream ≡ length f.bytes + 2 + length rest
next_size at stream f rest is = omega (arith, ap length is.2.whole, length-append (line_text is.0 is.1) (13 ∷ 10 ∷ rest), ap length is.3)

pub frames_le : (at : ℕ) (stream : List ℕ) (fs : List Frame) (rest : List ℕ) → AreFrames at stream fs rest → length rest ≤ length stream
frames_le at stream [] rest is = omega (arith, ap length is)
frames_le at stream (f ∷ fs) rest is = omega (arith, frames_le (at + length f.bytes + 2) is.0 fs rest is.2, next_size at stream f is.0 is.1)

-- frames that stand in front are the first ones of all of them, and the others follow
pub frames_split : (at : ℕ) (stream : List ℕ) (fs : List Frame) (middle : List ℕ) → AreFrames at stream fs middle →
    (all : List Frame) (rest : List ℕ) → AreFrames at stream all rest → NoWhole rest →
    (gs : List Frame) × (all ≡ fs ++ gs) × AreFrames (at + (length stream - length middle)) middle gs rest
frames_split at stream [] middle is all rest is' lacks =
    let here : at ≡ at + (length stream - length middle) = omega (arith, ap length is) in
    (all, refl, subst (λ (k : ℕ). AreFrames k middle all rest) here (subst (λ (t : List ℕ). AreFrames at t all rest) is is'))
frames_split at stream (f ∷ fs) middle is [] rest is' lacks =
    absurd (lacks is.1.0 is.1.1 is.0 (subst (λ (t : List ℕ). BeginsWith t is.1.0 is.1.1 is.0) is' is.1.2))
frames_split at stream (f ∷ fs) middle is (g ∷ all) rest is' lacks =
    let same = one_next at stream f g is.0 is'.0 is.1 is'.1 in
    let behind : AreFrames (at + length f.bytes + 2) is.0 all rest =
    subst (λ (t : List ℕ). AreFrames (at + length f.bytes + 2) t all rest) (sym same.1)
    (subst (λ (h : Frame). AreFrames (at + length h.bytes + 2) is'.0 all rest) (sym same.0) is'.2) in
    let more = frames_split (at + length f.bytes + 2) is.0 fs middle is.2 all rest behind lacks in
    let there : at + length f.bytes + 2 + (length is.0 - length middle) ≡ at + (length stream - length middle) =
    omega (arith, next_size at stream f is.0 is.1, frames_le (at + length f.bytes + 2) is.0 fs middle is.2) in
    (more.0, (λ i. sym same.0 i ∷ more.1 i), subst (λ (k : ℕ). AreFrames k middle more.0 rest) there more.2)

-- frames, and behind them further ones
pub frames_append : (at : ℕ) (stream : List ℕ) (fs : List Frame) (middle : List ℕ) → AreFrames at stream fs middle →
    (gs : List Frame) (rest : List ℕ) → AreFrames (at + (length stream - length middle)) middle gs rest →
    AreFrames at stream (fs ++ gs) rest
frames_append at stream [] middle is gs rest later =
    let here : at + (length stream - length middle) ≡ at = omega (arith, ap length is) in
    subst (λ (t : List ℕ). AreFrames at t gs rest) (sym is) (subst (λ (k : ℕ). AreFrames k middle gs rest) here later)
frames_append at stream (f ∷ fs) middle is gs rest later =
    let there : at + (length stream - length middle) ≡ at + length f.bytes + 2 + (length is.0 - length middle) =
    omega (arith, next_size at stream f is.0 is.1, frames_le (at + length f.bytes + 2) is.0 fs middle is.2) in
    (is.0, is.1, frames_append (at + length f.bytes + 2) is.0 fs middle is.2 gs rest (subst (λ (k : ℕ). AreFrames k middle gs rest) there later))

-- all the frames of a stream, and its rest, are one
pub one_frames : (at : ℕ) (stream : List ℕ) (fs gs : List Frame) (rest rest' : List ℕ) → AreFrames at stream fs rest → NoWhole rest →
    AreFrames at stream gs rest' → NoWhole rest' → (fs ≡ gs) × (rest ≡ rest')
one_frames at stream [] [] rest rest' a none b none' = (refl, sym a ∙ b)
one_frames at stream [] (g ∷ gs) rest rest' a none b none' = absurd (none b.1.0 b.1.1 b.0 (subst (λ (t : List ℕ). BeginsWith t b.1.0 b.1.1 b.0) a b.1.2))
one_frames at stream (f ∷ fs) [] rest rest' a none b none' = absurd (none' a.1.0 a.1.1 a.0 (subst (λ (t : List ℕ). BeginsWith t a.1.0 a.1.1 a.0) b a.1.2))
one_frames at stream (f ∷ fs) (g ∷ gs) rest rest' a none b none' =
    let first = one_next at stream f g a.0 b.0 a.1 b.1 in
    let behind : AreFrames (at + length f.bytes + 2) a.0 gs rest' =
    subst (λ (t : List ℕ). AreFrames (at + length f.bytes + 2) t gs rest') (sym first.1)
    (subst (λ (h : Frame). AreFrames (at + length h.bytes + 2) b.0 gs rest') (sym first.0) b.2) in
    let same = one_frames (at + length f.bytes + 2) a.0 fs gs rest rest' a.2 none behind none' in
    ((λ i. first.0 i ∷ same.0 i), same.1)

-- a stream has one first fault
pub one_first_fault : (at : ℕ) (stream : List ℕ) (f g : FeedFault) → FirstFault at stream f → FirstFault at stream g → f ≡ g
one_first_fault at stream f g a b =
    let same = one_frames at stream a.0 b.0 a.1 b.1 a.2 (fault_no_whole a.1 _ f a.3) b.2 (fault_no_whole b.1 _ g b.3) in
    one_line_fault (at + (length stream - length b.1)) b.1 f g (subst (λ (t : List ℕ). LineFault (at + (length stream - length t)) t f) same.1 a.3) b.3

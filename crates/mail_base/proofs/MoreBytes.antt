-- What a stream has, it has still when more bytes follow, and from whatever place it is told alike (RFC 9051, sections 2.2 and 4.3).
use Rattle.std.proofs.Common.{◌≡◌, ℕ, ◌+◌, ◌-◌, List, [], ◌∷◌, ◌++◌, length, ◌∙◌, ap, subst, arith, append_assoc, length-append}
use Rattle.mail_base.specs.Frames.{told, GoesOn, header, counted, line_text, IsNext, AreFrames, PartFault, LineFault, FirstFault}
use Rattle.mail_base.specs.declared.frame.Frame.{Frame}
use Rattle.mail_base.specs.declared.frame.FeedFault.{FeedFault}
use Rattle.mail_base.specs.declared.frame.FeedFault.TheVariants as faults
use Rattle.mail_base.proofs.Openings.{spelled}
use Rattle.mail_base.proofs.Frames.{frames_le, frames_append, frames_split, fault_no_whole}

-- a whole frame stays
pub next_stays : (at : ℕ) (stream more : List ℕ) (f : Frame) (rest : List ℕ) → IsNext at stream f rest → IsNext at (stream ++ more) f (rest ++ more)
next_stays at stream more f rest is = (
  is.0,
  is.1,
  record {
    line = is.2.line;
    whole =
        ap (λ (t : List ℕ). t ++ more) is.2.whole ∙ append_assoc (line_text is.0 is.1) (13 ∷ 10 ∷ rest) more;
  },
  is.3,
  is.4,
  is.5,
)

pub frames_stay : (at : ℕ) (stream more : List ℕ) (fs : List Frame) (rest : List ℕ) → AreFrames at stream fs rest →
    AreFrames at (stream ++ more) fs (rest ++ more)
frames_stay at stream more [] rest is = ap (λ (t : List ℕ). t ++ more) is
frames_stay at stream more (f ∷ fs) rest is = (
  is.0 ++ more,
  next_stays at stream more f is.0 is.1,
  frames_stay (at + length f.bytes + 2) is.0 more fs rest is.2,
)

-- the first fault stays
goes_on_stays : (rest more : List ℕ) → GoesOn rest → GoesOn (rest ++ more)
goes_on_stays [] more is = absurd is
goes_on_stays (b ∷ rest) more is = is

part_fault_stays : (at used : ℕ) (tail more : List ℕ) (f : FeedFault) → PartFault at used tail f → PartFault at used (tail ++ more) f
part_fault_stays at used tail more (faults.BareLf p) bad = (
  bad.0,
  bad.1 ++ more,
  record {
    text = ap (λ (t : List ℕ). t ++ more) bad.2.text ∙ append_assoc bad.0 (10 ∷ bad.1) more;
    plain = bad.2.plain;
    bare =
        bad.2.bare;
    short = bad.2.short;
  },
  bad.3,
)
part_fault_stays at used tail more (faults.LiteralTooLarge p x) bad = (
  bad.0,
  bad.1,
  bad.2 ++ more,
  record {
    text = ap (λ (t : List ℕ). t ++ more) bad.3.text ∙ append_assoc (bad.0 ++ header bad.1) (13 ∷ 10 ∷ bad.2) more;
    plain = bad.3.plain;
    number = bad.3.number;
    large = bad.3.large;
    short = bad.3.short;
  },
  bad.4,
  bad.5,
)
part_fault_stays at used tail more (faults.LineTooLong p) bad = (
  bad.0,
  bad.1,
  bad.2 ++ more,
  record {
    text = ap (λ (t : List ℕ). t ++ more) bad.3.text ∙ append_assoc bad.0 (bad.1 ∷ bad.2) more;
    plain = bad.3.plain;
    full = bad.3.full;
    goes_on = bad.3.goes_on;
    no_end = λ cr. goes_on_stays bad.2 more (bad.3.no_end cr);
  },
  bad.4,
)
part_fault_stays at used tail more faults.Memory bad = bad

pub line_fault_stays : (at : ℕ) (line more : List ℕ) (f : FeedFault) → LineFault at line f → LineFault at (line ++ more) f
line_fault_stays at line more f bad = (
  bad.0,
  bad.1 ++ more,
  bad.2,
  ap (λ (t : List ℕ). t ++ more) bad.3 ∙ append_assoc (spelled bad.0) bad.1 more,
  part_fault_stays (at + length (spelled bad.0)) (counted bad.0) bad.1 more f bad.4,
)

pub first_fault_stays : (at : ℕ) (stream more : List ℕ) (f : FeedFault) → FirstFault at stream f → FirstFault at (stream ++ more) f
first_fault_stays at stream more f bad =
    let place : at + (length stream - length bad.1) ≡ at + (length (stream ++ more) - length (bad.1 ++ more)) =
    omega (arith, length-append stream more, length-append bad.1 more) in (
      bad.0,
      bad.1 ++ more,
      frames_stay at stream more bad.0 bad.1 bad.2,
      subst (λ (k : ℕ). LineFault k (bad.1 ++ more) f) place (line_fault_stays (at + (length stream - length bad.1)) bad.1 more f bad.3),
    )

-- places that are told alike
part_told : (a b used : ℕ) (tail : List ℕ) (fault : FeedFault) → told a ≡ told b → PartFault a used tail fault → PartFault b used tail fault
part_told a b used tail (faults.BareLf place) same bad = (bad.0, bad.1, bad.2, omega (arith, same, bad.3))
part_told a b used tail (faults.LiteralTooLarge place asked) same bad = (bad.0, bad.1, bad.2, bad.3, omega (arith, same, bad.4), bad.5)
part_told a b used tail (faults.LineTooLong place) same bad = (bad.0, bad.1, bad.2, bad.3, omega (arith, same, bad.4))
part_told a b used tail faults.Memory same bad = bad

pub line_told : (a b : ℕ) (line : List ℕ) (fault : FeedFault) → told a ≡ told b → LineFault a line fault → LineFault b line fault
line_told a b line fault same bad =
    let n : ℕ = length (spelled bad.0) in
    let shifted : told (a + n) ≡ told (b + n) = omega (arith, same) in
    (bad.0, bad.1, bad.2, bad.3, part_told (a + n) (b + n) (counted bad.0) bad.1 fault shifted bad.4)

pub frames_told : (a b : ℕ) (stream : List ℕ) (fs : List Frame) (rest : List ℕ) → told a ≡ told b → AreFrames a stream fs rest → AreFrames b stream fs rest
frames_told a b stream [] rest same is = is
frames_told a b stream (f ∷ fs) rest same is =
    let shifted : told (a + length f.bytes + 2) ≡ told (b + length f.bytes + 2) = omega (arith, same) in
    (is.0, (is.1.0, is.1.1, is.1.2, is.1.3, is.1.4, is.1.5 ∙ same), frames_told (a + length f.bytes + 2) (b + length f.bytes + 2) is.0 fs rest shifted is.2)

pub first_fault_told : (a b : ℕ) (stream : List ℕ) (fault : FeedFault) → told a ≡ told b → FirstFault a stream fault → FirstFault b stream fault
first_fault_told a b stream fault same bad =
    let n : ℕ = length stream - length bad.1 in
    let shifted : told (a + n) ≡ told (b + n) = omega (arith, same) in
    (bad.0, bad.1, frames_told a b stream bad.0 bad.1 same bad.2, line_told (a + n) (b + n) bad.1 fault shifted bad.3)

-- behind frames that stand in front, the first fault is that of the whole stream
pub fault_behind : (at : ℕ) (stream : List ℕ) (fs : List Frame) (middle : List ℕ) → AreFrames at stream fs middle → (f : FeedFault) →
    FirstFault (at + (length stream - length middle)) middle f → FirstFault at stream f
fault_behind at stream fs middle is f bad =
    let place : at + (length stream - length middle) + (length middle - length bad.1) ≡ at + (length stream - length bad.1) =
    omega (arith, frames_le at stream fs middle is, frames_le _ middle bad.0 bad.1 bad.2) in
    (fs ++ bad.0, bad.1, frames_append at stream fs middle is bad.0 bad.1 bad.2, subst (λ (k : ℕ). LineFault k bad.1 f) place bad.3)

pub fault_ahead : (at : ℕ) (stream : List ℕ) (fs : List Frame) (middle : List ℕ) → AreFrames at stream fs middle → (f : FeedFault) →
    FirstFault at stream f → FirstFault (at + (length stream - length middle)) middle f
fault_ahead at stream fs middle is f bad =
    let split = frames_split at stream fs middle is bad.0 bad.1 bad.2 (fault_no_whole bad.1 _ f bad.3) in
    let place : at + (length stream - length bad.1) ≡ at + (length stream - length middle) + (length middle - length bad.1) =
    omega (arith, frames_le at stream fs middle is, frames_le _ middle split.0 bad.1 split.2) in
    (split.0, bad.1, split.2, subst (λ (k : ℕ). LineFault k bad.1 f) place bad.3)

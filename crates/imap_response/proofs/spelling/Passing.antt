-- What stands between two places of a line, in parts.
use Rattle.std.proofs.Common.{◌≡◌, ℕ, suc, ◌+◌, ◌-◌, ◌≤◌, List, [], ◌∷◌, ◌++◌, length, refl, ap, sym, ◌∙◌, arith, append_assoc, append-nil, length-append}
use Rattle.std.specs.List.{AllByRecursion, flat_map}
use Rattle.mail_base.specs.declared.span.Span.{Span}
use Rattle.mail_base.specs.declared.frame.Frame.{Frame}
use Rattle.mail_base.specs.Frames.{header}
use Rattle.imap_model.specs.Parts.{Part, Byte, Literal, part_text, IsPart, literals_from, IsMadeOf, bytes}
use Rattle.imap_response.specs.Left.{Left, at_left}
use Rattle.imap_response.specs.Reading.{whole_of}

-- the bytes of parts
abbrev pub text_of : List Part → List ℕ
text_of parts = flat_map part_text parts

-- the place that begins what is left
abbrev pub place : Left → ℕ
place left = left.total - length left.text

-- a line is left that is no longer than it was whole
abbrev pub Fits : Left → Type 0
Fits left = length left.text ≤ left.total

-- these parts stand in front of what is left, and behind them this is left
pub record Passes (left : Left) (parts : List Part) (behind : Left) : Type 0 where
  pub lawful : AllByRecursion IsPart parts
  pub text : left.text ≡ text_of parts ++ behind.text
  pub total : behind.total ≡ left.total
  pub literals : left.literals ≡ literals_from (place left) parts ++ behind.literals
  pub fits : Fits left

pub lawful_joined : (a b : List Part) → AllByRecursion IsPart a → AllByRecursion IsPart b → AllByRecursion IsPart (a ++ b)
lawful_joined [] b all all' = all'
lawful_joined (p ∷ a) b all all' = (all.0, lawful_joined a b all.1 all')

pub lawful_left : (a b : List Part) → AllByRecursion IsPart (a ++ b) → AllByRecursion IsPart a
lawful_left [] b all = tt
lawful_left (p ∷ a) b all = (all.0, lawful_left a b all.1)

pub lawful_right : (a b : List Part) → AllByRecursion IsPart (a ++ b) → AllByRecursion IsPart b
lawful_right [] b all = all
lawful_right (p ∷ a) b all = lawful_right a b all.1

pub text_joined : (a b : List Part) → text_of (a ++ b) ≡ text_of a ++ text_of b
text_joined [] b = refl
text_joined (p ∷ a) b = ap (λ (t : List ℕ). part_text p ++ t) (text_joined a b) ∙ sym (append_assoc (part_text p) (text_of a) (text_of b))

pub literals_joined : (a b : List Part) (at : ℕ) → literals_from at (a ++ b) ≡ literals_from at a ++ literals_from (at + length (text_of a)) b
literals_joined [] b at = let e : at ≡ at + 0 = omega arith in ap (λ (k : ℕ). literals_from k b) e
literals_joined (Byte byte ∷ a) b at =
    let e : at + 1 + length (text_of a) ≡ at + suc (length (text_of a)) = omega arith in
    literals_joined a b (at + 1) ∙ ap (λ (k : ℕ). literals_from (at + 1) a ++ literals_from k b) e
literals_joined (Literal digits octets ∷ a) b at =
    let high : ℕ = at + length (header digits) + 2 + length octets in
    let len : length (text_of (Literal digits octets ∷ a)) ≡ length (header digits) + 2 + length octets + length (text_of a) =
    length-append (header digits ++ 13 ∷ 10 ∷ octets) (text_of a)
    ∙ ap (λ (n : ℕ). n + length (text_of a)) (omega (arith, length-append (header digits) (13 ∷ 10 ∷ octets))) in
    let e : at + length (header digits) + 2 + length octets + length (text_of a) ≡ at + length (text_of (Literal digits octets ∷ a)) = omega (arith, len) in
    ap (λ (later : List Span). record { low = at + length (header digits) + 2; high = at + length (header digits) + 2 + length octets } ∷ later)
    (literals_joined a b (at + length (header digits) + 2 + length octets)
    ∙ ap (λ (k : ℕ). literals_from (at + length (header digits) + 2 + length octets) a ++ literals_from k b) e)

-- the place behind parts
place_behind : (total n m k : ℕ) → n ≡ m + k → n ≤ total → total - k ≡ (total - n) + m
place_behind total n m k is fits = omega arith

pub place_passed : (left : Left) (parts : List Part) (behind : Left) → Passes left parts behind → place behind ≡ place left + length (text_of parts)
place_passed left parts behind passes =
    let len : length left.text ≡ length (text_of parts) + length behind.text = ap length passes.text ∙ length-append (text_of parts) behind.text in
    ap (λ (t : ℕ). t - length behind.text) passes.total ∙ place_behind left.total (length left.text) (length (text_of parts))
    (length behind.text) len passes.fits

pub fits_behind : (left : Left) (parts : List Part) (behind : Left) → Passes left parts behind → Fits behind
fits_behind left parts behind passes =
    omega (arith, ap length passes.text, length-append (text_of parts) behind.text, passes.total, passes.fits)

-- parts and further parts
pub joined : (left : Left) (a : List Part) (mid : Left) (b : List Part) (behind : Left) → Passes left a mid → Passes mid b behind → Passes left (a ++ b) behind
joined left a mid b behind first second = record {
  lawful = lawful_joined a b first.lawful second.lawful;
  text = first.text ∙ ap (λ (t : List ℕ). text_of a ++ t) second.text ∙ sym (append_assoc (text_of a) (text_of b) behind.text)
      ∙ ap (λ (t : List ℕ). t ++ behind.text) (sym (text_joined a b));
  total = second.total ∙ first.total;
  literals = first.literals
      ∙ ap (λ (s : List Span). literals_from (place left) a ++ s) (second.literals
      ∙ ap (λ (k : ℕ). literals_from k b ++ behind.literals) (place_passed left a mid first))
      ∙ sym (append_assoc (literals_from (place left) a) (literals_from (place left + length (text_of a)) b) behind.literals)
      ∙ ap (λ (s : List Span). s ++ behind.literals) (sym (literals_joined a b (place left)));
  fits = first.fits;
}

-- what is left between them
abbrev pub between : Left → List Part → Left → Left
between left b behind = record {
  total = left.total;
  text = text_of b ++ behind.text;
  literals =
      literals_from (left.total - length (text_of b ++ behind.text)) b ++ behind.literals;
}

front_of : (left : Left) (a b : List Part) (behind : Left) → Passes left (a ++ b) behind → Passes left a (between left b behind)
front_of left a b behind passes =
    let text : left.text ≡ text_of a ++ (text_of b ++ behind.text) =
    passes.text ∙ ap (λ (t : List ℕ). t ++ behind.text) (text_joined a b) ∙ append_assoc (text_of a) (text_of b) behind.text in
    let len : length left.text ≡ length (text_of a) + length (text_of b ++ behind.text) =
    ap length text ∙ length-append (text_of a) (text_of b ++ behind.text) in
    let at = place_behind left.total (length left.text) (length (text_of a)) (length (text_of b ++ behind.text)) len passes.fits in
    record {
      lawful = lawful_left a b passes.lawful;
      text = text;
      total = refl;
      literals = passes.literals
          ∙ ap (λ (s : List Span). s ++ behind.literals) (literals_joined a b (place left)
          ∙ ap (λ (k : ℕ). literals_from (place left) a ++ literals_from k b) (sym at))
          ∙ append_assoc (literals_from (place left) a) (literals_from (left.total - length (text_of b ++ behind.text)) b) behind.literals;
      fits = passes.fits;
    }

back_of : (left : Left) (a b : List Part) (behind : Left) → Passes left (a ++ b) behind → Passes (between left b behind) b behind
back_of left a b behind passes = record {
  lawful = lawful_right a b passes.lawful;
  text = refl;
  total = passes.total;
  literals = refl;
  fits = fits_behind left a (between left b behind) (front_of left a b behind passes);
}

pub split : (left : Left) (a b : List Part) (behind : Left) → Passes left (a ++ b) behind → (mid : Left) × Passes left a mid × Passes mid b behind
split left a b behind passes = (between left b behind, front_of left a b behind passes, back_of left a b behind passes)

-- bytes
pub bytes_lawful : (front : List ℕ) → AllByRecursion IsPart (bytes front)
bytes_lawful [] = tt
bytes_lawful (b ∷ front) = (tt, bytes_lawful front)

pub bytes_text : (front : List ℕ) → text_of (bytes front) ≡ front
bytes_text [] = refl
bytes_text (b ∷ front) = ap (λ (t : List ℕ). b ∷ t) (bytes_text front)

pub bytes_literals : (front : List ℕ) (at : ℕ) → literals_from at (bytes front) ≡ []
bytes_literals [] at = refl
bytes_literals (b ∷ front) at = bytes_literals front (at + 1)

pub bytes_joined : (a b : List ℕ) → bytes (a ++ b) ≡ bytes a ++ bytes b
bytes_joined [] b = refl
bytes_joined (x ∷ a) b = ap (λ (p : List Part). Byte x ∷ p) (bytes_joined a b)

pub same_left : (one other : Left) → one.total ≡ other.total → one.text ≡ other.text → one.literals ≡ other.literals → one ≡ other
same_left one other total text literals =
    let by_total : ℕ → Left = λ n. record { total = n; text = one.text; literals = one.literals } in
    let by_text : List ℕ → Left = λ t. record { total = other.total; text = t; literals = one.literals } in
    let by_literals : List Span → Left = λ s. record { total = other.total; text = other.text; literals = s } in
    ap by_total total ∙ ap by_text text ∙ ap by_literals literals

pub bytes_pass : (left : Left) (front rest : List ℕ) → Fits left → left.text ≡ front ++ rest → Passes left (bytes front) (at_left left rest)
bytes_pass left front rest fits is = record {
  lawful = bytes_lawful front;
  text = is ∙ ap (λ (t : List ℕ). t ++ rest) (sym (bytes_text front));
  total = refl;
  literals = ap (λ (s : List Span). s ++ left.literals) (sym (bytes_literals front (place left)));
  fits = fits;
}

pub pass_bytes : (left : Left) (front : List ℕ) (behind : Left) → Passes left (bytes front) behind → left.text ≡ front ++ behind.text
pass_bytes left front behind passes = passes.text ∙ ap (λ (t : List ℕ). t ++ behind.text) (bytes_text front)

pub pass_left : (left : Left) (front : List ℕ) (behind : Left) → Passes left (bytes front) behind → at_left left behind.text ≡ behind
pass_left left front behind passes =
    same_left (at_left left behind.text) behind (sym passes.total) refl
    (passes.literals ∙ ap (λ (s : List Span). s ++ behind.literals) (bytes_literals front (place left)))

-- nothing
pub pass_none : (left : Left) → Fits left → Passes left [] left
pass_none left fits = record { lawful = tt; text = refl; total = refl; literals = refl; fits = fits }

pub none_passed : (left behind : Left) → Passes left [] behind → left ≡ behind
none_passed left behind passes = same_left left behind (sym passes.total) passes.text passes.literals

-- a whole frame
end_of : (total : ℕ) (unused : List Span) → Left
end_of total unused = record { total = total; text = []; literals = unused }

from_zero : (n : ℕ) → n - n ≡ 0
from_zero n = omega arith

pub frame_passes : (frame : Frame) (parts : List Part) → IsMadeOf frame parts → (behind : Left) × Passes (whole_of frame) parts behind × (behind.text ≡ [])
frame_passes frame parts made = (
  record { total = length frame.bytes; text = []; literals = made.unused },
  record {
    lawful = made.lawful;
    text = made.text ∙ sym (append-nil (text_of parts));
    total = refl;
    literals = made.literals ∙ ap (λ (k : ℕ). literals_from k parts ++ made.unused) (sym (from_zero (length frame.bytes)));
    fits = omega arith;
  },
  refl,
)

pub passes_frame : (frame : Frame) (parts : List Part) (behind : Left) → Passes (whole_of frame) parts behind → behind.text ≡ [] → IsMadeOf frame parts
passes_frame frame parts behind passes none = record {
  lawful = passes.lawful;
  text = passes.text ∙ ap (λ (t : List ℕ). text_of parts ++ t) none ∙ append-nil (text_of parts);
  unused = behind.literals;
  literals = passes.literals ∙ ap (λ (k : ℕ). literals_from k parts ++ behind.literals) (from_zero (length frame.bytes));
}

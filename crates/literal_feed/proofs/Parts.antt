-- A part that is too long, that ends a line, or that opens a literal.
use Rattle.std.proofs.Common.{◌≡◌, ◌≢◌, ◌⊎◌, inl, inr, ℕ, suc, ◌+◌, ◌-◌, ◌<◌, ◌≤◌, List, [], ◌∷◌, ◌++◌, length, take, drop, refl, sym}
use Rattle.std.proofs.Common.{◌∙◌, ap, subst, arith, get_or, drop-cons, length-append, length-take, append_assoc, take-append-drop}
use Rattle.std.proofs.lemmas.Bool.{cases_lt}
use Rattle.mail_base.specs.Frames.{NoLf, GoesOn, HasLongLine, PartFault, told}
use Rattle.mail_base.specs.declared.frame.FeedFault.TheVariants as faults
use Rattle.std.specs.Str.Parse.{IsNumeral, digits_value}
use Rattle.mail_base.specs.Frames.{header, HasLargeLiteral}
use Rattle.mail_base.specs.declared.literal_header.LiteralHeader.{LiteralHeader}
use Rattle.mail_base.specs.LiteralHeaders.{EndsIn}
use Rattle.literal_feed.specs.Parts.{Counts, IsLastPart, IsLiteralPart}
use Rattle.mail_base.proofs.Lf.{no_lf-front, no_lf-back}

-- whether a list ends with CR
abbrev pub EndsInCr : List ℕ → Type 0
EndsInCr xs = ((body : List ℕ) × (xs ≡ body ++ 13 ∷ [])) ⊎ ((body : List ℕ) → xs ≡ body ++ 13 ∷ [] → ⊥)

tail_of : List ℕ → List ℕ
tail_of [] = []
tail_of (x ∷ xs) = xs

longer : (x c : ℕ) (xs : List ℕ) → EndsInCr (c ∷ xs) → EndsInCr (x ∷ c ∷ xs)
longer x c xs (inl is) = inl (x ∷ is.0, ap (λ (t : List ℕ). x ∷ t) is.1)
longer x c xs (inr none) = inr (cases x c xs none)
  where
    cases : (x c : ℕ) (xs : List ℕ) → ((body : List ℕ) → c ∷ xs ≡ body ++ 13 ∷ [] → ⊥) → (body : List ℕ) → x ∷ c ∷ xs ≡ body ++ 13 ∷ [] → ⊥
    cases x c xs none [] e = cc
    cases x c xs none (b ∷ body) e = none body cc

single : (x : ℕ) → (x ≡ 13) ⊎ (x ≢ 13) → EndsInCr (x ∷ [])
single x (inl is) = inl ([], ap (λ (y : ℕ). y ∷ []) is)
single x (inr other) = inr (cases x other)
  where
    cases : (x : ℕ) → (x ≢ 13) → (body : List ℕ) → x ∷ [] ≡ body ++ 13 ∷ [] → ⊥
    cases x other [] e = other cc
    cases x other (b ∷ []) e = cc
    cases x other (b ∷ c ∷ body) e = cc

is_13 : (x : ℕ) → (x ≡ 13) ⊎ (x ≢ 13)
is_13 x = elim (cases_lt x 13) [
  | inl lt ↦ inr (λ e. omega (arith, e, lt))
  | inr le ↦ elim (cases_lt 13 x) [ inl lt ↦ inr (λ e. omega (arith, e, lt)) | inr le' ↦ inl (omega (arith, le, le')) ]
]

pub ends_in_cr : (xs : List ℕ) → EndsInCr xs
ends_in_cr [] = inr (λ body e. none body e)
  where
    none : (body : List ℕ) → [] ≡ body ++ 13 ∷ [] → ⊥
    none [] e = cc
    none (b ∷ body) e = cc
ends_in_cr (x ∷ []) = single x (is_13 x)
ends_in_cr (x ∷ c ∷ xs) = longer x c xs (ends_in_cr (c ∷ xs))

-- how many bytes count
pub counts-le : (part : List ℕ) (size : ℕ) → Counts part size → size ≤ length part
counts-le part size counts = elim (ends_in_cr part) [
  | inl is ↦ omega (arith, counts.cr is.0 is.1, ap length is.1, length-append is.0 (13 ∷ []))
  | inr none ↦ omega (arith, counts.other none)
]

-- a list in front of a place, there, and behind it
pub cut : (xs : List ℕ) (k : ℕ) → k < length xs → xs ≡ take k xs ++ get_or xs k 0 ∷ drop (suc k) xs
cut xs k lt = sym (take-append-drop k xs) ∙ ap (λ (t : List ℕ). take k xs ++ t) (drop-cons xs k 0 lt)

goes_on_from : (behind more : List ℕ) → (behind ≡ [] → ⊥) → NoLf behind → GoesOn (behind ++ more)
goes_on_from [] more some plain = absurd (some refl)
goes_on_from (b ∷ behind) more some plain = plain.0

pub long : (used : ℕ) (tail part more : List ℕ) (size room : ℕ) → tail ≡ part ++ more → NoLf part → Counts part size →
    used + room ≡ 1048576 → room < size → HasLongLine used tail (take room part) (get_or part room 0) (drop (suc room) part ++ more)
long used tail part more size room is plain counts fits past =
    let there : room < length part = omega (arith, counts-le part size counts, past) in
    let at = cut part room there in
    let plain' : NoLf (take room part ++ get_or part room 0 ∷ drop (suc room) part) = subst NoLf at plain in
    let behind = no_lf-back (take room part) (get_or part room 0 ∷ drop (suc room) part) plain' in
    record {
      text = is ∙ ap (λ (t : List ℕ). t ++ more) at ∙ append_assoc (take room part) (get_or part room 0 ∷ drop (suc room) part) more;
      plain = no_lf-front (take room part) (get_or part room 0 ∷ drop (suc room) part) plain';
      full = omega (arith, length-take room part, there, fits);
      goes_on = behind.0;
      no_end = λ cr. goes_on_from (drop (suc room) part) more
          (λ none. omega (
            arith,
            past,
            there,
            length-take room part,
            counts.cr (take room part)
                (at ∙ ap (λ (b : ℕ). take room part ++ b ∷ drop (suc room) part) cr ∙ ap (λ (t : List ℕ). take room part ++ 13 ∷ t) none),
          ))
          behind.1;
    }

pub long_fault : (at part used : ℕ) (tail front more : List ℕ) (size room place : ℕ) → tail ≡ front ++ more → NoLf front →
    Counts front size → used ≤ 1048576 → room ≡ 1048576 - used → room < size → place ≡ told (at + (part + room)) →
    PartFault (at + part) used tail (faults.LineTooLong place)
long_fault at part used tail front more size room place is plain counts fits room_is past told_at =
    let there : room < length front = omega (arith, counts-le front size counts, past) in
    let size_is : at + (part + room) ≡ at + part + length (take room front) = omega (arith, length-take room front, there) in (
      take room front,
      get_or front room 0,
      drop (suc room) front ++ more,
      long used tail front more size room is plain counts (omega (arith, room_is, fits)) past,
      told_at ∙ ap told size_is,
    )

-- A part that ends with CR, and the LF behind it.
module _ (used : ℕ) (part body rest : List ℕ) (b size : ℕ) (is : part ≡ body ++ b ∷ []) (cr : b ≡ 13) (plain : NoLf part)
    (counts : Counts part size) (fits : used ≤ 1048576) (few : size ≤ 1048576 - used) where
  part_is : part ≡ body ++ 13 ∷ []
  part_is = is ∙ ap (λ (x : ℕ). body ++ x ∷ []) cr

  crlf : part ++ 10 ∷ rest ≡ body ++ 13 ∷ 10 ∷ rest
  crlf = ap (λ (t : List ℕ). t ++ 10 ∷ rest) part_is ∙ append_assoc body (13 ∷ []) (10 ∷ rest)

  body_plain : NoLf body
  body_plain = no_lf-front body (13 ∷ []) (subst NoLf part_is plain)

  body_short : used + length body ≤ 1048576
  body_short = omega (arith, counts.cr body part_is, fits, few)

  pub last_part : ((front digits : List ℕ) → IsNumeral 10 digits → body ≡ front ++ header digits → ⊥) → IsLastPart used (part ++ 10 ∷ rest) body rest
  last_part closed = record { text = crlf; plain = body_plain; closed = closed; short = body_short }

  pub literal_part : (front digits : List ℕ) (told : LiteralHeader) → EndsIn body front digits told → told.octets ≤ 33554432 →
      IsLiteralPart used (part ++ 10 ∷ rest) front digits rest × (told.octets ≡ digits_value 10 digits)
      × (length body ≡ length (front ++ header digits))
  literal_part front digits told ends within = (
    record {
      text = crlf ∙ ap (λ (t : List ℕ). t ++ 13 ∷ 10 ∷ rest) ends.text;
      plain = no_lf-front front (header digits) (subst NoLf ends.text body_plain);
      number = ends.number;
      few = omega (arith, ends.octets, within);
      short = subst (λ (t : List ℕ). used + length t ≤ 1048576) ends.text body_short;
    },
    omega (arith, ends.octets, within),
    ap length ends.text,
  )

  pub large_part : (front digits : List ℕ) (told : LiteralHeader) → EndsIn body front digits told → 33554432 < told.octets →
      HasLargeLiteral used (part ++ 10 ∷ rest) front digits rest
  large_part front digits told ends past = record {
    text = crlf ∙ ap (λ (t : List ℕ). t ++ 13 ∷ 10 ∷ rest) ends.text;
    plain = no_lf-front front (header digits) (subst NoLf ends.text body_plain);
    number = ends.number;
    large = omega (arith, ends.octets, past);
    short = subst (λ (t : List ℕ). used + length t ≤ 1048576) ends.text body_short;
  }

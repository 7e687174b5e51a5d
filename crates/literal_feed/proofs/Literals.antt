-- The places of the literals, one more at a time.
use Rattle.std.proofs.Common.{◌≡◌, ◌⊎◌, inl, inr, ℕ, ◌+◌, ◌-◌, ◌<◌, ◌≤◌, List, [], ◌∷◌, ◌++◌, length, take, drop, refl, sym, ◌∙◌, ap}
use Rattle.std.proofs.Common.{subst, arith, length-append, length-take}
use Rattle.std.proofs.Math.Seq.{take-append_seam, drop-append-add}
use Rattle.std.specs.Str.Parse.{digits_value}
use Rattle.mail_base.specs.declared.span.Span.{Span}
use Rattle.mail_base.specs.Frames.{Opening, opening_text, part_of, header, literals_from}
use Rattle.literal_feed.specs.declared.part.Cursor.{Cursor}
use Rattle.literal_feed.specs.Lines.{IsInPart, IsOpenLine}
use Rattle.std.proofs.lemmas.Bool.{cases_lt}
use Rattle.mail_base.specs.Frames.{NoLf, IsNext, NoWhole, BeginsWith, line_text}
use Rattle.mail_base.specs.declared.frame.Frame.{Frame}
use Rattle.literal_feed.specs.Parts.{IsLiteralPart, IsLastPart}
use Rattle.literal_feed.proofs.Ends.{open_no_whole}
use Rattle.mail_base.proofs.Openings.{spelled}
use Rattle.literal_feed.proofs.Lines.{in_literal, behind_literal, rest_size, last_line}

pub literals_more : (at : ℕ) (os : List Opening) (o : Opening) (low high : ℕ) → low ≡ at + length (spelled os) + length (part_of o) + 2 →
    high ≡ low + length o.octets → literals_from at (os ++ o ∷ []) ≡ literals_from at os ++ record { low = low; high = high } ∷ []
literals_more at [] o low high l h =
    let l' : at + length (part_of o) + 2 ≡ low = omega (arith, l) in
    let h' : at + length (part_of o) + 2 + length o.octets ≡ high = omega (arith, l, h) in
    (λ i. record { low = l' i; high = h' i } ∷ [])
literals_more at (p ∷ os) o low high l h =
    let n : length (spelled (p ∷ os)) ≡ length (part_of p) + 2 + length p.octets + length (spelled os) =
    omega (arith, length-append (opening_text p) (spelled os), length-append (part_of p) (13 ∷ 10 ∷ p.octets)) in
    let more = literals_more (at + length (part_of p) + 2 + length p.octets) os o low high (omega (arith, l, n)) h in
    ap (λ (t : List Span). record { low = at + length (part_of p) + 2; high = at + length (part_of p) + 2 + length p.octets } ∷ t) more

-- a line as far as its literals were read: a part begins here, or the line ends in a literal that isn't all there
abbrev pub ReadSo : List ℕ → Cursor → List Span → Type 0
ReadSo line cursor literals =
    ((os : List Opening) × (tail : List ℕ) × IsInPart line cursor.part cursor.searched cursor.counted os tail × (literals ≡ literals_from 0 os))
    ⊎ ((length line < cursor.part) × IsOpenLine line)

pub in_so : (line : List ℕ) (cursor : Cursor) (literals : List Span) → ReadSo line cursor literals → cursor.part ≤ length line →
    (os : List Opening) × (tail : List ℕ) × IsInPart line cursor.part cursor.searched cursor.counted os tail
    × (literals ≡ literals_from 0 os)
in_so line cursor literals (inl is) within = is
in_so line cursor literals (inr past) within = absurd (omega (arith, past.0, within))

pub past_so : (line : List ℕ) (cursor : Cursor) (literals : List Span) → ReadSo line cursor literals → length line < cursor.part → NoWhole line
past_so line cursor literals (inl is) past = absurd (omega (arith, past, is.2.begins, ap length is.2.text, length-append (spelled is.0) is.1))
past_so line cursor literals (inr is) past = open_no_whole line is.1

-- nothing was read
pub starts_so : (line : List ℕ) (cursor : Cursor) → cursor.part ≡ 0 → cursor.searched ≡ 0 → cursor.counted ≡ 0 → ReadSo line cursor []
starts_so line cursor p s u = inl (
  [],
  line,
  record {
    text = refl;
    opened = tt;
    begins = p;
    within = omega (arith, s);
    used_is = u;
    plain = let none : cursor.searched - cursor.part ≡ 0 = omega (arith, p, s) in subst (λ (k : ℕ). NoLf (take k line)) (sym none) tt;
  },
  refl,
)

-- behind a header the line stands behind the literal, or in it
pub goes_so : (line : List ℕ) (old new : Cursor) (literals after : List Span) → ReadSo line old literals → old.part ≤ length line →
    (low octets : ℕ) → (front : List ℕ) × (digits : List ℕ) × (rest : List ℕ)
    × IsLiteralPart old.counted (drop old.part line) front digits rest × (low ≡ old.part + length (front ++ header digits) + 2)
    × (octets ≡ digits_value 10 digits) → new.part ≡ low + octets → new.searched ≡ low + octets →
    new.counted ≡ old.counted + (low - 2 - old.part) → after ≡ literals ++ record { low = low; high = low + octets } ∷ [] →
    ReadSo line new after
goes_so line old new literals after so within low octets opens part_is searched_is counted_is more =
    let is = in_so line old literals so within in
    let front = opens.0 in
    let digits = opens.1 in
    let rest = opens.2 in
    let p : ℕ = old.part + length (front ++ header digits) + 2 + digits_value 10 digits in
    let u : ℕ = old.counted + length (front ++ header digits) in
    let at : p ≡ new.part = omega (arith, part_is, opens.4, opens.5) in
    let searched : p ≡ new.searched = omega (arith, searched_is, opens.4, opens.5) in
    let used : u ≡ new.counted = omega (arith, counted_is, opens.4) in
    elim (cases_lt (length rest) (digits_value 10 digits)) [
      | inl owed ↦ inr (
        omega (arith, at, owed, rest_size line old.part old.searched old.counted is.0 is.1 is.2 front digits rest opens.3),
        inr (
          p,
          u,
          is.0,
          front,
          digits,
          rest,
          in_literal line old.part old.searched old.counted is.0 is.1 is.2 front digits rest opens.3 owed,
        ),
      )
      | inr there ↦ inl (
        is.0 ++ record { front = front; digits = digits; octets = take (digits_value 10 digits) rest } ∷ [],
        drop (digits_value 10 digits) rest,
        subst (λ (k : ℕ). IsInPart line k new.searched new.counted (is.0
            ++ record { front = front; digits = digits; octets = take (digits_value 10 digits) rest } ∷ [])
            (drop (digits_value 10 digits) rest)) at
            (subst (λ (k : ℕ). IsInPart line p k new.counted (is.0 ++ record {
              front = front;
              digits = digits;
              octets =
                  take (digits_value 10 digits) rest;
            } ∷ []) (drop (digits_value 10 digits) rest)) searched
            (subst (λ (k : ℕ). IsInPart line p p k (is.0 ++ record {
              front = front;
              digits = digits;
              octets =
                  take (digits_value 10 digits) rest;
            } ∷ []) (drop (digits_value 10 digits) rest)) used
            (behind_literal line old.part old.searched old.counted is.0 is.1 is.2 front digits rest opens.3 there))),
        more ∙ ap (λ (t : List Span). t ++ record { low = low; high = low + octets } ∷ []) is.3
            ∙ sym (literals_more 0 is.0 (record { front = front; digits = digits; octets = take (digits_value 10 digits) rest }) low
            (low + octets) (omega (arith, opens.4, is.2.begins)) (omega (
              arith,
              opens.5,
              length-take (digits_value 10 digits) rest,
              there,
            ))),
      )
    ]

-- the last part makes it a frame
pub whole_so : (line : List ℕ) (cursor : Cursor) (literals : List Span) (at end : ℕ) → at < 18446744073709551616 →
    ReadSo line cursor literals → cursor.part ≤ length line → (last : List ℕ) × (rest : List ℕ)
    × IsLastPart cursor.counted (drop cursor.part line) last rest × (end ≡ cursor.part + length last) → (frame : Frame) →
    frame.bytes ≡ take end line → frame.literals ≡ literals → frame.at ≡ at →
    (end ≤ length line) × IsNext at line frame (drop (length frame.bytes + 2) line)
whole_so line cursor literals at end small so within closes frame bytes_is literals_is at_is =
    let is = in_so line cursor literals so within in
    let last = closes.0 in
    let rest = closes.1 in
    let whole = last_line line cursor.part cursor.searched cursor.counted is.0 is.1 is.2 last rest end closes.2 closes.3 in
    let text : ℕ = length (line_text is.0 last) in
    let front : take end line ≡ line_text is.0 last = ap (λ (k : ℕ). take k line) whole.1
    ∙ ap (take (length (line_text is.0 last))) whole.0.whole ∙ take-append_seam (line_text is.0 last) (13 ∷ 10 ∷ rest) in
    let size : length frame.bytes ≡ length (line_text is.0 last) = ap length bytes_is ∙ ap length front in
    let two : drop (length (line_text is.0 last) + 2) (line_text is.0 last ++ 13 ∷ 10 ∷ rest) ≡ rest =
    drop-append-add (line_text is.0 last) (13 ∷ 10 ∷ rest) 2 in
    let behind : drop (length frame.bytes + 2) line ≡ rest = ap (λ (k : ℕ). drop (k + 2) line) size
    ∙ ap (drop (length (line_text is.0 last) + 2)) whole.0.whole ∙ two in (
      omega (arith, whole.1, ap length whole.0.whole, length-append (line_text is.0 last) (13 ∷ 10 ∷ rest)),
      (is.0, last, subst (λ (t : List ℕ). BeginsWith line is.0 last t) (sym behind) whole.0, bytes_is ∙ front, literals_is ∙ is.3, omega (arith, at_is, small)),
    )

-- A line that is told, which has no limits, and a line that is fed, at the front of one stream, are one; and a told line that is
-- too large gives the stream a fault (RFC 9051, sections 2.2 and 4.3).
use Rattle.std.proofs.Common.{◌≡◌, ◌≢◌, ◌⊎◌, inl, inr, ℕ, zero, suc, ◌+◌, ◌-◌, ◌<◌, ◌≤◌, List, [], ◌∷◌, ◌++◌, length, refl, sym, ◌∙◌, ap}
use Rattle.std.proofs.Common.{subst, arith, append_assoc, length-append}
use Rattle.std.proofs.lemmas.Bool.{cases_lt}
use Rattle.std.specs.List.{AllByRecursion}
use Rattle.std.specs.Prelude.{min}
use Rattle.std.specs.Str.Parse.{digits_value}
use Rattle.mail_base.specs.Frames.{NoLf, GoesOn, Opening, IsOpening, IsLine, opening_text, part_of, counted, line_text, literals_from}
use Rattle.mail_base.specs.Frames.{IsNext, NoWhole, PartFault, LineFault, FirstFault, told}
use Rattle.mail_base.specs.ToldLines.{IsOpened, IsClosed, IsToldLine}
use Rattle.mail_base.specs.declared.frame.Frame.{Frame}
use Rattle.mail_base.specs.declared.frame.FeedFault.{FeedFault}
use Rattle.mail_base.specs.declared.frame.FeedFault.TheVariants as faults
use Rattle.mail_base.proofs.Openings.{spelled, one_crlf, part_plain, opened_any, peel_any}

last_or_part : (p : Opening) (ps : List Opening) (last rest u : List ℕ) → IsOpened p → NoLf last → IsClosed last
    → last ++ 13 ∷ 10 ∷ rest ≡ spelled (p ∷ ps) ++ u → ⊥
last_or_part p ps last rest u is plain closed e =
    let same = one_crlf last (part_of p) rest (p.octets ++ (spelled ps ++ u)) plain (part_plain p is)
    (e ∙ append_assoc (opening_text p) (spelled ps) u ∙ append_assoc (part_of p) (13 ∷ 10 ∷ p.octets) (spelled ps ++ u)) in
    closed p.front p.digits is.number same.0

-- two whole lines at the front of one stream are one, whatever their size
pub one_line : (os ps : List Opening) (last rest last' rest' : List ℕ) → IsToldLine os last → IsToldLine ps last' →
    spelled os ++ (last ++ 13 ∷ 10 ∷ rest) ≡ spelled ps ++ (last' ++ 13 ∷ 10 ∷ rest') → (os ≡ ps) × (last ≡ last') × (rest ≡ rest')
one_line [] [] last rest last' rest' a b e = let same = one_crlf last last' rest rest' a.plain b.plain e in (refl, same.0, same.1)
one_line [] (p ∷ ps) last rest last' rest' a b e = absurd (last_or_part p ps last rest (last' ++ 13 ∷ 10 ∷ rest') b.opened.0 a.plain a.closed e)
one_line (o ∷ os) [] last rest last' rest' a b e = absurd (last_or_part o os last' rest' (last ++ 13 ∷ 10 ∷ rest) a.opened.0 b.plain b.closed (sym e))
one_line (o ∷ os) (p ∷ ps) last rest last' rest' a b e =
    let first = peel_any o p (spelled os ++ (last ++ 13 ∷ 10 ∷ rest)) (spelled ps ++ (last' ++ 13 ∷ 10 ∷ rest')) a.opened.0 b.opened.0
    (sym (append_assoc (opening_text o) (spelled os) (last ++ 13 ∷ 10 ∷ rest)) ∙ e ∙ append_assoc (opening_text p) (spelled ps) (last' ++ 13 ∷ 10 ∷ rest')) in
    let more = one_line os ps last rest last' rest' (record { opened = a.opened.1; plain = a.plain; closed = a.closed })
    (record { opened = b.opened.1; plain = b.plain; closed = b.closed }) first.1 in
    ((λ i. first.0 i ∷ more.0 i), more.1, more.2)

-- a line that is fed is one that may be told
all_opened : (os : List Opening) → AllByRecursion IsOpening os → AllByRecursion IsOpened os
all_opened [] all = tt
all_opened (o ∷ os) all = (opened_any o all.0, all_opened os all.1)

pub fed_told : (os : List Opening) (last : List ℕ) → IsLine os last → IsToldLine os last
fed_told os last is = record { opened = all_opened os is.opened; plain = is.plain; closed = is.closed }

-- a line in front of the rest of a stream, with its openings apart
pub line_apart : (os : List Opening) (last rest : List ℕ) → line_text os last ++ 13 ∷ 10 ∷ rest ≡ spelled os ++ (last ++ 13 ∷ 10 ∷ rest)
line_apart os last rest = append_assoc (spelled os) last (13 ∷ 10 ∷ rest)

-- a frame that is fed and a line that is told, at the front of one stream, are one
pub one_told : (at : ℕ) (stream : List ℕ) (fed : Frame) (rest : List ℕ) (os : List Opening) (last rest' : List ℕ) → IsNext at stream fed rest
    → IsToldLine os last → stream ≡ line_text os last ++ 13 ∷ 10 ∷ rest' →
    (line_text os last ≡ fed.bytes) × (literals_from 0 os ≡ fed.literals) × (rest ≡ rest')
one_told at stream fed rest os last rest' next line is =
    let begins = next.2 in
    let same = one_line next.0 os next.1 rest last rest' (fed_told next.0 next.1 begins.line) line (sym (line_apart next.0 next.1 rest) ∙ sym begins.whole
    ∙ is ∙ line_apart os last rest') in (
      ap (λ (o : List Opening). line_text o last) (sym same.0) ∙ ap (line_text next.0) (sym same.1) ∙ sym next.3,
      ap (literals_from 0) (sym same.0) ∙ sym next.4,
      same.2,
    )

-- a byte inside a part that is too long, behind so many others
long_part : (k : ℕ) (part x : List ℕ) → k < length part → NoLf part → (front : List ℕ) × (byte : ℕ) × (rest : List ℕ)
    × (part ++ 13 ∷ x ≡ front ++ byte ∷ rest) × NoLf front × (length front ≡ k) × (byte ≢ 10) × GoesOn rest
long_part k [] x lt plain = absurd (omega (arith, lt))
long_part zero (b ∷ []) x lt plain = ([], b, 13 ∷ x, refl, tt, refl, plain.0, λ e. absurd {A = ⊥} (cc e))
long_part zero (b ∷ c ∷ part) x lt plain = ([], b, c ∷ (part ++ 13 ∷ x), refl, tt, refl, plain.0, plain.1.0)
long_part (suc k) (b ∷ part) x lt plain =
    let w = long_part k part x (omega (arith, lt)) plain.1 in
    (b ∷ w.0, w.1, w.2, ap (λ (t : List ℕ). b ∷ t) w.3, (plain.0, w.4), ap suc w.5, w.6, w.7)

too_long : (at used : ℕ) (part x : List ℕ) → NoLf part → used ≤ 1048576 → 1048576 < used + length part → (fault : FeedFault)
    × PartFault (at + 0) (used + 0) (part ++ 13 ∷ x) fault
too_long at used part x plain some many =
    let w = long_part (1048576 - used) part x (omega (arith, some, many)) plain in (
      faults.LineTooLong (told (at + 0 + length w.0)),
      (
        w.0,
        w.1,
        w.2,
        record { text = w.3; plain = w.4; full = omega (arith, some, w.5); goes_on = w.6; no_end = λ cr. w.7 },
        refl,
      ),
    )

-- A line that is told from a part on, behind so many bytes that count: it keeps the limits, or the stream has a fault there.
abbrev pub Ending : ℕ → ℕ → List ℕ → List Opening → List ℕ → Type 0
Ending at used stream os last =
    (AllByRecursion IsOpening os × (used + counted os + length last ≤ 1048576))
    ⊎ ((front : List Opening) × (tail : List ℕ) × (fault : FeedFault) × AllByRecursion IsOpening front × (stream ≡ spelled front ++ tail)
    × PartFault (at + length (spelled front)) (used + counted front) tail fault)

pub ended : (at used : ℕ) (os : List Opening) (last rest : List ℕ) → AllByRecursion IsOpened os → NoLf last → used ≤ 1048576
    → Ending at used (spelled os ++ (last ++ 13 ∷ 10 ∷ rest)) os last
ended at used [] last rest all plain some =
    elim (cases_lt 1048576 (used + length last)) [
      | inl many ↦ let w = too_long at used last (10 ∷ rest) plain some many in inr ([], last ++ 13 ∷ 10 ∷ rest, w.0, tt, refl, w.1)
      | inr few ↦ inl (tt, omega (arith, few))
    ]
ended at used (o ∷ os) last rest all plain some =
    let u : List ℕ = last ++ 13 ∷ 10 ∷ rest in
    let whole : spelled (o ∷ os) ++ u ≡ opening_text o ++ (spelled os ++ u) = append_assoc (opening_text o) (spelled os) u in
    let text : spelled (o ∷ os) ++ u ≡ part_of o ++ 13 ∷ 10 ∷ (o.octets ++ (spelled os ++ u)) = whole
    ∙ append_assoc (part_of o) (13 ∷ 10 ∷ o.octets) (spelled os ++ u) in
    elim (cases_lt 1048576 (used + length (part_of o))) [
      | inl many ↦
          let w = too_long at used (part_of o) (10 ∷ (o.octets ++ (spelled os ++ u))) (part_plain o all.0) some many in
          inr ([], part_of o ++ 13 ∷ 10 ∷ (o.octets ++ (spelled os ++ u)), w.0, tt, text, w.1)
      | inr few ↦ elim (cases_lt 33554432 (length o.octets)) [
        | inl large ↦
            inr (
              [],
              part_of o ++ 13 ∷ 10 ∷ (o.octets ++ (spelled os ++ u)),
              faults.LiteralTooLarge (told (at + 0 + length o.front)) (min (digits_value 10 o.digits) 9223372036854775807),
              tt,
              text,
              (
                o.front,
                o.digits,
                o.octets ++ (spelled os ++ u),
                record {
                  text = refl;
                  plain = all.0.plain;
                  number = all.0.number;
                  large =
                      omega (arith, large, all.0.octets);
                  short = omega (arith, few);
                },
                refl,
                refl,
              ),
            )
        | inr fits ↦
            let io : IsOpening o = record { plain = all.0.plain; number = all.0.number; octets = all.0.octets; few = omega (arith, fits) } in
            elim (ended (at + length (opening_text o)) (used + length (part_of o)) os last rest all.1 plain (omega (arith, few))) [
              | inl good ↦ inl ((io, good.0), omega (arith, good.1))
              | inr bad ↦
                  let place : at + length (opening_text o) + length (spelled bad.0) ≡ at + length (spelled (o ∷ bad.0)) =
                  omega (arith, length-append (opening_text o) (spelled bad.0)) in
                  let count : used + length (part_of o) + counted bad.0 ≡ used + counted (o ∷ bad.0) = omega arith in
                  inr (
                    o ∷ bad.0,
                    bad.1,
                    bad.2,
                    (io, bad.3),
                    whole ∙ ap (λ (t : List ℕ). opening_text o ++ t) bad.4 ∙ sym (append_assoc (opening_text o) (spelled bad.0) bad.1),
                    subst (λ (k : ℕ). PartFault k (used + counted (o ∷ bad.0)) bad.1 bad.2) place
                        (subst (λ (k : ℕ). PartFault (at + length (opening_text o) + length (spelled bad.0)) k bad.1 bad.2) count bad.5),
                  )
            ]
      ]
    ]

-- where no whole line stands at the front of a stream without a fault, none was told there
pub none_told : (at : ℕ) (stream : List ℕ) (os : List Opening) (last rest : List ℕ) → NoWhole stream → ((fault : FeedFault) → FirstFault at stream fault → ⊥)
    → IsToldLine os last → stream ≡ line_text os last ++ 13 ∷ 10 ∷ rest → ⊥
none_told at stream os last rest none sound line is =
    let text : stream ≡ spelled os ++ (last ++ 13 ∷ 10 ∷ rest) = is ∙ line_apart os last rest in
    elim (ended at 0 os last rest line.opened line.plain (omega arith)) [
      | inl good ↦ none os last rest (record {
        line = record {
          opened = good.0;
          plain = line.plain;
          closed = line.closed;
          short =
              omega (arith, good.1);
        };
        whole = is;
      })
      | inr bad ↦
          let here : at ≡ at + (length stream - length stream) = omega arith in
          let zero_more : 0 + counted bad.0 ≡ counted bad.0 = omega arith in
          sound bad.2 (
            [],
            stream,
            refl,
            subst (λ (k : ℕ). LineFault k stream bad.2) here (
              bad.0,
              bad.1,
              bad.3,
              text
                  ∙ bad.4,
              subst (λ (n : ℕ). PartFault (at + length (spelled bad.0)) n bad.1 bad.2) zero_more bad.5,
            ),
          )
    ]

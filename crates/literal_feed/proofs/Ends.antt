-- An open line is neither whole nor at fault.
use Rattle.std.proofs.Common.{◌≡◌, ◌⊎◌, inl, inr, ℕ, ◌+◌, ◌<◌, ◌≤◌, List, [], ◌∷◌, ◌++◌, length, refl, sym, ◌∙◌, ap, subst, arith, length-append}
use Rattle.std.proofs.lemmas.List.{same_from_push}
use Rattle.std.specs.List.{AllByRecursion}
use Rattle.std.specs.Str.Parse.{IsNumeral, digits_value}
use Rattle.mail_base.specs.Frames.{NoWhole, NoLf, GoesOn, header, Opening, IsOpening, part_of, counted, LineFault, PartFault, HasLongLine}
use Rattle.mail_base.specs.declared.frame.FeedFault.{FeedFault}
use Rattle.mail_base.specs.declared.frame.FeedFault.TheVariants as faults
use Rattle.literal_feed.specs.Parts.{IsOpenPart}
use Rattle.literal_feed.specs.Lines.{IsOpenLine}
use Rattle.mail_base.proofs.Lf.{no_lf-append, no_lf-here, no_lf-header}
use Rattle.mail_base.proofs.Headers.{one_header}
use Rattle.literal_feed.proofs.Parts.{ends_in_cr}
use Rattle.mail_base.proofs.Openings.{Crlf, crlf_unique, crlf_plain, crlf_bare, crlf_long, opening_crlf, large_crlf, spelled, NoOpening}
use Rattle.mail_base.proofs.Frames.{IsLast, fault_opens_none, last_opens_none, fault_short, one_way, last_tail, last_is, last_short}

-- a literal whose octets aren't all there
pub record IsShort (used : ℕ) (tail front digits octets : List ℕ) : Type 0 where
  pub text : tail ≡ (front ++ header digits) ++ 13 ∷ 10 ∷ octets
  pub plain : NoLf front
  pub number : IsNumeral 10 digits
  pub few : digits_value 10 digits ≤ 33554432
  pub owed : length octets < digits_value 10 digits
  pub short : used + length (front ++ header digits) ≤ 1048576

short_crlf : (used : ℕ) (tail front digits octets : List ℕ) → IsShort used tail front digits octets → Crlf used tail (front ++ header digits) octets
short_crlf used tail front digits octets is = record {
  text = is.text;
  plain =
      no_lf-append front (header digits) is.plain (no_lf-header digits is.number.1);
  short = is.short;
}

-- behind the last literal that is whole, a line is open
abbrev pub IsOpenEnd : ℕ → List ℕ → Type 0
IsOpenEnd used tail = IsOpenPart used tail ⊎ ((front : List ℕ) × (digits : List ℕ) × (octets : List ℕ) × IsShort used tail front digits octets)

-- an open end opens no literal
pub open_opens_none : (used : ℕ) (tail : List ℕ) → IsOpenEnd used tail → NoOpening used tail
open_opens_none used tail (inl goes) o x is n e = crlf_plain used tail (part_of o) (o.octets ++ x) (opening_crlf used tail o x is n e) goes.plain
open_opens_none used tail (inr s) o x is n e =
    let same = crlf_unique used tail (part_of o) (o.octets ++ x) (opening_crlf used tail o x is n e) (s.0 ++ header s.1) s.2 used
    (short_crlf used tail s.0 s.1 s.2 s.3) in
    let digits = one_header o.front o.digits s.0 s.1 is.number.1 s.3.number.1 same.0 in
    omega (arith, ap (digits_value 10) digits.1, is.octets, s.3.owed, ap length same.1, length-append o.octets x)

-- an open end isn't the last part
pub open_last : (used : ℕ) (tail last rest : List ℕ) → IsOpenEnd used tail → IsLast used tail last rest → ⊥
open_last used tail last rest (inl goes) is = crlf_plain used tail last rest is.0 goes.plain
open_last used tail last rest (inr s) is =
    is.1 s.0 s.1 s.3.number (crlf_unique used tail last rest is.0 (s.0 ++ header s.1) s.2 used (short_crlf used tail s.0 s.1 s.2 s.3)).0

-- a part that is too long is longer than an open one may be
long_open : (used : ℕ) (tail : List ℕ) → IsOpenPart used tail → (part : List ℕ) (byte : ℕ) (rest : List ℕ) → HasLongLine used tail part byte rest → ⊥
long_open used tail goes part byte rest long = elim (ends_in_cr tail) [
  | inl cr ↦ inside cr.0 (goes.short (length cr.0) (record {
    cr =
        λ body e. ap length (same_from_push cr.0 body 13 13 (sym cr.1 ∙ e)).0;
    other = λ lacks. absurd (lacks cr.0 cr.1);
  })) cr.1
  | inr lacks ↦ omega (
    arith,
    goes.short (length tail) (record { cr = λ body e. absurd (lacks body e); other = λ all. refl }),
    long.full,
    ap length long.text,
    length-append part (byte ∷ rest),
  )
]
  where
    lasts : (part body rest : List ℕ) (byte : ℕ) → length part ≡ length body → part ++ byte ∷ rest ≡ body ++ 13 ∷ [] → (byte ≡ 13) × (rest ≡ [])
    lasts [] [] rest byte n e = (cc, cc)
    lasts [] (b ∷ body) rest byte n e = absurd (omega (arith, n))
    lasts (p ∷ part) [] rest byte n e = absurd (omega (arith, n))
    lasts (p ∷ part) (b ∷ body) rest byte n e = lasts part body rest byte (omega (arith, n)) cc

    ends : (rest : List ℕ) → rest ≡ [] → GoesOn rest → ⊥
    ends [] is on = on
    ends (b ∷ rest) is on = cc

    inside : (body : List ℕ) → used + length body ≤ 1048576 → tail ≡ body ++ 13 ∷ [] → ⊥
    inside body few is =
        let n : length part ≡ length body = omega (
          arith,
          few,
          long.full,
          ap length is,
          ap length long.text,
          length-append part (byte ∷ rest),
          length-append body (13 ∷ []),
        ) in
        let at = lasts part body rest byte n (sym long.text ∙ is) in
        ends rest at.1 (long.no_end at.0)

-- an open end has no fault
pub open_fault : (at used : ℕ) (tail : List ℕ) (fault : FeedFault) → IsOpenEnd used tail → PartFault at used tail fault → ⊥
open_fault at used tail (faults.BareLf place) (inl goes) bad = no_lf-here bad.0 bad.1 (subst NoLf bad.2.text goes.plain)
open_fault at used tail (faults.BareLf place) (inr s) bad = crlf_bare used tail (s.0 ++ header s.1) s.2 (short_crlf used tail s.0 s.1 s.2 s.3) bad.0 bad.1 bad.2
open_fault at used tail (faults.LiteralTooLarge place asked) (inl goes) bad =
    crlf_plain used tail (bad.0 ++ header bad.1) bad.2 (large_crlf used tail bad.0 bad.1 bad.2 bad.3) goes.plain
open_fault at used tail (faults.LiteralTooLarge place asked) (inr s) bad =
    let same = crlf_unique used tail (s.0 ++ header s.1) s.2 (short_crlf used tail s.0 s.1 s.2 s.3) (bad.0 ++ header bad.1) bad.2 used
    (large_crlf used tail bad.0 bad.1 bad.2 bad.3) in
    let digits = one_header s.0 s.1 bad.0 bad.1 s.3.number.1 bad.3.number.1 same.0 in
    omega (arith, ap (digits_value 10) digits.1, s.3.few, bad.3.large)
open_fault at used tail (faults.LineTooLong place) (inl goes) bad = long_open used tail goes bad.0 bad.1 bad.2 bad.3
open_fault at used tail (faults.LineTooLong place) (inr s) bad =
    crlf_long used tail (s.0 ++ header s.1) s.2 (short_crlf used tail s.0 s.1 s.2 s.3) bad.0 bad.1 bad.2 bad.3
open_fault at used tail faults.Memory goes bad = bad

-- Now of whole lines.
open_short : (used : ℕ) (tail : List ℕ) → IsOpenPart used tail → used ≤ 1048576
open_short used tail goes = elim (ends_in_cr tail) [
  | inl cr ↦ omega (
    arith,
    goes.short (length cr.0) (record {
      cr =
          λ body e. ap length (same_from_push cr.0 body 13 13 (sym cr.1 ∙ e)).0;
      other = λ lacks. absurd (lacks cr.0 cr.1);
    }),
  )
  | inr lacks ↦ omega (arith, goes.short (length tail) (record { cr = λ body e. absurd (lacks body e); other = λ all. refl }))
]

-- an open line, seen from its last part
abbrev pub OpenView : List ℕ → Type 0
OpenView line = (os : List Opening) × (tail : List ℕ) × AllByRecursion IsOpening os × (line ≡ spelled os ++ tail) × (counted os ≤ 1048576)
    × IsOpenEnd (counted os) tail

pub open_view : (line : List ℕ) → IsOpenLine line → OpenView line
open_view line (inl is) = (is.0, is.1, is.2, is.3, open_short (counted is.0) is.1 is.4, inl is.4)
open_view line (inr is) =
    let l = is.6 in (
      is.2,
      (is.3 ++ header is.4) ++ 13 ∷ 10 ∷ is.5,
      l.opened,
      l.text,
      omega (arith, l.used_is, l.short),
      inr (is.3, is.4, is.5, record { text = refl; plain = l.plain; number = l.number; few = l.few; owed = l.owed; short = omega (arith, l.used_is, l.short) }),
    )

pub open_no_whole : (line : List ℕ) → IsOpenLine line → NoWhole line
open_no_whole line is ps last rest whole =
    let v = open_view line is in
    let same = one_way v.0 ps v.1 (last ++ 13 ∷ 10 ∷ rest) v.2 whole.line.opened v.4 (last_short line ps last rest whole)
    (open_opens_none (counted v.0) v.1 v.5) (last_opens_none (counted ps) (last ++ 13 ∷ 10 ∷ rest) last rest
    (last_is line ps last rest whole)) (sym v.3 ∙ last_tail line ps last rest whole) in
    open_last (counted v.0) v.1 last rest v.5 (subst (λ (t : List ℕ). IsLast (counted v.0) t last rest) (sym same.1)
    (subst (λ (o : List Opening). IsLast (counted o) (last ++ 13 ∷ 10 ∷ rest) last rest) (sym same.0)
    (last_is line ps last rest whole)))

pub open_no_fault : (line : List ℕ) (at : ℕ) (fault : FeedFault) → IsOpenLine line → LineFault at line fault → ⊥
open_no_fault line at fault is bad =
    let v = open_view line is in
    let same = one_way v.0 bad.0 v.1 bad.1 v.2 bad.2 v.4 (fault_short _ (counted bad.0) bad.1 fault bad.4)
    (open_opens_none (counted v.0) v.1 v.5) (fault_opens_none _ (counted bad.0) bad.1 fault bad.4) (sym v.3 ∙ bad.3) in
    open_fault (at + length (spelled bad.0)) (counted v.0) v.1 fault v.5
    (subst (λ (t : List ℕ). PartFault (at + length (spelled bad.0)) (counted v.0) t fault) (sym same.1)
    (subst (λ (o : List Opening). PartFault (at + length (spelled bad.0)) (counted o) bad.1 fault) (sym same.0) bad.4))

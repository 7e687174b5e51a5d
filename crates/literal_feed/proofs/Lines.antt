-- A line that was read so far: how its next part carries it on.
use Rattle.std.proofs.Common.{◌≡◌, inl, inr, ℕ, ◌+◌, ◌-◌, ◌<◌, ◌≤◌, List, [], ◌∷◌, ◌++◌, length, take, drop, sym, ◌∙◌, ap, subst, arith}
use Rattle.std.proofs.Common.{append_assoc, append-nil, length-append, length-take, take-append-drop}
use Rattle.std.proofs.Math.Logic.{∥∥₁_elim}
use Rattle.std.proofs.Math.Seq.{drop-append_seam, take-length}
use Rattle.std.proofs.lemmas.Bool.{cases_lt}
use Rattle.std.proofs.lemmas.List.Concat.{flat_map-append}
use Rattle.std.specs.List.{AllByRecursion}
use Rattle.std.specs.Str.Parse.{digits_value}
use Rattle.mail_base.specs.Frames.{NoLf, header, Opening, IsOpening, opening_text, part_of, counted, BeginsWith, line_text, LineFault, PartFault}
use Rattle.mail_base.specs.declared.frame.FeedFault.{FeedFault}
use Rattle.mail_base.proofs.Openings.{spelled}
use Rattle.literal_feed.specs.declared.part.Cursor.{Cursor}
use Rattle.literal_feed.specs.Parts.{IsOpenPart, IsLiteralPart, IsLastPart}
use Rattle.literal_feed.specs.Lines.{IsInPart, IsInLiteral, Stands, IsOpenLine}

pub known : {A B : Type 0} → ∥ A ∥₁ → (A → B) → ∥ B ∥₁
known h f = ∥∥₁_elim h (hlevel) (λ a. ∣ f a ∣₁)

-- in a literal whose octets aren't all there, the part begins past the end
literal_past : (line : List ℕ) (part used : ℕ) (openings : List Opening) (front digits octets : List ℕ) →
    IsInLiteral line part used openings front digits octets → length line < part
literal_past line part used openings front digits octets is =
    omega (
      arith,
      is.begins,
      is.owed,
      ap length is.text,
      length-append (spelled openings) ((front ++ header digits) ++ 13 ∷ 10 ∷ octets),
      length-append (front ++ header digits) (13 ∷ 10 ∷ octets),
    )

pub in_part : (line : List ℕ) (cursor : Cursor) → Stands line cursor → cursor.part ≤ length line →
    (openings : List Opening) × (tail : List ℕ) × IsInPart line cursor.part cursor.searched cursor.counted openings tail
in_part line cursor (inl is) within = is
in_part line cursor (inr is) within = absurd (omega (arith, within, literal_past line cursor.part cursor.counted is.1 is.2 is.3 is.4 is.5))

pub past_end : (line : List ℕ) (cursor : Cursor) → Stands line cursor → length line < cursor.part → IsOpenLine line
past_end line cursor (inl is) past = absurd (omega (arith, past, is.2.begins, ap length is.2.text, length-append (spelled is.0) is.1))
past_end line cursor (inr is) past = inr (cursor.part, cursor.counted, is.1, is.2, is.3, is.4, is.5)

pub tail_is : (line : List ℕ) (part searched used : ℕ) (openings : List Opening) (tail : List ℕ) →
    IsInPart line part searched used openings tail → drop part line ≡ tail
tail_is line part searched used openings tail is =
    ap (λ (k : ℕ). drop k line) is.begins ∙ ap (λ (t : List ℕ). drop (length (spelled openings)) t) is.text ∙ drop-append_seam (spelled openings) tail

pub searched_plain : (line : List ℕ) (part searched used : ℕ) (openings : List Opening) (tail : List ℕ) →
    IsInPart line part searched used openings tail → NoLf (take (searched - part) (drop part line))
searched_plain line part searched used openings tail is = subst (λ (t : List ℕ). NoLf (take (searched - part) t))
    (sym (tail_is line part searched used openings tail is)) is.plain

-- one opening more
pub spelled_more : (os : List Opening) (o : Opening) → spelled (os ++ o ∷ []) ≡ spelled os ++ opening_text o
spelled_more os o = flat_map-append opening_text os (o ∷ []) ∙ ap (λ (t : List ℕ). spelled os ++ t) (append-nil (opening_text o))

pub counted_more : (os : List Opening) (o : Opening) → counted (os ++ o ∷ []) ≡ counted os + length (part_of o)
counted_more [] o = omega arith
counted_more (p ∷ os) o = omega (arith, counted_more os o)

pub opened_more : (os : List Opening) (o : Opening) → AllByRecursion IsOpening os → IsOpening o → AllByRecursion IsOpening (os ++ o ∷ [])
opened_more [] o all is = (is, tt)
opened_more (p ∷ os) o all is = (all.0, opened_more os o all.1 is)

-- The next part of a line, at a place where one begins.
module _ (line : List ℕ) (part searched used : ℕ) (openings : List Opening) (tail : List ℕ) (is : IsInPart line part searched used openings tail) where
  same_tail : drop part line ≡ tail
  same_tail = tail_is line part searched used openings tail is

  size_is : length line ≡ part + length tail
  size_is = omega (arith, is.begins, ap length is.text, length-append (spelled openings) tail)

  pub open_part : IsOpenPart used (drop part line) → IsInPart line part (length line) used openings tail
  open_part goes =
      let n : length line - part ≡ length tail = omega (arith, size_is) in
      record {
        text = is.text;
        opened = is.opened;
        begins = is.begins;
        within = omega arith;
        used_is = is.used_is;
        plain = subst NoLf (sym (ap (λ (k : ℕ). take k tail) n ∙ take-length tail)) (subst NoLf same_tail goes.plain);
      }

  pub open_line : IsOpenPart used (drop part line) → IsOpenLine line
  open_line goes = inl (
    openings,
    tail,
    is.opened,
    is.text,
    subst (λ (u : ℕ). IsOpenPart u tail) is.used_is
        (subst (λ (t : List ℕ). IsOpenPart used t) same_tail goes),
  )

  pub last_line : (last rest : List ℕ) (end : ℕ) → IsLastPart used (drop part line) last rest → end ≡ part + length last →
      BeginsWith line openings last rest × (end ≡ length (line_text openings last))
  last_line last rest end closes end_is = (
    record {
      line = record {
        opened = is.opened;
        plain = closes.plain;
        closed = closes.closed;
        short =
            subst (λ (u : ℕ). u + length last ≤ 1048576) is.used_is closes.short;
      };
      whole = is.text ∙ ap (λ (t : List ℕ). spelled openings ++ t) (sym same_tail ∙ closes.text) ∙ sym (append_assoc (spelled openings) last (13 ∷ 10 ∷ rest));
    },
    omega (arith, end_is, is.begins, length-append (spelled openings) last),
  )

  pub bad_line : (at : ℕ) (fault : FeedFault) → PartFault (at + part) used (drop part line) fault → LineFault at line fault
  bad_line at fault bad = (
    openings,
    tail,
    is.opened,
    is.text,
    subst (λ (t : List ℕ). PartFault (at + length (spelled openings)) (counted openings) t fault) same_tail
        (subst (λ (u : ℕ). PartFault (at + length (spelled openings)) u (drop part line) fault) is.used_is
        (subst (λ (k : ℕ). PartFault (at + k) used (drop part line) fault) is.begins bad)),
  )

  -- the part opens a literal
  module _ (front digits rest : List ℕ) (opens : IsLiteralPart used (drop part line) front digits rest) where
    opens_text : tail ≡ (front ++ header digits) ++ 13 ∷ 10 ∷ rest
    opens_text = sym same_tail ∙ opens.text

    pub rest_size : length line ≡ part + length (front ++ header digits) + 2 + length rest
    rest_size = omega (arith, size_is, ap length opens_text, length-append (front ++ header digits) (13 ∷ 10 ∷ rest))

    pub in_literal : length rest < digits_value 10 digits → IsInLiteral line
        (part + length (front ++ header digits) + 2 + digits_value 10 digits)
        (used + length (front ++ header digits)) openings front digits rest
    in_literal owed = record {
      text = is.text ∙ ap (λ (t : List ℕ). spelled openings ++ t) opens_text;
      opened = is.opened;
      plain = opens.plain;
      number = opens.number;
      few = opens.few;
      owed = owed;
      begins = omega (arith, is.begins);
      used_is = omega (arith, is.used_is);
      short = opens.short;
    }

    opening : Opening
    opening = record { front = front; digits = digits; octets = take (digits_value 10 digits) rest }

    pub behind_literal : digits_value 10 digits ≤ length rest → IsInPart line
        (part + length (front ++ header digits) + 2 + digits_value 10 digits)
        (part + length (front ++ header digits) + 2 + digits_value 10 digits) (used + length (front ++ header digits))
        (openings ++ record { front = front; digits = digits; octets = take (digits_value 10 digits) rest } ∷ [])
        (drop (digits_value 10 digits) rest)
    unfolding opening
    behind_literal there =
        let n : ℕ = digits_value 10 digits in
        let size : length (take n rest) ≡ n = omega (arith, length-take n rest, there) in
        let all : line ≡ spelled (openings ++ opening ∷ []) ++ drop n rest =
        is.text ∙ ap (λ (t : List ℕ). spelled openings ++ t) (opens_text
        ∙ ap (λ (t : List ℕ). (front ++ header digits) ++ 13 ∷ 10 ∷ t) (sym (take-append-drop n rest))
        ∙ sym (append_assoc (front ++ header digits) (13 ∷ 10 ∷ take n rest) (drop n rest)))
        ∙ sym (append_assoc (spelled openings) (opening_text opening) (drop n rest))
        ∙ ap (λ (t : List ℕ). t ++ drop n rest) (sym (spelled_more openings opening)) in
        let none : part + length (front ++ header digits) + 2 + n - (part + length (front ++ header digits) + 2 + n) ≡ 0 = omega arith in
        record {
          text = all;
          opened = opened_more openings opening is.opened (record {
            plain = opens.plain;
            number = opens.number;
            octets = sym size;
            few =
                omega (arith, size, opens.few);
          });
          begins = omega (
            arith,
            is.begins,
            ap length (spelled_more openings opening),
            length-append (spelled openings) (opening_text opening),
            length-append (front ++ header digits) (13 ∷ 10 ∷ take n rest),
            size,
          );
          within = omega (arith, rest_size, there);
          plain = subst (λ (k : ℕ). NoLf (take k (drop n rest))) (sym none) tt;
          used_is = omega (arith, is.used_is, counted_more openings opening);
        }

-- behind the header the line stands behind the literal, or in it
pub goes_on : (line : List ℕ) (old new : Cursor) → Stands line old → old.part ≤ length line → (low octets : ℕ) →
    (front : List ℕ) × (digits : List ℕ) × (rest : List ℕ) × IsLiteralPart old.counted (drop old.part line) front digits rest
    × (low ≡ old.part + length (front ++ header digits) + 2) × (octets ≡ digits_value 10 digits) → new.part ≡ low + octets →
    new.searched ≡ low + octets → new.counted ≡ old.counted + (low - 2 - old.part) → Stands line new
goes_on line old new stands within low octets opens part_is searched_is counted_is =
    let is = in_part line old stands within in
    let front = opens.0 in
    let digits = opens.1 in
    let rest = opens.2 in
    let p : ℕ = old.part + length (front ++ header digits) + 2 + digits_value 10 digits in
    let u : ℕ = old.counted + length (front ++ header digits) in
    let at : p ≡ new.part = omega (arith, part_is, opens.4, opens.5) in
    let searched : p ≡ new.searched = omega (arith, searched_is, opens.4, opens.5) in
    let used : u ≡ new.counted = omega (arith, counted_is, opens.4) in
    elim (cases_lt (length rest) (digits_value 10 digits)) [
      | inl owed ↦ inr (
        sym searched ∙ at,
        is.0,
        front,
        digits,
        rest,
        subst (λ (k : ℕ). IsInLiteral line k new.counted is.0 front digits rest) at
            (subst (λ (k : ℕ). IsInLiteral line p k is.0 front digits rest) used
            (in_literal line old.part old.searched old.counted is.0 is.1 is.2 front digits rest opens.3 owed)),
      )
      | inr there ↦ inl (
        is.0 ++ record { front = front; digits = digits; octets = take (digits_value 10 digits) rest } ∷ [],
        drop (digits_value 10 digits) rest,
        subst (λ (k : ℕ). IsInPart line k new.searched new.counted (is.0
            ++ record { front = front; digits = digits; octets = take (digits_value 10 digits) rest } ∷ [])
            (drop (digits_value 10 digits) rest)) at
            (subst (λ (k : ℕ). IsInPart line p k new.counted (is.0 ++ record {
              front = front;
              digits = digits;
              octets =
                  take (digits_value 10 digits) rest;
            } ∷ []) (drop (digits_value 10 digits) rest)) searched
            (subst (λ (k : ℕ). IsInPart line p p k (is.0 ++ record {
              front = front;
              digits = digits;
              octets =
                  take (digits_value 10 digits) rest;
            } ∷ []) (drop (digits_value 10 digits) rest)) used
            (behind_literal line old.part old.searched old.counted is.0 is.1 is.2 front digits rest opens.3 there))),
      )
    ]

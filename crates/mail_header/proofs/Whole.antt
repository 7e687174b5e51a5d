-- The first line of a header, with the lines that go on with it.
use Rattle.std.proofs.Common.{◌≡◌, ◌⊎◌, inl, inr, ℕ, ◌+◌, ◌<◌, ◌≤◌, true, false, List, [], ◌∷◌, ◌++◌, length, take, refl, sym, ◌∙◌, ap}
use Rattle.std.proofs.Common.{arith, le_refl, length-take, ⊎_elim}
use Rattle.std.proofs.lemmas.Bool.{cases_Bool, both_ways, false≢true, cond_both, and_parts, and_right, eqb-true}
use Rattle.std.proofs.lemmas.List.{append_assoc, append-nil, length-append, take-append-le, take_all}
use Rattle.std.specs.Prelude.{if◌then◌else◌, nat_eq}
use Rattle.std.specs.List.{onto_first, starts_with}
use Rattle.mail_header.specs.Header.{crlf, is_crlf, lines_of, before_empty}
use Rattle.mail_header.specs.Folding.{begins_blank, in_front, whole_lines, whole_header, joined, unfolded}
use Rattle.mail_header.specs.Parting.{IsParted, IsFirstLine}
use Rattle.mail_header.proofs.Lines.{crlf_is}

-- a list of lines, the first of which begins with a space or tab exactly where this text does
pub record BeginsAs (lines : List (List ℕ)) (text : List ℕ) : Type 0 where
  pub first : List ℕ
  pub others : List (List ℕ)
  pub is : lines ≡ first ∷ others
  pub blank : begins_blank first ≡ begins_blank text

onto_first-begins : (byte : ℕ) (lines : List (List ℕ)) (rest : List ℕ) → BeginsAs (onto_first byte lines) (byte ∷ rest)
onto_first-begins byte [] rest = record { first = byte ∷ []; others = []; is = refl; blank = refl }
onto_first-begins byte (line ∷ lines) rest = record { first = byte ∷ line; others = lines; is = refl; blank = refl }

pub lines-begin : (text : List ℕ) → BeginsAs (lines_of text) text
lines-begin [] = record { first = []; others = []; is = refl; blank = refl }
lines-begin (first ∷ []) = record { first = first ∷ []; others = []; is = refl; blank = refl }
lines-begin (first ∷ second ∷ rest) =
    cond_both (is_crlf first second) ([] ∷ lines_of rest) (onto_first first (lines_of (second ∷ rest))) (λ lines. BeginsAs lines (first ∷ second ∷ rest))
    (λ ends. record { first = []; others = lines_of rest; is = refl; blank = let cr = (crlf_is first second ends).0 in rw cr refl })
    (λ _. onto_first-begins first (lines_of (second ∷ rest)) (second ∷ rest))

-- the lines joined, by the first of them
pub unfolded-step : (text line rest : List ℕ) → IsParted text line rest → unfolded text ≡ line ++ ((if begins_blank rest then [] else crlf) ++ unfolded rest)
unfolded-step text line rest parted =
    let next = lines-begin rest in
    let here : joined (line ∷ lines_of rest) ≡ line ++ ((if begins_blank rest then [] else crlf) ++ joined (lines_of rest)) = rw (next.is, ← next.blank) refl in
    ap joined parted.lines ∙ here

-- one line more of a text that is unfolded
pub unfold-plain : (before all text line rest : List ℕ) → IsParted text line rest → begins_blank rest ≡ false →
    before ++ unfolded text ≡ all → (before ++ line ++ crlf) ++ unfolded rest ≡ all
unfold-plain before all text line rest parted plain is =
    simp append_assoc (ap (λ bytes. before ++ bytes) (sym (unfolded-step text line rest parted ∙ rw plain refl)) ∙ is)

pub unfold-blank : (before all text line rest : List ℕ) → IsParted text line rest → begins_blank rest ≡ true →
    before ++ unfolded text ≡ all → (before ++ line) ++ unfolded rest ≡ all
unfold-blank before all text line rest parted blank is =
    simp append_assoc (ap (λ bytes. before ++ bytes) (sym (unfolded-step text line rest parted ∙ rw blank refl)) ∙ is)

in_front-begins : (line : List ℕ) (lines : List (List ℕ)) → 0 < length line → BeginsAs (in_front line lines) line
in_front-begins [] lines some = absurd (omega arith)
in_front-begins (byte ∷ line) [] some = record { first = byte ∷ line; others = []; is = refl; blank = refl }
in_front-begins (byte ∷ line) (next ∷ lines) some =
    cond_both (begins_blank next) (((byte ∷ line) ++ crlf ++ next) ∷ lines) ((byte ∷ line) ∷ next ∷ lines) (λ all. BeginsAs all (byte ∷ line))
    (λ _. record { first = (byte ∷ line) ++ crlf ++ next; others = lines; is = refl; blank = refl })
    (λ _. record { first = byte ∷ line; others = next ∷ lines; is = refl; blank = refl })

-- the lines of a header are none, or begin as the text does
pub header-front : (text line rest : List ℕ) → IsFirstLine text line rest → 0 < length line → whole_header text ≡ in_front line (whole_header rest)
header-front text [] rest first some = absurd (omega arith)
header-front text (byte ∷ line) rest (inl parted) some = ap (λ lines. whole_lines (before_empty lines)) parted.lines
header-front text (byte ∷ line) rest (inr alone) some = ap (λ lines. whole_lines (before_empty lines)) alone.lines ∙ rw alone.none refl

begun : (text : List ℕ) (lines : List (List ℕ)) → BeginsAs lines text →
    (whole_lines (before_empty lines) ≡ []) ⊎ BeginsAs (whole_lines (before_empty lines)) text
begun text lines begins = elim begins.first as (λ first. lines ≡ first ∷ begins.others → begins_blank first ≡ begins_blank text →
    (whole_lines (before_empty lines) ≡ []) ⊎ BeginsAs (whole_lines (before_empty lines)) text) [
      | [] ↦ λ is blank. inl (ap (λ all. whole_lines (before_empty all)) is)
      | byte ∷ line ↦ λ is blank.
          let front = in_front-begins (byte ∷ line) (whole_lines (before_empty begins.others)) (omega arith) in
          inr (record {
            first = front.first;
            others = front.others;
            is = ap (λ all. whole_lines (before_empty all)) is ∙ front.is;
            blank = front.blank ∙ blank;
          })
    ] begins.is begins.blank

header-begins : (text : List ℕ) → (whole_header text ≡ []) ⊎ BeginsAs (whole_header text) text
header-begins text = begun text (lines_of text) (lines-begin text)

-- a line with which fails other goes on
pub in_front-plain : (line rest : List ℕ) → begins_blank rest ≡ false → in_front line (whole_header rest) ≡ line ∷ whole_header rest
in_front-plain line rest plain = elim (header-begins rest) as (λ _. in_front line (whole_header rest) ≡ line ∷ whole_header rest) [
  | inl none ↦ rw none refl
  | inr begins ↦ rw begins.is (rw (begins.blank ∙ plain) refl)
]

-- lines that go on with a line that goes on with a line
pub in_front-in_front : (line next : List ℕ) (lines : List (List ℕ)) → begins_blank next ≡ true →
    in_front line (in_front next lines) ≡ in_front (line ++ crlf ++ next) lines
in_front-in_front line next [] blank = rw blank refl
in_front-in_front line [] (third ∷ lines) blank = absurd (false≢true blank)
in_front-in_front line (byte ∷ next) (third ∷ lines) blank = elim (cases_Bool (begins_blank third)) [
  | inl holds ↦ rw (holds, blank) (ap (λ whole. whole ∷ lines) (simp append_assoc))
  | inr fails ↦ rw (fails, blank) refl
]

-- where a header ends
pub no_header : (text : List ℕ) → starts_with nat_eq text crlf ≡ true → whole_header text ≡ []
no_header [] starts = refl
no_header (first ∷ []) starts = absurd (both_ways _ (and_right (nat_eq 13 first) false refl) starts)
no_header (first ∷ second ∷ rest) starts =
    let cr = (and_parts _ _ starts).0 in
    let lf = (and_parts _ _ (and_parts _ _ starts).1).0 in
    let is_cr : first ≡ 13 = sym (eqb-true 13 first cr) in
    let is_lf : second ≡ 10 = sym (eqb-true 10 second lf) in
    rw (is_cr, is_lf) refl

pub starts_crlf : (text rest : List ℕ) → text ≡ crlf ++ rest → starts_with nat_eq text crlf ≡ true
starts_crlf text rest is = rw is refl

-- a line of the header ends at this place, and the rest stands behind its CRLF
pub record Reached (text : List ℕ) (end : ℕ) (rest : List ℕ) : Type 0 where
  pub within : end ≤ length text
  pub some : 0 < end
  pub header : whole_header text ≡ in_front (take end text) (whole_header rest)
  pub bytes : ((rest ≡ []) × (end ≡ length text)) ⊎ (text ≡ take end text ++ crlf ++ rest)

-- a first line isn't empty, where the text neither ends nor begins with a CRLF
first-some : (text line rest : List ℕ) → IsFirstLine text line rest → 0 < length text → starts_with nat_eq text crlf ≡ false → 0 < length line
first-some text [] rest (inl parted) some plain = absurd (both_ways _ plain (starts_crlf text rest parted.bytes))
first-some text [] rest (inr alone) some plain = omega (arith, ap length alone.bytes)
first-some text (byte ∷ line) rest first some plain = omega arith

take-front : (line rest : List ℕ) → take (length line) (line ++ rest) ≡ line
take-front line rest = take-append-le (length line) line rest (le_refl (length line)) ∙ take_all (length line) line (le_refl (length line))

pub reached-first : (text line rest : List ℕ) → IsFirstLine text line rest → 0 < length text → starts_with nat_eq text crlf ≡ false →
    Reached text (length line) rest
reached-first text line rest (inl parted) some plain =
    let filled = first-some text line rest (inl parted) some plain in
    let bytes : text ≡ line ++ (crlf ++ rest) = parted.bytes ∙ append_assoc line crlf rest in
    let front : take (length line) text ≡ line = ap (take (length line)) bytes ∙ take-front line (crlf ++ rest) in
    record {
      within = omega (arith, ap length bytes, length-append line (crlf ++ rest));
      some = filled;
      header = rw front (header-front text line rest (inl parted) filled);
      bytes = inr (rw front parted.bytes);
    }
reached-first text line rest (inr alone) some plain =
    let filled = first-some text line rest (inr alone) some plain in
    let front : take (length line) text ≡ line = ap (take (length line)) alone.bytes ∙ take_all (length line) line (le_refl (length line)) in
    record {
      within = omega (arith, ap length alone.bytes);
      some = filled;
      header = rw front (header-front text line rest (inr alone) filled);
      bytes = inl (alone.none, sym (ap length alone.bytes));
    }

-- a line that begins as a text that begins with a space or tab
first-blank : (text line rest : List ℕ) → IsFirstLine text line rest → begins_blank text ≡ true → begins_blank line ≡ true
first-blank text [] rest (inl parted) blank = absurd (false≢true (sym (ap begins_blank parted.bytes) ∙ blank))
first-blank text (byte ∷ line) rest (inl parted) blank = sym (ap begins_blank parted.bytes) ∙ blank
first-blank text line rest (inr alone) blank = sym (ap begins_blank alone.bytes) ∙ blank

blank-some : (text : List ℕ) → begins_blank text ≡ true → 0 < length text
blank-some [] blank = absurd (false≢true blank)
blank-some (byte ∷ text) blank = omega arith

-- what stands in front of a tail
front_of : (text front tail : List ℕ) (n : ℕ) → text ≡ front ++ tail → length front ≡ n → take n text ≡ front
front_of text front tail n is long = ap (λ k. take k text) (sym long) ∙ ap (take (length front)) is ∙ take-front front tail

within_of : (text front tail : List ℕ) (n : ℕ) → text ≡ front ++ tail → length front ≡ n → n ≤ length text
within_of text front tail n is long = omega (arith, ap length is, length-append front tail, long)

-- one line more
module _ (text : List ℕ) (end : ℕ) (rest line behind : List ℕ) (reached : Reached text end rest) (blank : begins_blank rest ≡ true)
    (first : IsFirstLine rest line behind) where
  front : List ℕ
  front = take end text ++ crlf ++ line

  cut : text ≡ take end text ++ crlf ++ rest
  cut = ⊎_elim (λ ended. absurd (omega (arith, ap length ended.0, blank-some rest blank))) (λ here. here) reached.bytes

  long : length (take end text ++ crlf ++ line) ≡ end + (2 + length line)
  long = omega (arith, length-append (take end text ++ crlf) line, length-append (take end text) crlf, length-take end text, reached.within)

  joined_with : (tail : List ℕ) → rest ≡ line ++ tail → text ≡ (take end text ++ crlf ++ line) ++ tail
  joined_with tail is = cut ∙ ap (λ bytes. take end text ++ crlf ++ bytes) is ∙ sym (append_assoc (take end text ++ crlf) line tail)

  more_from : (tail : List ℕ) → rest ≡ line ++ tail → (((behind ≡ []) × (tail ≡ [])) ⊎ (tail ≡ crlf ++ behind)) → Reached text (end + (2 + length line)) behind
  more_from tail is ends =
      let filled = blank-some line (first-blank rest line behind first blank) in
      let whole = joined_with tail is in
      let cut_here = front_of text (take end text ++ crlf ++ line) tail (end + (2 + length line)) whole long in
      record {
        within = within_of text (take end text ++ crlf ++ line) tail (end + (2 + length line)) whole long;
        some = omega arith;
        header = rw cut_here (reached.header ∙ ap (in_front (take end text)) (header-front rest line behind first filled)
            ∙ in_front-in_front (take end text) line (whole_header behind) (first-blank rest line behind first blank));
        bytes = ⊎_elim
            (λ none. inl (
              none.0,
              sym long ∙ sym (ap length (whole ∙ ap (λ bytes. (take end text ++ crlf ++ line) ++ bytes) none.1
                  ∙ append-nil (take end text ++ crlf ++ line))),
            ))
            (λ there. inr (rw cut_here (whole ∙ ap (λ bytes. (take end text ++ crlf ++ line) ++ bytes) there
            ∙ sym (append_assoc (take end text ++ crlf ++ line) crlf behind))))
            ends;
      }

  pub reached-more : Reached text (end + (2 + length line)) behind
  reached-more = ⊎_elim
      (λ parted. more_from (crlf ++ behind) (parted.bytes ∙ append_assoc line crlf behind) (inr refl))
      (λ alone. more_from [] (alone.bytes ∙ sym (append-nil line)) (inl (alone.none, refl)))
      first

pub reached-shorter : (text : List ℕ) (end : ℕ) (rest : List ℕ) → Reached text end rest → length rest < length text
reached-shorter text end rest reached = ⊎_elim
    (λ ended. omega (arith, ap length ended.0, ended.1, reached.some))
    (λ here. omega (arith, ap length here, length-append (take end text ++ crlf) rest, length-append (take end text) crlf))
    reached.bytes

-- What the lines of a text are, and that what stands behind an empty line is no header.
use Rattle.std.proofs.Common.{◌≡◌, inl, inr, ℕ, zero, suc, ◌+◌, true, false, List, [], ◌∷◌, ◌++◌, refl, sym, ◌∙◌, ap, arith, get_or}
use Rattle.std.proofs.lemmas.Bool.{cases_Bool, both_ways, and_right}
use Rattle.std.proofs.lemmas.List.{append_assoc}
use Rattle.std.proofs.lemmas.List.Elements.{All-nil, All-cons, All-head, All-tail}
use Rattle.std.specs.Prelude.{◌==◌, All}
use Rattle.std.specs.List.{onto_first}
use Rattle.mail_header.specs.Header.{crlf, is_crlf, lines_of, before_empty, header_lines}
use Rattle.mail_header.specs.Joining.{with_crlfs, HoldsNoCrlf}
use Rattle.mail_header.proofs.Lines.{crlf_is}
use Rattle.mail_header.proofs.Whole.{BeginsAs, lines-begin}

-- a byte in front of lines of which there is one
onto_first-append : (byte : ℕ) (lines others : List (List ℕ)) (text : List ℕ) → BeginsAs lines text →
    onto_first byte (lines ++ others) ≡ onto_first byte lines ++ others
onto_first-append byte lines others text begins = rw begins.is refl

-- the lines on both sides of a CRLF
lines-split : (front rest : List ℕ) → lines_of (front ++ (crlf ++ rest)) ≡ lines_of front ++ lines_of rest
lines-split [] rest = refl
lines-split (first ∷ []) rest = rw (and_right (first == 13) false refl) refl
lines-split (first ∷ second ∷ front) rest = elim (cases_Bool (is_crlf first second)) [
  | inl ends ↦ rw ends (ap (λ lines. [] ∷ lines) (lines-split front rest))
  | inr goes ↦ rw goes (ap (onto_first first) (lines-split (second ∷ front) rest)
      ∙ onto_first-append first (lines_of (second ∷ front)) (lines_of rest) (second ∷ front) (lines-begin (second ∷ front)))
]

before_empty-append : (lines others : List (List ℕ)) → before_empty (lines ++ [] ∷ others) ≡ before_empty lines
before_empty-append [] others = refl
before_empty-append ([] ∷ lines) others = refl
before_empty-append ((byte ∷ line) ∷ lines) others = ap (λ all. (byte ∷ line) ∷ all) (before_empty-append lines others)

pub header_alone : (header body : List ℕ) → header_lines (header ++ crlf ++ crlf ++ body) ≡ header_lines header
header_alone header body =
    ap header_lines (append_assoc (header ++ crlf) crlf body ∙ append_assoc header crlf (crlf ++ body))
    ∙ ap before_empty (lines-split header (crlf ++ body))
    ∙ before_empty-append (lines_of header) (lines_of body)

onto_one : (byte : ℕ) (line : List ℕ) (lines : List (List ℕ)) → with_crlfs (onto_first byte (line ∷ lines)) ≡ byte ∷ with_crlfs (line ∷ lines)
onto_one byte line [] = refl
onto_one byte line (next ∷ lines) = refl

with_crlfs-onto : (byte : ℕ) (lines : List (List ℕ)) (text : List ℕ) → BeginsAs lines text → with_crlfs (onto_first byte lines) ≡ byte ∷ with_crlfs lines
with_crlfs-onto byte lines text begins = rw begins.is (onto_one byte begins.first begins.others)

with_crlfs-cons : (lines : List (List ℕ)) (text : List ℕ) → BeginsAs lines text → with_crlfs ([] ∷ lines) ≡ crlf ++ with_crlfs lines
with_crlfs-cons lines text begins = rw begins.is refl

pub together : (text : List ℕ) → with_crlfs (lines_of text) ≡ text
together [] = refl
together (first ∷ []) = refl
together (first ∷ second ∷ rest) = elim (cases_Bool (is_crlf first second)) [
  | inl ends ↦
      let both = crlf_is first second ends in
      rw ends (with_crlfs-cons (lines_of rest) rest (lines-begin rest) ∙ ap (λ bytes. crlf ++ bytes) (together rest) ∙ rw (both.0, both.1) refl)
  | inr goes ↦ rw goes (with_crlfs-onto first (lines_of (second ∷ rest)) (second ∷ rest) (lines-begin (second ∷ rest))
      ∙ ap (λ bytes. first ∷ bytes) (together (second ∷ rest)))
]

is_end : (first second : ℕ) → first ≡ 13 → second ≡ 10 → is_crlf first second ≡ true
is_end first second cr lf = rw (cr, lf) refl

clean-cons : (byte : ℕ) (line : List ℕ) → HoldsNoCrlf line → (byte ≡ 13 → get_or line 0 0 ≡ 10 → ⊥) → HoldsNoCrlf (byte ∷ line)
clean-cons byte line clean first zero cr lf = first cr lf
clean-cons byte line clean first (suc at) cr lf =
    let same : suc at + 1 ≡ suc (at + 1) = omega arith in
    clean at cr (sym (ap (λ n. get_or (byte ∷ line) n 0) same) ∙ lf)

-- the first byte of the first line
abbrev first_byte : List (List ℕ) → ℕ
first_byte [] = 0
first_byte (line ∷ lines) = get_or line 0 0

first_byte-onto : (byte : ℕ) (lines : List (List ℕ)) → first_byte (onto_first byte lines) ≡ byte
first_byte-onto byte [] = refl
first_byte-onto byte (line ∷ lines) = refl

begins_lf : (byte : ℕ) (rest : List ℕ) → first_byte (lines_of (byte ∷ rest)) ≡ 10 → byte ≡ 10
begins_lf byte [] is = is
begins_lf byte (second ∷ rest) is = elim (cases_Bool (is_crlf byte second)) [
  | inl ends ↦ absurd (cc (rw ends at is))
  | inr goes ↦ sym (first_byte-onto byte (lines_of (second ∷ rest))) ∙ rw goes at is
]

onto-clean : (byte : ℕ) (lines : List (List ℕ)) → All HoldsNoCrlf lines → (byte ≡ 13 → first_byte lines ≡ 10 → ⊥) → All HoldsNoCrlf (onto_first byte lines)
onto-clean byte [] all first = All-cons HoldsNoCrlf (byte ∷ []) [] (clean-cons byte [] (λ at cr lf. cc cr) (λ _ lf. cc lf)) (All-nil HoldsNoCrlf)
onto-clean byte (line ∷ lines) all first = All-cons HoldsNoCrlf (byte ∷ line) lines
    (clean-cons byte line (All-head HoldsNoCrlf line lines all) first) (All-tail HoldsNoCrlf line lines all)

pub apart : (text : List ℕ) → All HoldsNoCrlf (lines_of text)
apart [] = All-cons HoldsNoCrlf [] [] (λ at cr lf. cc cr) (All-nil HoldsNoCrlf)
apart (first ∷ []) = onto-clean first [] (All-nil HoldsNoCrlf) (λ _ lf. cc lf)
apart (first ∷ second ∷ rest) = elim (cases_Bool (is_crlf first second)) [
  | inl ends ↦ rw ends (All-cons HoldsNoCrlf [] (lines_of rest) (λ at cr lf. cc cr) (apart rest))
  | inr goes ↦ rw goes (onto-clean first (lines_of (second ∷ rest)) (apart (second ∷ rest))
      (λ cr lf. both_ways _ goes (is_end first second cr (begins_lf second rest lf))))
]

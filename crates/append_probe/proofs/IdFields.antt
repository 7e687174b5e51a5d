-- A text's Message-ID fields, as they are told, have the identifier that the text has.
use Rattle.std.proofs.Common.{◌≡◌, inl, inr, ℕ, zero, suc, ◌+◌, ◌<◌, Bool, true, false, cond, eqb, List, [], ◌∷◌, ◌++◌, Option}
use Rattle.std.proofs.Common.{Some, None, length, take, drop, refl, sym, ◌∙◌, ap, arith, add-one, get_or}
use Rattle.std.proofs.lemmas.Bool.{cases_Bool, cond_both, cond-false, eqb-true, and_right}
use Rattle.std.proofs.lemmas.List.{append_assoc}
use Rattle.std.proofs.lemmas.List.Elements.{All-nil, All-cons, All-head, All-tail}
use Rattle.std.specs.Prelude.{◌==◌, All}
use Rattle.std.specs.List.{onto_first, position}
use Rattle.std.specs.Str.{bytes_eq}
use Rattle.mail_header.specs.Field.{FieldText, is_colon, parted_at, field_of}
use Rattle.mail_header.specs.Folding.{is_blank, begins_blank, in_front, whole_lines, whole_header}
use Rattle.mail_header.specs.Header.{crlf, is_crlf, lines_of, before_empty}
use Rattle.mail_header.specs.Identifier.{PlacedBody, is_id_name, id_body, with_some, id_bodies_from, id_bodies, id_of}
use Rattle.mail_header.specs.Joining.{HoldsNoCrlf}
use Rattle.mail_header.proofs.Joined.{apart}
use Rattle.mail_header.proofs.Lines.{lines-whole}
use Rattle.mail_header.proofs.Whole.{BeginsAs, lines-begin, header-front, in_front-in_front}
use Rattle.imap_model.specs.ToldRows.{is_id_field, id_lines, id_fields}
use Rattle.append_probe.specs.Marked.{is_only, has_id}

-- a byte in front of lines of which there is one
onto_first-append : (byte : ℕ) (lines others : List (List ℕ)) (text : List ℕ) → BeginsAs lines text →
    onto_first byte (lines ++ others) ≡ onto_first byte lines ++ others
onto_first-append byte lines others text begins = rw begins.is refl

-- the lines on both sides of a CRLF
lines-split : (front rest : List ℕ) → lines_of (front ++ (crlf ++ rest)) ≡ lines_of front ++ lines_of rest
lines-split [] rest = refl
lines-split (first ∷ []) rest = rw (and_right (first == 13) false refl) refl
lines-split (first ∷ second ∷ front) rest = elim (cases_Bool (is_crlf first second)) [
  | inl ends ↦ rw ends (ap (λ lines. [] ∷ lines) (lines-split front rest))
  | inr goes ↦ rw goes (ap (onto_first first) (lines-split (second ∷ front) rest)
      ∙ onto_first-append first (lines_of (second ∷ front)) (lines_of rest) (second ∷ front) (lines-begin (second ∷ front)))
]

-- a header that begins with this line and a CRLF is the line in front of the header of what is behind
abbrev Stands : List ℕ → Type 0
Stands line = (rest : List ℕ) → whole_header (line ++ (crlf ++ rest)) ≡ in_front line (whole_header rest)

no_crlf : (line : List ℕ) → HoldsNoCrlf line → lines_of line ≡ line ∷ []
no_crlf line clean = lines-whole line (λ k has. clean k has.cr (ap (λ n. get_or line n 0) (add-one k) ∙ has.lf))

raw_stands : (line : List ℕ) → HoldsNoCrlf line → 0 < length line → Stands line
raw_stands line clean some rest = header-front (line ++ (crlf ++ rest)) line rest
    (inl (record {
      lines = lines-split line rest ∙ ap (λ (lines : List (List ℕ)). lines ++ lines_of rest) (no_crlf line clean);
      bytes = sym (append_assoc line crlf rest);
    }))
    some

-- a line that goes on with a line
more_stands : (line next : List ℕ) → Stands line → Stands next → begins_blank next ≡ true → Stands (line ++ crlf ++ next)
more_stands line next one two blank rest =
    ap whole_header (append_assoc (line ++ crlf) next (crlf ++ rest) ∙ append_assoc line crlf (next ++ (crlf ++ rest)))
    ∙ one (next ++ (crlf ++ rest))
    ∙ ap (in_front line) (two rest)
    ∙ in_front-in_front line next (whole_header rest) blank

front_stands : (line : List ℕ) (lines : List (List ℕ)) → Stands line → All Stands lines → All Stands (in_front line lines)
front_stands line [] one all = All-cons Stands line [] one all
front_stands line (next ∷ lines) one all =
    cond_both (begins_blank next) ((line ++ crlf ++ next) ∷ lines) (line ∷ next ∷ lines) (λ (l : List (List ℕ)). All Stands l)
    (λ blank. All-cons Stands (line ++ crlf ++ next) lines (more_stands line next one (All-head Stands next lines all) blank)
    (All-tail Stands next lines all))
    (λ _. All-cons Stands line (next ∷ lines) one all)

lines_stand : (lines : List (List ℕ)) → All HoldsNoCrlf lines → All Stands (whole_lines (before_empty lines))
lines_stand [] clean = All-nil Stands
lines_stand ([] ∷ lines) clean = All-nil Stands
lines_stand ((byte ∷ line) ∷ lines) clean = front_stands (byte ∷ line) (whole_lines (before_empty lines))
    (raw_stands (byte ∷ line) (All-head HoldsNoCrlf (byte ∷ line) lines clean) (omega arith))
    (lines_stand lines (All-tail HoldsNoCrlf (byte ∷ line) lines clean))

-- the name of a Message-ID field begins with no space or tab
name_first : (byte : ℕ) (rest : List ℕ) → is_id_name (byte ∷ rest) ≡ true → is_blank byte ≡ false
name_first byte rest is = elim (cases_Bool (byte == 32)) [
  | inl space ↦ let same = eqb-true byte 32 space in absurd (cc (rw same at is))
  | inr other ↦ elim (cases_Bool (byte == 9)) [
    | inl tab ↦ let same = eqb-true byte 9 tab in absurd (cc (rw same at is))
    | inr none ↦ rw (other, none) refl
  ]
]

parted_first : (byte : ℕ) (rest : List ℕ) (at : Option ℕ) → is_id_field (parted_at (byte ∷ rest) at) ≡ true → is_blank byte ≡ false
parted_first byte rest None is = absurd (cc is)
parted_first byte rest (Some zero) is = absurd (cc is)
parted_first byte rest (Some (suc at)) is =
    cond_both (eqb (suc at) 0) None (Some (record { name = take (suc at) (byte ∷ rest); body = drop (suc at + 1) (byte ∷ rest) }))
    (λ (o : Option FieldText). is_id_field o ≡ true → is_blank byte ≡ false)
    (λ _ e. absurd (cc e))
    (λ _ e. name_first byte (take at rest) e)
    is

field_first : (line : List ℕ) → is_id_field (field_of line) ≡ true → begins_blank line ≡ false
field_first [] is = refl
field_first (byte ∷ rest) is = parted_first byte rest (position is_colon (byte ∷ rest)) is

-- those of the lines that are fields named Message-ID
abbrev kept : List (List ℕ) → List (List ℕ)
kept [] = []
kept (line ∷ lines) = cond (is_id_field (field_of line)) (line ∷ kept lines) (kept lines)

-- a field named Message-ID never goes on with the line before it
apart_from : (line : List ℕ) (lines : List (List ℕ)) → in_front line (kept lines) ≡ line ∷ kept lines
apart_from line [] = refl
apart_from line (next ∷ lines) =
    cond_both (is_id_field (field_of next)) (next ∷ kept lines) (kept lines) (λ (l : List (List ℕ)). in_front line l ≡ line ∷ l)
    (λ is. cond-false (begins_blank next) ((line ++ crlf ++ next) ∷ kept lines) (line ∷ next ∷ kept lines) (field_first next is))
    (λ _. apart_from line lines)

-- the header of what is told of lines has those of them that are fields named Message-ID
told_header : (lines : List (List ℕ)) → All Stands lines → whole_header (id_lines lines) ≡ kept lines
told_header [] all = refl
told_header (line ∷ lines) all = elim (cases_Bool (is_id_field (field_of line))) [
  | inl is ↦ rw is (ap whole_header (append_assoc line crlf (id_lines lines)) ∙ All-head Stands line lines all (id_lines lines)
      ∙ ap (in_front line) (told_header lines (All-tail Stands line lines all)) ∙ apart_from line lines)
  | inr isnt ↦ rw isnt (told_header lines (All-tail Stands line lines all))
]

-- bodies without their places
abbrev texts : List PlacedBody → List (List ℕ)
texts [] = []
texts (b ∷ bs) = b.body ∷ texts bs

abbrev only_text : List ℕ → List (List ℕ) → Bool
only_text id [] = false
only_text id (body ∷ []) = bytes_eq (id_of body) id
only_text id (body ∷ other ∷ bodies) = false

only_by_text : (id : List ℕ) (bs : List PlacedBody) → is_only id bs ≡ only_text id (texts bs)
only_by_text id [] = refl
only_by_text id (b ∷ []) = refl
only_by_text id (b ∷ c ∷ bs) = refl

same_texts : (a b : ℕ) (field : Option FieldText) (xs ys : List PlacedBody) → texts xs ≡ texts ys →
    texts (with_some (id_body a field) xs) ≡ texts (with_some (id_body b field) ys)
same_texts a b None xs ys same = same
same_texts a b (Some field) xs ys same = elim (cases_Bool (is_id_name field.name)) [
  | inl is ↦ rw is (ap (λ (l : List (List ℕ)). field.body ∷ l) same)
  | inr isnt ↦ rw isnt same
]

no_body : (at : ℕ) (field : Option FieldText) (xs : List PlacedBody) → is_id_field field ≡ false → with_some (id_body at field) xs ≡ xs
no_body at None xs isnt = refl
no_body at (Some field) xs isnt = rw isnt refl

kept_texts : (lines : List (List ℕ)) (a b : ℕ) → texts (id_bodies_from a (kept lines)) ≡ texts (id_bodies_from b lines)
kept_texts [] a b = refl
kept_texts (line ∷ lines) a b = elim (cases_Bool (is_id_field (field_of line))) [
  | inl is ↦ rw is (same_texts a b (field_of line)
      (id_bodies_from (a + length line + 2) (kept lines)) (id_bodies_from (b + length line + 2) lines)
      (kept_texts lines (a + length line + 2) (b + length line + 2)))
  | inr isnt ↦ rw isnt (kept_texts lines a (b + length line + 2)
      ∙ sym (ap texts (no_body b (field_of line) (id_bodies_from (b + length line + 2) lines) isnt)))
]

told_texts : (text : List ℕ) → texts (id_bodies (id_fields text)) ≡ texts (id_bodies text)
told_texts text =
    ap (λ (lines : List (List ℕ)). texts (id_bodies_from 0 lines))
    (told_header (whole_header text) (lines_stand (lines_of text) (apart text)))
    ∙ kept_texts (whole_header text) 0 0

-- a text's Message-ID fields, as they are told, have the identifier that the text has
pub fields_have_id : (id text : List ℕ) → has_id id (id_fields text) ≡ has_id id text
fields_have_id id text =
    only_by_text id (id_bodies (id_fields text)) ∙ ap (only_text id) (told_texts text) ∙ sym (only_by_text id (id_bodies text))

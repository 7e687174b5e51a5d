-- One text between brackets is made of parts in one way.
use Rattle.std.proofs.Common.{◌≡◌, ℕ, ◌+◌, true, false, List, [], ◌∷◌, ◌++◌, length, Option, Some, refl, ap, sym, ◌∙◌, subst, arith}
use Rattle.std.proofs.Common.{append_assoc, append-nil, get_or}
use Rattle.std.proofs.lemmas.List.{append_cancel_left}
use Rattle.std.specs.List.{AllByRecursion, flat_map}
use Rattle.std.specs.Char.{is_ascii_digit}
use Rattle.std.specs.Str.Parse.{IsNumeral}
use Rattle.mail_base.specs.Frames.{header}
use Rattle.mail_base.specs.declared.span.Span.{Span}
use Rattle.imap_model.specs.Parts.{Part, Literal, part_text, literals_from, bytes}
use Rattle.imap_model.specs.Strings.{Character, IsCharacter, character_text, quoted_text}
use Rattle.imap_model.specs.Values.{Piece, Open, Close, Single, Quoted, Octets, IsPiece, piece_parts, NotBracket, IsSection}
use Rattle.mail_base.proofs.SameFront.{length_same}
use Rattle.imap_model.proofs.Cutting.{run_same}
use Rattle.imap_response.specs.Left.{Left}
use Rattle.imap_response.proofs.spelling.Names.{from_all}
use Rattle.imap_response.proofs.spelling.Numbers.{digits_pass}
use Rattle.imap_response.proofs.spelling.Passing.{Passes, place, text_of, split, same_left, pass_bytes}
use Rattle.imap_response.proofs.spelling.Quoted.{IsQuotedFront, quoted_reads}
use Rattle.imap_response.proofs.spelling.Values.{is_single}

-- behind the same parts the same is left
pub same_mid : (left : Left) (parts : List Part) (one other : Left) → Passes left parts one → Passes left parts other → one ≡ other
same_mid left parts one other first second =
    same_left one other (first.total ∙ sym second.total)
    (append_cancel_left (text_of parts) one.text other.text (sym first.text ∙ second.text))
    (append_cancel_left (literals_from (place left) parts) one.literals other.literals (sym first.literals ∙ second.literals))

-- the first byte of a piece
abbrev head : Piece → ℕ
head Open = 40
head Close = 41
head (Single byte) = byte
head (Quoted cs) = 34
head (Octets digits octets) = 123

first_of : (piece : Piece) (pieces : List Piece) (tail : List Part) (left behind : Left) →
    Passes left (flat_map piece_parts (piece ∷ pieces) ++ tail) behind → get_or left.text 0 0 ≡ head piece
first_of Open pieces tail left behind passes = ap (λ (t : List ℕ). get_or t 0 0) passes.text
first_of Close pieces tail left behind passes = ap (λ (t : List ℕ). get_or t 0 0) passes.text
first_of (Single byte) pieces tail left behind passes = ap (λ (t : List ℕ). get_or t 0 0) passes.text
first_of (Quoted cs) pieces tail left behind passes = ap (λ (t : List ℕ). get_or t 0 0) passes.text
first_of (Octets digits octets) pieces tail left behind passes = ap (λ (t : List ℕ). get_or t 0 0) passes.text

-- two pieces that begin alike are of one kind
data SameKind : Piece → Piece → Type 0 where
  opens : SameKind Open Open
  closes_ : SameKind Close Close
  singles_ : {byte other : ℕ} → byte ≡ other → SameKind (Single byte) (Single other)
  quotes : {cs others : List Character} → SameKind (Quoted cs) (Quoted others)
  literals : {digits octets others more : List ℕ} → SameKind (Octets digits octets) (Octets others more)

not_single : (byte c : ℕ) → is_single byte ≡ true → byte ≡ c → is_single c ≡ false → ⊥
not_single byte c is same fails = let now : is_single c ≡ true = ap is_single (sym same) ∙ is in cc

same_kind : (one other : Piece) → IsPiece one → IsPiece other → head one ≡ head other → SameKind one other
same_kind Open Open is is' same = opens
same_kind Open Close is is' same = absurd (let e : ◌≡◌ {A = ℕ} 40 41 = same in omega (arith, e))
same_kind Open (Single byte) is is' same = absurd (not_single byte 40 is' (sym same) refl)
same_kind Open (Quoted cs) is is' same = absurd (let e : ◌≡◌ {A = ℕ} 40 34 = same in omega (arith, e))
same_kind Open (Octets digits octets) is is' same = absurd (let e : ◌≡◌ {A = ℕ} 40 123 = same in omega (arith, e))
same_kind Close Open is is' same = absurd (let e : ◌≡◌ {A = ℕ} 41 40 = same in omega (arith, e))
same_kind Close Close is is' same = closes_
same_kind Close (Single byte) is is' same = absurd (not_single byte 41 is' (sym same) refl)
same_kind Close (Quoted cs) is is' same = absurd (let e : ◌≡◌ {A = ℕ} 41 34 = same in omega (arith, e))
same_kind Close (Octets digits octets) is is' same = absurd (let e : ◌≡◌ {A = ℕ} 41 123 = same in omega (arith, e))
same_kind (Single byte) Open is is' same = absurd (not_single byte 40 is same refl)
same_kind (Single byte) Close is is' same = absurd (not_single byte 41 is same refl)
same_kind (Single byte) (Single other) is is' same = singles_ same
same_kind (Single byte) (Quoted cs) is is' same = absurd (not_single byte 34 is same refl)
same_kind (Single byte) (Octets digits octets) is is' same = absurd (not_single byte 123 is same refl)
same_kind (Quoted cs) Open is is' same = absurd (let e : ◌≡◌ {A = ℕ} 34 40 = same in omega (arith, e))
same_kind (Quoted cs) Close is is' same = absurd (let e : ◌≡◌ {A = ℕ} 34 41 = same in omega (arith, e))
same_kind (Quoted cs) (Single byte) is is' same = absurd (not_single byte 34 is' (sym same) refl)
same_kind (Quoted cs) (Quoted others) is is' same = quotes
same_kind (Quoted cs) (Octets digits octets) is is' same = absurd (let e : ◌≡◌ {A = ℕ} 34 123 = same in omega (arith, e))
same_kind (Octets digits octets) Open is is' same = absurd (let e : ◌≡◌ {A = ℕ} 123 40 = same in omega (arith, e))
same_kind (Octets digits octets) Close is is' same = absurd (let e : ◌≡◌ {A = ℕ} 123 41 = same in omega (arith, e))
same_kind (Octets digits octets) (Single byte) is is' same = absurd (not_single byte 123 is' (sym same) refl)
same_kind (Octets digits octets) (Quoted cs) is is' same = absurd (let e : ◌≡◌ {A = ℕ} 123 34 = same in omega (arith, e))
same_kind (Octets digits octets) (Octets others more) is is' same = literals

-- two pieces in front of one line are the same parts
front_is : (piece : Piece) (pieces : List Piece) (tail : List Part) (left behind : Left) →
    Passes left (flat_map piece_parts (piece ∷ pieces) ++ tail) behind →
    (mid : Left) × Passes left (piece_parts piece) mid × Passes mid (flat_map piece_parts pieces ++ tail) behind
front_is piece pieces tail left behind passes =
    split left (piece_parts piece) (flat_map piece_parts pieces ++ tail) behind
    (subst (λ (p : List Part). Passes left p behind) (append_assoc (piece_parts piece) (flat_map piece_parts pieces) tail) passes)

some_same : (m k : ℕ) → ◌≡◌ {A = Option ℕ} (Some m) (Some k) → m ≡ k
some_same m k is = cc

quoted_same : (cs others : List Character) (r s : List ℕ) → AllByRecursion IsCharacter cs → AllByRecursion IsCharacter others →
    quoted_text cs ++ r ≡ quoted_text others ++ s → quoted_text cs ≡ quoted_text others
quoted_same cs others r s lawful lawful' same =
    let more : List ℕ = (flat_map character_text cs ++ 34 ∷ []) ++ r in
    let one : IsQuotedFront (34 ∷ ((flat_map character_text cs ++ 34 ∷ []) ++ r)) cs r = record { lawful = lawful; whole = refl } in
    let two : IsQuotedFront (34 ∷ ((flat_map character_text cs ++ 34 ∷ []) ++ r)) others s = record { lawful = lawful'; whole = same } in
    let len = some_same (length (quoted_text cs)) (length (quoted_text others))
    (sym (quoted_reads ((flat_map character_text cs ++ 34 ∷ []) ++ r) cs r one)
    ∙ quoted_reads ((flat_map character_text cs ++ 34 ∷ []) ++ r) others s two) in
    (length_same (quoted_text cs) (quoted_text others) r s len same).0

tail_same : (s t : List ℕ) → 123 ∷ s ≡ 123 ∷ t → s ≡ t
tail_same s t is = cc

digits_same : (digits others x y : List ℕ) → IsNumeral 10 digits → IsNumeral 10 others →
    123 ∷ ((digits ++ 125 ∷ []) ++ x) ≡ 123 ∷ ((others ++ 125 ∷ []) ++ y) → (digits ≡ others) × (x ≡ y)
digits_same digits others x y numeral numeral' same =
    let inner : (digits ++ 125 ∷ []) ++ x ≡ (others ++ 125 ∷ []) ++ y = tail_same ((digits ++ 125 ∷ []) ++ x) ((others ++ 125 ∷ []) ++ y) same in
    let both = run_same is_ascii_digit digits others (125 ∷ x) (125 ∷ y) (from_all is_ascii_digit digits (digits_pass digits numeral.1))
    (from_all is_ascii_digit others (digits_pass others numeral'.1)) refl refl
    (sym (append_assoc digits (125 ∷ []) x) ∙ inner ∙ append_assoc others (125 ∷ []) y) in
    (both.0, (let rest = both.1 in cc))

first_span : (one other : Span) (s t : List Span) → one ∷ s ≡ other ∷ t → one ≡ other
first_span one other s t is = cc

sizes_same : (low k low' k' : ℕ) → low ≡ low' → low + k ≡ low' + k' → k ≡ k'
sizes_same low k low' k' a b = omega arith

rest_of : (x y r s : List ℕ) → 13 ∷ 10 ∷ (x ++ r) ≡ 13 ∷ 10 ∷ (y ++ s) → x ++ r ≡ y ++ s
rest_of x y r s is = cc

literal_assoc : (digits octets r : List ℕ) → (part_text (Literal digits octets) ++ []) ++ r ≡ 123 ∷ ((digits ++ 125 ∷ []) ++ (13 ∷ 10 ∷ (octets ++ r)))
literal_assoc digits octets r =
    ap (λ (t : List ℕ). t ++ r) (append-nil (part_text (Literal digits octets)))
    ∙ ap (λ (t : List ℕ). 123 ∷ t) (append_assoc (digits ++ 125 ∷ []) (13 ∷ 10 ∷ octets) r)

literal_same : (left one other : Left) (digits octets others more : List ℕ) → Passes left (Literal digits octets ∷ []) one →
    Passes left (Literal others more ∷ []) other → Literal digits octets ≡ Literal others more
literal_same left one other digits octets others more first second =
    let text : 123 ∷ ((digits ++ 125 ∷ []) ++ (13 ∷ 10 ∷ (octets ++ one.text))) ≡ 123 ∷ ((others ++ 125 ∷ []) ++ (13 ∷ 10 ∷ (more ++ other.text))) =
    sym (literal_assoc digits octets one.text) ∙ sym first.text ∙ second.text ∙ literal_assoc others more other.text in
    let both = digits_same digits others (13 ∷ 10 ∷ (octets ++ one.text)) (13 ∷ 10 ∷ (more ++ other.text)) first.lawful.0 second.lawful.0 text in
    let span = first_span (record {
      low = place left + length (header digits) + 2;
      high =
          place left + length (header digits) + 2 + length octets;
    }) (record {
      low = place left + length (header others) + 2;
      high =
          place left + length (header others) + 2 + length more;
    }) one.literals other.literals (sym first.literals ∙ second.literals) in
    let size = sizes_same (place left + length (header digits) + 2) (length octets) (place left + length (header others) + 2) (length more)
    (ap (λ (s : Span). s.low) span) (ap (λ (s : Span). s.high) span) in
    let tails = length_same octets more one.text other.text size (rest_of octets more one.text other.text both.1) in
    ap (λ (d : List ℕ). Literal d octets) both.0 ∙ ap (Literal others) tails.0

piece_same : {one other : Piece} → SameKind one other → (left mid mid' : Left) → IsPiece one → IsPiece other →
    Passes left (piece_parts one) mid → Passes left (piece_parts other) mid' → piece_parts one ≡ piece_parts other
piece_same opens left mid mid' is is' first second = refl
piece_same closes_ left mid mid' is is' first second = refl
piece_same (singles_ same) left mid mid' is is' first second = ap (λ (b : ℕ). bytes (b ∷ [])) same
piece_same (quotes {cs = cs} {others = others}) left mid mid' is is' first second =
    ap (λ (t : List ℕ). bytes t) (quoted_same cs others mid.text mid'.text is is'
    (sym (pass_bytes left (quoted_text cs) mid first) ∙ pass_bytes left (quoted_text others) mid' second))
piece_same (literals {digits = digits} {octets = octets} {others = others} {more = more}) left mid mid' is is' first second =
    ap (λ (p : Part). p ∷ []) (literal_same left mid mid' digits octets others more first second)

not_end : (piece : Piece) → IsPiece piece → NotBracket piece → head piece ≡ 93 → ⊥
not_end Open is other same = let e : ◌≡◌ {A = ℕ} 40 93 = same in omega (arith, e)
not_end Close is other same = let e : ◌≡◌ {A = ℕ} 41 93 = same in omega (arith, e)
not_end (Single byte) is other same = other same
not_end (Quoted cs) is other same = let e : ◌≡◌ {A = ℕ} 34 93 = same in omega (arith, e)
not_end (Octets digits octets) is other same = let e : ◌≡◌ {A = ℕ} 123 93 = same in omega (arith, e)

end_first : (left behind : Left) → Passes left (bytes (93 ∷ [])) behind → get_or left.text 0 0 ≡ 93
end_first left behind passes = ap (λ (t : List ℕ). get_or t 0 0) passes.text

pub pieces_same : (p q : List Piece) (left one other : Left) → AllByRecursion IsPiece p → AllByRecursion IsPiece q →
    AllByRecursion NotBracket p → AllByRecursion NotBracket q
    → Passes left (flat_map piece_parts p ++ bytes (93 ∷ [])) one → Passes left (flat_map piece_parts q ++ bytes (93 ∷ [])) other →
    flat_map piece_parts p ≡ flat_map piece_parts q
pieces_same [] [] left one other all all' not_ not_' first second = refl
pieces_same [] (d ∷ q) left one other all all' not_ not_' first second =
    absurd (not_end d all'.0 not_'.0 (sym (first_of d q (bytes (93 ∷ [])) left other second) ∙ end_first left one first))
pieces_same (c ∷ p) [] left one other all all' not_ not_' first second =
    absurd (not_end c all.0 not_.0 (sym (first_of c p (bytes (93 ∷ [])) left one first) ∙ end_first left other second))
pieces_same (c ∷ p) (d ∷ q) left one other all all' not_ not_' first second =
    let begins = sym (first_of c p (bytes (93 ∷ [])) left one first) ∙ first_of d q (bytes (93 ∷ [])) left other second in
    let front = front_is c p (bytes (93 ∷ [])) left one first in
    let back = front_is d q (bytes (93 ∷ [])) left other second in
    let parts = piece_same (same_kind c d all.0 all'.0 begins) left front.0 back.0 all.0 all'.0 front.1 back.1 in
    let mid = same_mid left (piece_parts d) front.0 back.0 (subst (λ (x : List Part). Passes left x front.0) parts front.1) back.1 in
    let rest = pieces_same p q back.0 one other all.1 all'.1 not_.1 not_'.1
    (subst (λ (l : Left). Passes l (flat_map piece_parts p ++ bytes (93 ∷ [])) one) mid front.2) back.2 in
    ap (λ (x : List Part). x ++ flat_map piece_parts p) parts ∙ ap (λ (x : List Part). piece_parts d ++ x) rest

pub section_same : (left one other : Left) (inside inside' : List Part) → IsSection inside → IsSection inside' →
    Passes left (inside ++ bytes (93 ∷ [])) one → Passes left (inside' ++ bytes (93 ∷ [])) other → inside ≡ inside'
section_same left one other inside inside' section section' first second =
    section.3 ∙ pieces_same section.0 section'.0 left one other section.1 section'.1 section.2 section'.2
    (subst (λ (x : List Part). Passes left (x ++ bytes (93 ∷ [])) one) section.3 first)
    (subst (λ (x : List Part). Passes left (x ++ bytes (93 ∷ [])) other) section'.3 second) ∙ sym section'.3

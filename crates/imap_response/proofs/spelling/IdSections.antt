-- The section of identifiers, and where a text began: what is read, and what is spelled.
use Rattle.std.proofs.Common.{◌≡◌, ℕ, ◌<◌, true, false, List, [], ◌∷◌, ◌++◌, length, take, drop, codes, refl, ap, sym, ◌∙◌, subst, inl}
use Rattle.std.proofs.Common.{inr, arith, nat_lt, append-nil, Result, Ok}
use Rattle.std.proofs.lemmas.Bool.{and_parts}
use Rattle.std.proofs.lemmas.Bool.Decides.{nat_tests}
use Rattle.std.proofs.lemmas.List.{take-append-drop}
use Rattle.std.proofs.lemmas.List.Folds.{length-prefix_len}
use Rattle.std.proofs.Math.Seq.{drop-append_seam}
use Rattle.std.specs.Prelude.{◌&&◌, ◌==◌}
use Rattle.std.specs.List.{AllByRecursion, flat_map, prefix_len}
use Rattle.std.specs.Char.{is_ascii_digit}
use Rattle.std.specs.Str.{bytes_eq}
use Rattle.imap_model.specs.Parts.{Part, bytes}
use Rattle.imap_model.specs.Strings.{IsAstring}
use Rattle.imap_model.specs.Values.{is_wide_byte, Piece, Open, Close, Quoted, Octets, IsPiece, piece_parts, NotBracket, IsSection}
use Rattle.imap_model.specs.Words.{SameWord, IsGap}
use Rattle.imap_model.specs.FetchItems.{IsIdSection, IsOrigin}
use Rattle.imap_model.proofs.Cutting.{Stops as Ends}
use Rattle.imap_response.specs.Leaf.{is_space, gap_at, mark_at, named_at, wide_at}
use Rattle.imap_response.specs.Reads.{◌>>=◌}
use Rattle.imap_response.specs.Left.{Left, at_left, mark_in}
use Rattle.imap_response.specs.ReadStrings.{id_field_at}
use Rattle.imap_response.specs.Items.{id_section_at, is_origin, origin_at}
use Rattle.imap_response.proofs.spelling.CodeRows.{space_first}
use Rattle.imap_response.proofs.spelling.IdFields.{field_spells, field_reads}
use Rattle.imap_response.proofs.spelling.Names.{IsNamed, named_spells, named_reads, same_wide, bytes_equal}
use Rattle.imap_response.proofs.NumberLemmas.{digits_front}
use Rattle.imap_response.proofs.spelling.Numbers.{digits_pass, digits_wide}
use Rattle.imap_response.proofs.spelling.Passing.{Passes, Fits, bytes_pass, pass_bytes, pass_left, split, joined, fits_behind, bytes_joined}
use Rattle.imap_response.proofs.spelling.Results.{is_byte, ok_is, ok_first, ok_bind, bind_ok}
use Rattle.imap_response.proofs.spelling.Runs.{AllPass, IsCut, reading_cuts, cut_front, cut_behind, cut_len, all_joined}
use Rattle.imap_response.proofs.spelling.Steps.{repart, gap_front, gap_there, mark_front, mark_there, mark_in_front, mark_in_there}
use Rattle.imap_response.proofs.spelling.Values.{singles, singles_parts, singles_lawful, pieces_joined, lawful_pieces, wide_singles}
use Rattle.imap_response.proofs.spelling.Values.{space_single, not_brackets, wide_other, space_other, not_joined}

-- the section and its bracket
pub record IsIdFront (left behind : Left) : Type 0 where
  pub inside : List Part
  pub section : IsIdSection inside
  pub passes : Passes left (inside ++ bytes (93 ∷ [])) behind

abbrev close_list : Left → Result Left ℕ
close_list list = mark_in 93 list

abbrev behind_field : Left → Result Left ℕ
behind_field field = mark_in 41 field >>= close_list

abbrev behind_open : Left → List ℕ → Result Left ℕ
behind_open left inside = id_field_at (at_left left inside) >>= behind_field

abbrev behind_gap : Left → List ℕ → Result Left ℕ
behind_gap left after = mark_at 40 after >>= behind_open left

abbrev behind_name : Left → List ℕ → Result Left ℕ
behind_name left behind = gap_at behind >>= behind_gap left

pub id_spells : (left behind : Left) → Fits left → id_section_at left ≡ Ok behind → IsIdFront left behind
unfolding id_section_at
id_spells left behind fits is =
    let name = ok_bind (named_at (codes "HEADER.FIELDS") left.text) (behind_name left) behind is in
    let gap = ok_bind (gap_at name.0) (behind_gap left) behind name.2 in
    let inside = ok_bind (mark_at 40 gap.0) (behind_open left) behind gap.2 in
    let field = ok_bind (id_field_at (at_left left inside.0)) behind_field behind inside.2 in
    let list = ok_bind (mark_in 41 field.0) close_list behind field.2 in
    let named = named_spells (codes "HEADER.FIELDS") left.text name.0 name.1 in
    let one = bytes_pass left named.word name.0 fits named.whole in
    let fits1 = fits_behind left (bytes named.word) (at_left left name.0) one in
    let two = gap_front (at_left left name.0) gap.0 fits1 gap.1 in
    let fits2 = fits_behind (at_left left name.0) (bytes two.gap) (at_left left gap.0) two.passes in
    let three = mark_front 40 (at_left left gap.0) inside.0 fits2 inside.1 in
    let fits3 = fits_behind (at_left left gap.0) (bytes (40 ∷ [])) (at_left left inside.0) three in
    let four = field_spells (at_left left inside.0) field.0 fits3 field.1 in
    let fits4 = fits_behind (at_left left inside.0) four.field field.0 four.passes in
    let five = mark_in_front 41 field.0 list.0 fits4 list.1 in
    let fits5 = fits_behind field.0 (bytes (41 ∷ [])) list.0 five in
    let six = mark_in_front 93 list.0 behind fits5 list.2 in
    let front = repart left (at_left left inside.0) ((bytes named.word ++ bytes two.gap) ++ bytes (40 ∷ [])) (bytes (named.word ++ two.gap ++ 40 ∷ []))
    (ap (λ (p : List Part). p ++ bytes (40 ∷ [])) (sym (bytes_joined named.word two.gap)) ∙ sym (bytes_joined (named.word ++ two.gap) (40 ∷ [])))
    (joined left (bytes named.word ++ bytes two.gap) (at_left left gap.0) (bytes (40 ∷ [])) (at_left left inside.0)
    (joined left (bytes named.word) (at_left left name.0) (bytes two.gap) (at_left left gap.0) one two.passes) three) in
    let with_field = joined left (bytes (named.word ++ two.gap ++ 40 ∷ [])) (at_left left inside.0) four.field field.0 front four.passes in
    let with_list = joined left (bytes (named.word ++ two.gap ++ 40 ∷ []) ++ four.field) field.0 (bytes (41 ∷ [])) list.0 with_field five in
    record {
      inside = bytes (named.word ++ two.gap ++ 40 ∷ []) ++ four.field ++ bytes (41 ∷ []);
      section = record {
        name = named.word;
        named = named.same;
        gap = two.gap;
        spaces = two.spaces;
        field = four.field;
        value =
            four.value;
        astring = four.astring;
        is_id = four.same;
        whole = refl;
      };
      passes = joined left (bytes (named.word ++ two.gap ++ 40 ∷ []) ++ four.field ++ bytes (41 ∷ [])) list.0 (bytes (93 ∷ [])) behind with_list six;
    }

pub gap_wide : (gap rest text : List ℕ) → IsGap gap → text ≡ gap ++ rest → Ends is_wide_byte text
gap_wide gap rest text spaces is = space_first gap rest text spaces.0 spaces.1 is

pub mark_no_space : (byte : ℕ) (left behind : Left) → Passes left (bytes (byte ∷ [])) behind → is_space byte ≡ false → Ends is_space left.text
mark_no_space byte left behind passes other = subst (Ends is_space) (sym (pass_bytes left (byte ∷ []) behind passes)) other

pub id_reads : (left behind : Left) (inside : List Part) → IsIdSection inside → Passes left (inside ++ bytes (93 ∷ [])) behind → id_section_at left ≡ Ok behind
unfolding id_section_at
id_reads left behind inside section passes =
    let s = section in
    let whole : inside ++ bytes (93 ∷ []) ≡ (((bytes s.name ++ bytes s.gap) ++ bytes (40 ∷ [])) ++ s.field ++ bytes (41 ∷ [])) ++ bytes (93 ∷ []) =
    ap (λ (p : List Part). p ++ bytes (93 ∷ [])) (s.whole ∙ ap (λ (p : List Part). p ++ s.field ++ bytes (41 ∷ []))
    (bytes_joined (s.name ++ s.gap) (40 ∷ []) ∙ ap (λ (p : List Part). p ++ bytes (40 ∷ [])) (bytes_joined s.name s.gap))) in
    let six = split left (((bytes s.name ++ bytes s.gap) ++ bytes (40 ∷ [])) ++ s.field ++ bytes (41 ∷ [])) (bytes (93 ∷ [])) behind
    (repart left behind (inside ++ bytes (93 ∷ [])) _ whole passes) in
    let five = split left (((bytes s.name ++ bytes s.gap) ++ bytes (40 ∷ [])) ++ s.field) (bytes (41 ∷ [])) six.0 six.1 in
    let four = split left ((bytes s.name ++ bytes s.gap) ++ bytes (40 ∷ [])) s.field five.0 five.1 in
    let three = split left (bytes s.name ++ bytes s.gap) (bytes (40 ∷ [])) four.0 four.1 in
    let two = split left (bytes s.name) (bytes s.gap) three.0 three.1 in
    let named : IsNamed (codes "HEADER.FIELDS") left.text two.0.text =
    record {
      word = s.name;
      same = s.named;
      whole = pass_bytes left s.name two.0 two.1;
      ends =
          gap_wide s.gap three.0.text two.0.text s.spaces (pass_bytes two.0 s.gap three.0 two.2);
    } in
    let back : at_left left four.0.text ≡ four.0 = pass_left left ((s.name ++ s.gap) ++ 40 ∷ []) four.0
    (repart left four.0 ((bytes s.name ++ bytes s.gap) ++ bytes (40 ∷ [])) (bytes ((s.name ++ s.gap) ++ 40 ∷ []))
    (ap (λ (p : List Part). p ++ bytes (40 ∷ [])) (sym (bytes_joined s.name s.gap))
    ∙ sym (bytes_joined (s.name ++ s.gap) (40 ∷ []))) four.1) in
    let field = field_reads four.0 five.0 s.field s.value s.astring s.is_id four.2 in
    bind_ok (named_at (codes "HEADER.FIELDS") left.text) (behind_name left) two.0.text behind
    (named_reads (codes "HEADER.FIELDS") left.text two.0.text refl named)
    (bind_ok (gap_at two.0.text) (behind_gap left) three.0.text behind
    (gap_there two.0 three.0 s.gap s.spaces (mark_no_space 40 three.0 four.0 three.2 refl) two.2)
    (bind_ok (mark_at 40 three.0.text) (behind_open left) four.0.text behind (mark_there 40 three.0 four.0 three.2)
    (bind_ok (id_field_at (at_left left four.0.text)) behind_field five.0 behind (ap (λ (l : Left). id_field_at l) back ∙ field)
    (bind_ok (mark_in 41 five.0) close_list six.0 behind (mark_in_there 41 five.0 six.0 five.2) (mark_in_there 93 six.0 behind six.2)))))

-- it is a section
record IsField (field : List Part) : Type 0 where
  pub pieces : List Piece
  pub lawful : AllByRecursion IsPiece pieces
  pub other : AllByRecursion NotBracket pieces
  pub whole : field ≡ flat_map piece_parts pieces

field_pieces : (field : List Part) (value : List ℕ) → IsAstring field value → SameWord value (codes "Message-ID") → IsField field
field_pieces field value (inl (inl quoted)) same = record {
  pieces = Quoted quoted.1 ∷ [];
  lawful = (quoted.2.lawful, tt);
  other = (tt, tt);
  whole = quoted.3 ∙ ap (λ (t : List ℕ). bytes t) quoted.2.whole ∙ sym (append-nil _);
}
field_pieces field value (inl (inr literal)) same = record {
  pieces = Octets literal.0 value ∷ [];
  lawful = (tt, tt);
  other = (tt, tt);
  whole = literal.1;
}
field_pieces field value (inr bare) same =
    let wide = same_wide value (codes "Message-ID") same refl in
    record {
      pieces = singles value;
      lawful = singles_lawful value (wide_singles value wide);
      other = not_brackets value (wide_other value wide);
      whole = bare.whole ∙ sym (singles_parts value);
    }

pub id_is_section : (inside : List Part) → IsIdSection inside → IsSection inside
id_is_section inside s =
    let wide = same_wide s.name (codes "HEADER.FIELDS") s.named refl in
    let field = field_pieces s.field s.value s.astring s.is_id in
    let front : List Piece = singles s.name ++ singles s.gap ++ Open ∷ [] in
    let lawful_front = lawful_pieces (singles s.name ++ singles s.gap) (Open ∷ [])
    (lawful_pieces (singles s.name) (singles s.gap) (singles_lawful s.name (wide_singles s.name wide))
    (singles_lawful s.gap (space_single s.gap s.spaces.1))) (tt, tt) in
    let other_front = not_joined (singles s.name ++ singles s.gap) (Open ∷ [])
    (not_joined (singles s.name) (singles s.gap) (not_brackets s.name (wide_other s.name wide))
    (not_brackets s.gap (space_other s.gap s.spaces.1))) (tt, tt) in
    let front_parts : flat_map piece_parts (singles s.name ++ singles s.gap ++ Open ∷ []) ≡ bytes (s.name ++ s.gap ++ 40 ∷ []) =
    pieces_joined (singles s.name ++ singles s.gap) (Open ∷ []) ∙ ap (λ (p : List Part). p ++ bytes (40 ∷ []))
    (pieces_joined (singles s.name) (singles s.gap) ∙ ap (λ (p : List Part). p ++ flat_map piece_parts (singles s.gap))
    (singles_parts s.name) ∙ ap (λ (p : List Part). bytes s.name ++ p) (singles_parts s.gap) ∙ sym (bytes_joined s.name s.gap))
    ∙ sym (bytes_joined (s.name ++ s.gap) (40 ∷ [])) in
    let whole : flat_map piece_parts ((singles s.name ++ singles s.gap ++ Open ∷ []) ++ field.pieces ++ Close ∷ []) ≡ inside =
    pieces_joined ((singles s.name ++ singles s.gap ++ Open ∷ []) ++ field.pieces) (Close ∷ [])
    ∙ ap (λ (p : List Part). p ++ bytes (41 ∷ [])) (pieces_joined (singles s.name ++ singles s.gap ++ Open ∷ []) field.pieces
    ∙ ap (λ (p : List Part). p ++ flat_map piece_parts field.pieces) front_parts
    ∙ ap (λ (p : List Part). bytes (s.name ++ s.gap ++ 40 ∷ []) ++ p) (sym field.whole))
    ∙ sym s.whole in (
      (singles s.name ++ singles s.gap ++ Open ∷ []) ++ field.pieces ++ Close ∷ [],
      lawful_pieces ((singles s.name ++ singles s.gap ++ Open ∷ []) ++ field.pieces) (Close ∷ [])
          (lawful_pieces (singles s.name ++ singles s.gap ++ Open ∷ []) field.pieces lawful_front field.lawful) (tt, tt),
      not_joined ((singles s.name ++ singles s.gap ++ Open ∷ []) ++ field.pieces) (Close ∷ [])
          (not_joined (singles s.name ++ singles s.gap ++ Open ∷ []) field.pieces other_front field.other) (tt, tt),
      sym whole,
    )

-- where a text began
origin_from : (byte : ℕ) (more : List ℕ) (n : ℕ) → prefix_len is_ascii_digit more ≡ n →
    (byte == 60 && nat_lt 0 n && bytes_eq (drop n more) (62 ∷ [])) ≡ true → IsOrigin (byte ∷ more)
origin_from byte more n is test =
    let outer = and_parts (byte == 60 && nat_lt 0 n) (bytes_eq (drop n more) (62 ∷ [])) test in
    let inner = and_parts (byte == 60) (nat_lt 0 n) outer.0 in
    let first : byte ≡ 60 = is_byte byte 60 inner.0 in
    let some : 0 < n = (let t = inner.1 in grind (arith, nat_tests)) in
    let last = bytes_equal (drop n more) (62 ∷ []) outer.1 in
    let len : length (take (prefix_len is_ascii_digit more) more) ≡ n = length-prefix_len is_ascii_digit more ∙ is in
    let front : take n more ≡ take (prefix_len is_ascii_digit more) more = ap (λ (k : ℕ). take k more) (sym is) in
    let rest : more ≡ take (prefix_len is_ascii_digit more) more ++ 62 ∷ [] =
    sym (take-append-drop n more) ∙ ap (λ (t : List ℕ). take n more ++ t) last ∙ ap (λ (t : List ℕ). t ++ 62 ∷ []) front in
    inr (take (prefix_len is_ascii_digit more) more, (omega (arith, len, some), digits_front more), cc)

pub origin_is : (text : List ℕ) → is_origin text ≡ true → IsOrigin text
origin_is [] test = inl refl
origin_is (byte ∷ more) test = origin_from byte more (prefix_len is_ascii_digit more) refl test

origin_test : (digits : List ℕ) (n : ℕ) → prefix_len is_ascii_digit (digits ++ 62 ∷ []) ≡ n → nat_lt 0 n ≡ true →
    drop n (digits ++ 62 ∷ []) ≡ 62 ∷ [] → is_origin (60 ∷ (digits ++ 62 ∷ [])) ≡ true
origin_test digits n is some rest = rw is (rw (some, rest) refl)

some_digits : (digits : List ℕ) → 0 < length digits → nat_lt 0 (length digits) ≡ true
some_digits digits some = grind (arith, nat_tests)

pub is_origin_of : (text : List ℕ) → IsOrigin text → is_origin text ≡ true
is_origin_of text (inl none) = ap is_origin none
is_origin_of text (inr some) =
    let digits : List ℕ = some.0 in
    let len = cut_len is_ascii_digit some.0 (62 ∷ []) (digits_pass some.0 some.1.1) refl in
    ap is_origin some.2 ∙ origin_test some.0 (length some.0) len (some_digits some.0 some.1.0) (drop-append_seam some.0 (62 ∷ []))

origin_wide : (text : List ℕ) → IsOrigin text → AllPass is_wide_byte text
origin_wide text (inl none) = subst (AllPass is_wide_byte) (sym none) tt
origin_wide text (inr some) = subst (AllPass is_wide_byte) (sym some.2)
    (refl, all_joined is_wide_byte some.0 (62 ∷ []) (digits_wide some.0 some.1.1) (refl, tt))

pub record IsOriginFront (text rest : List ℕ) : Type 0 where
  pub origin : List ℕ
  pub origins : IsOrigin origin
  pub whole : text ≡ origin ++ rest
  pub run : (wide_at text).0 ≡ origin

pub origin_spells : (text rest : List ℕ) → origin_at text ≡ Ok rest → IsOriginFront text rest
unfolding origin_at
origin_spells text rest is =
    let both = ok_first (is_origin (wide_at text).0) (length text) (Ok (wide_at text).1) rest is in
    let cut = reading_cuts is_wide_byte text in
    record {
      origin = (wide_at text).0;
      origins = origin_is (wide_at text).0 both.0;
      whole = cut.whole ∙ ap (λ (r : List ℕ). (wide_at text).0 ++ r) (ok_is (wide_at text).1 rest both.1);
      run = refl;
    }

pub origin_reads : (text origin rest : List ℕ) → IsOrigin origin → text ≡ origin ++ rest → Ends is_wide_byte rest →
    (origin_at text ≡ Ok rest) × ((wide_at text).0 ≡ origin)
unfolding origin_at
origin_reads text origin rest is whole ends =
    let cut : IsCut is_wide_byte text origin rest = record { all = origin_wide origin is; ends = ends; whole = whole } in
    let front : (wide_at text).0 ≡ origin = cut_front is_wide_byte text origin rest cut in
    let test : is_origin (wide_at text).0 ≡ true = ap is_origin front ∙ is_origin_of origin is in
    (rw test (ap Ok (cut_behind is_wide_byte text origin rest cut)), front)

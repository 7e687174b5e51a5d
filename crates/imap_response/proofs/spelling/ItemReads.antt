-- An item of a message: what is spelled is read so.
use Rattle.std.proofs.Common.{◌≡◌, ◌≢◌, ℕ, Bool, true, false, not, List, [], ◌∷◌, ◌++◌, length, codes, refl, ap, sym, ◌∙◌, subst, inl}
use Rattle.std.proofs.Common.{inr, ◌⊎◌, arith, append_assoc, append-nil, length-append, Result, Ok, Err}
use Rattle.std.proofs.lemmas.Bool.{cases_Bool}
use Rattle.std.proofs.lemmas.Bool.Decides.{nat_tests}
use Rattle.std.specs.Prelude.{◌&&◌, ◌==◌}
use Rattle.std.specs.List.{flat_map, list_all, list_any}
use Rattle.std.specs.Str.{str_eq_ignore_ascii_case}
use Rattle.std.specs.Char.{to_ascii_lowercase, is_ascii_digit}
use Rattle.std.specs.Str.Parse.{IsNumeral}
use Rattle.imap_model.specs.Parts.{Part, Literal, bytes}
use Rattle.imap_model.specs.Words.{SameWord, IsGap}
use Rattle.imap_model.specs.Numbers.{IsNonzero, IsModSeq}
use Rattle.imap_model.specs.Strings.{character_text}
use Rattle.imap_model.specs.Values.{is_wide_byte, IsWide, IsAtom, IsValue, IsSection}
use Rattle.imap_model.specs.FetchItems as model
use Rattle.imap_model.specs.FetchItems.{IsUidItem, IsFlagsItem, IsModSeqItem, IsIdSection, IsNstring, IsIdsItem, IsTextItem, known_items, IsOtherName}
use Rattle.imap_model.specs.FetchItems.{IsOrigin, IsSectionName, IsOtherItem, IsItem}
use Rattle.imap_model.proofs.Cutting.{Stops as Ends}
use Rattle.imap_response.specs.declared.fetch.Body.{Body}
use Rattle.imap_response.specs.declared.fetch.Body.TheVariants as bodies
use Rattle.imap_response.specs.declared.fetch.Told.{Told}
use Rattle.imap_response.specs.declared.fetch.Told.TheVariants as tellings
use Rattle.imap_response.specs.declared.flags.Listed.{Listed}
use Rattle.imap_response.specs.Leaf.{is_space, gap_at, mark_at, wide_at, same_word, is_digits}
use Rattle.imap_response.specs.Reads.{◌>>=◌, or_else}
use Rattle.imap_response.specs.ReadNumbers.{nonzero_at, modseq_at}
use Rattle.imap_response.specs.Flags.{whole, flags_at}
use Rattle.imap_response.specs.Left.{Left, at_left, mark_in}
use Rattle.imap_response.specs.ReadStrings.{nstring_at}
use Rattle.imap_response.specs.ReadValues.{value_at, section_at}
use Rattle.imap_response.specs.Items.{is_atom, id_section_at, origin_at, other_section_at, told_body, body_behind, body_at, sectioned_at, named_item_at, item_at}
use Rattle.imap_response.proofs.spelling.Choices.{choose, choose_same, choose_none, same_test, none_of}
use Rattle.imap_response.proofs.spelling.Flags.{IsListed, flags_reads}
use Rattle.imap_response.proofs.spelling.IdSections.{id_spells, id_reads, id_is_section, origin_reads, gap_wide}
use Rattle.imap_response.proofs.spelling.Items.{Read, told_of, told_nothing, value_there, origin_there, section_there, string_told}
use Rattle.imap_response.proofs.spelling.Items.{body_there, body_origin, empty_or_other, IsBodySection, NotTold, by_section, by_name, item_is}
use Rattle.imap_response.proofs.spelling.Names.{same_is, is_same, is_other, all_lower, from_all, same_wide}
use Rattle.imap_response.proofs.spelling.Numbers.{IsFront, nonzero_at_reads, modseq_at_reads, numeral_is, digits_pass}
use Rattle.imap_response.proofs.spelling.OneSection.{section_same, same_mid}
use Rattle.imap_response.proofs.spelling.Passing.{Passes, pass_bytes, pass_left, split, joined, bytes_joined, none_passed}
use Rattle.imap_response.proofs.spelling.Results.{some_len, byte_not, bind_ok, or_else_ok, or_else_err}
use Rattle.imap_response.proofs.spelling.Runs.{IsCut, cut_front, cut_behind}
use Rattle.imap_response.proofs.spelling.Steps.{repart, gap_there, mark_in_front, mark_in_there, no_mark}
use Rattle.imap_response.proofs.spelling.Strings.{nstring_reads}
use Rattle.imap_response.proofs.spelling.ValueReads.{value_reads, section_reads}
use Rattle.imap_response.proofs.spelling.Words.{mark_reads}

-- an item is read, and tells this
abbrev pub Gives : Left → model.Told → Left → Type 0
Gives left told behind = (read : Told) × (item_at whole left ≡ Ok (read, behind)) × (told_of read ≡ told)

-- atoms
three_true : (x y z : Bool) → x ≡ false → y ≡ false → z ≡ false → (not x && not y && not z) ≡ true
three_true x y z a b c = rw (a, b, c) refl

no_digits : (run : List ℕ) → (IsNumeral 10 run → ⊥) → is_digits run ≡ false
no_digits run other = elim (cases_Bool (is_digits run)) [ inl is ↦ absurd (other (numeral_is run is)) | inr is ↦ is ]

pub is_atom_of : (run : List ℕ) → IsAtom run → is_atom run ≡ true
is_atom_of run atom =
    three_true (length run == 0) (same_word run (codes "NIL")) (is_digits run) (some_len run atom.wide.0)
    (is_other run (codes "NIL") atom.not_nil) (no_digits run atom.not_number)

digit_lower : (b : ℕ) → is_ascii_digit (to_ascii_lowercase b) ≡ is_ascii_digit b
digit_lower b = grind (arith, nat_tests)

some_word : (word name : List ℕ) → SameWord word name → name ≢ [] → word ≢ []
some_word [] [] same some = absurd (some refl)
some_word [] (c ∷ name) same some = absurd cc
some_word (b ∷ word) name same some = λ is. cc

-- a word that is a name in another case is an atom like it
pub named_atom : (word name : List ℕ) → SameWord word name → name ≢ [] → list_all is_wide_byte name ≡ true →
    same_word name (codes "NIL") ≡ false → list_all is_ascii_digit name ≡ false → IsAtom word
named_atom word name same some wide not_nil not_digits = record {
  wide = (some_word word name same some, same_wide word name same wide);
  not_nil = λ nil. (let is = is_same word (codes "NIL") nil in let no = same_test word name (codes "NIL") same in cc);
  not_number = λ numeral. (
      let digits : list_all is_ascii_digit word ≡ true = from_all is_ascii_digit word (digits_pass word numeral.1) in
      let there : list_all is_ascii_digit word ≡ list_all is_ascii_digit name =
      sym (all_lower is_ascii_digit digit_lower word) ∙ ap (list_all is_ascii_digit) same ∙ all_lower is_ascii_digit digit_lower name in
      cc);
}

-- what comes first in a value is no space
not_space : (b : ℕ) → is_wide_byte b ≡ true → is_space b ≡ false
not_space b wide = byte_not b 32 (λ e. let no : is_wide_byte 32 ≡ true = ap is_wide_byte (sym e) ∙ wide in cc)

pub wide_solid : (text more : List ℕ) → IsWide text → Ends is_space (text ++ more)
wide_solid [] more wide = absurd (wide.0 refl)
wide_solid (b ∷ text) more wide = not_space b wide.1.0

front_solid : (left behind : Left) (text : List ℕ) → Passes left (bytes text) behind → ((more : List ℕ) → Ends is_space (text ++ more)) →
    Ends is_space left.text
front_solid left behind text passes solid = subst (Ends is_space) (sym (pass_bytes left text behind passes)) (solid behind.text)

pub value_solid : (left behind : Left) (parts : List Part) → IsValue parts → Passes left parts behind → Ends is_space left.text
value_solid left behind parts (inl wide) passes =
    front_solid left behind wide.0 (repart left behind parts (bytes wide.0) wide.2 passes) (λ more. wide_solid wide.0 more wide.1)
value_solid left behind parts (inr (inl (value, inl quoted))) passes =
    let passes' = repart left behind parts (bytes (34 ∷ (flat_map character_text quoted.1 ++ 34 ∷ [])))
    (quoted.3 ∙ ap (λ (t : List ℕ). bytes t) quoted.2.whole) passes in
    front_solid left behind (34 ∷ (flat_map character_text quoted.1 ++ 34 ∷ [])) passes' (λ more. refl)
value_solid left behind parts (inr (inl (value, inr literal))) passes =
    let passes' = repart left behind parts (Literal literal.0 value ∷ []) literal.1 passes in
    subst (Ends is_space) (sym passes'.text) refl
value_solid left behind parts (inr (inr list)) passes =
    let passes' = repart left behind parts _ list.3 passes in
    subst (Ends is_space) (sym passes'.text) refl

nil_wide : (word : List ℕ) → SameWord word (codes "NIL") → IsWide word
nil_wide word same = (some_word word (codes "NIL") same (λ e. cc), same_wide word (codes "NIL") same refl)

nstring_value : (parts : List Part) (value : List ℕ) → IsNstring parts value → IsValue parts
nstring_value parts value (inl string) = inr (inl (value, string))
nstring_value parts value (inr nil) = inl (nil.0, nil_wide nil.0 nil.1, nil.2)

-- an item whose name has no section
module _ (left one two : Left) (name gap : List ℕ) (named : Passes left (bytes name) one) (spaces : IsGap gap)
    (spaced : Passes one (bytes gap) two) (solid : Ends is_space two.text) (atom : IsAtom name) where
  name_cut : IsCut is_wide_byte left.text name one.text
  name_cut = record { all = atom.wide.1; ends = gap_wide gap two.text one.text spaces (pass_bytes one gap two spaced); whole = pass_bytes left name one named }

  front_is : (wide_at left.text).0 ≡ name
  front_is = cut_front is_wide_byte left.text name one.text name_cut

  behind_is : (wide_at left.text).1 ≡ one.text
  behind_is = cut_behind is_wide_byte left.text name one.text name_cut

  two_is : at_left left two.text ≡ two
  two_is = pass_left left (name ++ gap) two (repart left two (bytes name ++ bytes gap) (bytes (name ++ gap)) (sym (bytes_joined name gap))
      (joined left (bytes name) one (bytes gap) two named spaced))

  no_bracket_from : (gap : List ℕ) → IsGap gap → one.text ≡ gap ++ two.text → (rest : List ℕ) → mark_at 91 one.text ≡ Ok rest → ⊥
  no_bracket_from [] spaces is rest marked = spaces.0 refl
  no_bracket_from (b ∷ gap) spaces is rest marked = no_mark 91 b one.text (gap ++ two.text) is
      (λ e. (let space = spaces.1.0 in omega (arith, e, space))) rest marked

  no_bracket : (rest : List ℕ) → mark_at 91 (wide_at left.text).1 ≡ Ok rest → ⊥
  no_bracket rest marked = no_bracket_from gap spaces (pass_bytes one gap two spaced) rest (ap (mark_at 91) (sym behind_is) ∙ marked)

  pub plain_item : (read : Read) → named_item_at whole name two ≡ Ok read → item_at whole left ≡ Ok read
  plain_item read is =
      let test : is_atom (wide_at left.text).0 ≡ true = ap is_atom front_is ∙ is_atom_of name atom in
      let after : gap_at (wide_at left.text).1 ≡ Ok two.text = ap gap_at behind_is ∙ gap_there one two gap spaces solid spaced in
      let there : by_name left two.text ≡ Ok read = ap (λ (n : List ℕ). named_item_at whole n (at_left left two.text)) front_is
      ∙ ap (named_item_at whole name) two_is ∙ is in
      item_is left ∙ rw test (or_else_err (mark_at 91 (wide_at left.text).1) (by_section left) (gap_at (wide_at left.text).1 >>= by_name left) no_bracket
      ∙ bind_ok (gap_at (wide_at left.text).1) (by_name left) two.text read after there)

-- and one whose name has one
pub section_item : (left two : Left) (name : List ℕ) (read : Read) → IsAtom name → Passes left (bytes (name ++ 91 ∷ [])) two →
    sectioned_at name two ≡ Ok read → item_at whole left ≡ Ok read
section_item left two name read atom named is =
    let text : left.text ≡ name ++ (91 ∷ two.text) = pass_bytes left (name ++ 91 ∷ []) two named ∙ append_assoc name (91 ∷ []) two.text in
    let cut : IsCut is_wide_byte left.text name (91 ∷ two.text) = record { all = atom.wide.1; ends = refl; whole = text } in
    let front : (wide_at left.text).0 ≡ name = cut_front is_wide_byte left.text name (91 ∷ two.text) cut in
    let behind : (wide_at left.text).1 ≡ 91 ∷ two.text = cut_behind is_wide_byte left.text name (91 ∷ two.text) cut in
    let test : is_atom (wide_at left.text).0 ≡ true = ap is_atom front ∙ is_atom_of name atom in
    let back : at_left left two.text ≡ two = pass_left left (name ++ 91 ∷ []) two named in
    let there : by_section left two.text ≡ Ok read = ap (λ (n : List ℕ). sectioned_at n (at_left left two.text)) front ∙ ap (sectioned_at name) back ∙ is in
    item_is left ∙ rw test (or_else_ok (mark_at 91 (wide_at left.text).1) (by_section left)
    (gap_at (wide_at left.text).1 >>= by_name left) two.text (mark_reads 91 (wide_at left.text).1 two.text behind) ∙ there)

-- each kind of item
numeral_solid : (digits more : List ℕ) → IsNumeral 10 digits → Ends is_space (digits ++ more)
numeral_solid [] more numeral = absurd (omega (arith, numeral.0))
numeral_solid (b ∷ digits) more numeral =
    let digit = (digits_pass (b ∷ digits) numeral.1).0 in
    byte_not b 32 (λ e. let no : is_ascii_digit 32 ≡ true = ap is_ascii_digit (sym e) ∙ digit in cc)

pub record IsThree (left behind : Left) (a b c : List ℕ) : Type 0 where
  pub one : Left
  pub two : Left
  pub first : Passes left (bytes a) one
  pub second : Passes one (bytes b) two
  pub third : Passes two (bytes c) behind

pub three : (left behind : Left) (a b c : List ℕ) → Passes left (bytes (a ++ b ++ c)) behind → IsThree left behind a b c
three left behind a b c passes =
    let all = repart left behind (bytes (a ++ b ++ c)) ((bytes a ++ bytes b) ++ bytes c)
    (bytes_joined (a ++ b) c ∙ ap (λ (p : List Part). p ++ bytes c) (bytes_joined a b)) passes in
    let last = split left (bytes a ++ bytes b) (bytes c) behind all in
    let first = split left (bytes a) (bytes b) last.0 last.1 in
    record { one = first.0; two = last.0; first = first.1; second = first.2; third = last.2 }

-- the rows of the items without a section
abbrev pub rows_of : Left → List (List ℕ × Result Read ℕ)
rows_of left = (codes "UID", (nonzero_at left.text >>= λ uid. Ok (tellings.Uid uid.0, at_left left uid.1)))
    ∷ (codes "FLAGS", (flags_at whole left.text >>= λ flags. Ok (tellings.Flags flags.0.flags flags.0.excess, at_left left flags.1)))
    ∷ (
      codes "MODSEQ",
      (mark_at 40 left.text >>= λ inside. modseq_at inside >>= λ modseq. mark_at 41 modseq.1 >>= λ behind. Ok
          (tellings.ModSeq modseq.0, at_left left behind)),
    )
    ∷ []

abbrev pub value_of : Left → Result Read ℕ
value_of left = value_at left >>= told_nothing

pub items_are : (name : List ℕ) (left : Left) → named_item_at whole name left ≡ choose name (rows_of left) (value_of left)
unfolding named_item_at
items_are name left = refl

chosen_item : (left : Left) (word name : List ℕ) (read : Read) → SameWord word name →
    choose name (rows_of left) (value_of left) ≡ Ok read → named_item_at whole word left ≡ Ok read
chosen_item left word name read same row = items_are word left ∙ choose_same word name (rows_of left) (value_of left) same ∙ row

uid_reads : (left behind : Left) (parts : List Part) (uid : ℕ) → IsUidItem parts uid → Passes left parts behind →
    Ends is_wide_byte behind.text → Gives left (model.UidIs uid) behind
uid_reads left behind parts uid item passes ends =
    let w = three left behind item.name item.gap item.digits (repart left behind parts (bytes (item.name ++ item.gap ++ item.digits)) item.whole passes) in
    let text = pass_bytes w.two item.digits behind w.third in
    let front : IsFront IsNonzero w.two.text uid behind.text = record { run = item.digits; spells = item.number; whole = text; ends = ends } in
    let atom = named_atom item.name (codes "UID") item.named (λ e. cc) refl refl refl in
    let read : Read = (tellings.Uid uid, behind) in
    let row : (nonzero_at w.two.text >>= λ u. Ok (tellings.Uid u.0, at_left w.two u.1)) ≡ Ok (tellings.Uid uid, behind) =
    bind_ok (nonzero_at w.two.text) (λ (u : ℕ × List ℕ). Ok (tellings.Uid u.0, at_left w.two u.1)) (uid, behind.text)
    (tellings.Uid uid, behind) (nonzero_at_reads w.two.text uid behind.text front)
    (ap (λ (l : Left). Ok (tellings.Uid uid, l)) (pass_left w.two item.digits behind w.third)) in
    let solid = subst (Ends is_space) (sym text) (numeral_solid item.digits behind.text item.number.0.digits) in (
      tellings.Uid uid,
      plain_item left w.one w.two item.name item.gap w.first item.spaces w.second solid atom (tellings.Uid uid, behind)
          (chosen_item w.two item.name (codes "UID") (tellings.Uid uid, behind) item.named row),
      refl,
    )

flags_item_reads : (left behind : Left) (parts : List Part) (flags : List (List ℕ)) → IsFlagsItem parts flags → Passes left parts behind →
    Gives left (model.FlagsAre flags) behind
flags_item_reads left behind parts flags item passes =
    let list : List ℕ = 40 ∷ (item.text ++ 41 ∷ []) in
    let w = three left behind item.name item.gap (40 ∷ (item.text ++ 41 ∷ []))
    (repart left behind parts (bytes (item.name ++ item.gap ++ 40 ∷ (item.text ++ 41 ∷ []))) item.whole passes) in
    let text = pass_bytes w.two (40 ∷ (item.text ++ 41 ∷ [])) behind w.third in
    let listed : IsListed w.two.text item.text behind.text = text ∙ ap (λ (t : List ℕ). 40 ∷ t) (append_assoc item.text (41 ∷ []) behind.text) in
    let found = flags_reads w.two.text item.text behind.text flags listed item.listed in
    let atom = named_atom item.name (codes "FLAGS") item.named (λ e. cc) refl refl refl in
    let row : (flags_at whole w.two.text >>= λ f. Ok (tellings.Flags f.0.flags f.0.excess, at_left w.two f.1))
    ≡ Ok (tellings.Flags found.0.flags found.0.excess, behind) =
    bind_ok (flags_at whole w.two.text) (λ (f : Listed × List ℕ). Ok (tellings.Flags f.0.flags f.0.excess, at_left w.two f.1))
    (found.0, behind.text) (tellings.Flags found.0.flags found.0.excess, behind) found.1
    (ap (λ (l : Left). Ok (tellings.Flags found.0.flags found.0.excess, l)) (pass_left w.two (40 ∷ (item.text ++ 41 ∷ [])) behind w.third)) in
    let solid = subst (Ends is_space) (sym text) refl in (
      tellings.Flags found.0.flags found.0.excess,
      plain_item left w.one w.two item.name item.gap w.first item.spaces w.second solid atom (tellings.Flags found.0.flags found.0.excess, behind)
          (chosen_item w.two item.name (codes "FLAGS") (tellings.Flags found.0.flags found.0.excess, behind) item.named row),
      ap (λ (k : List (List ℕ)). model.FlagsAre k) found.2,
    )

modseq_reads : (left behind : Left) (parts : List Part) (modseq : ℕ) → IsModSeqItem parts modseq → Passes left parts behind →
    Gives left (model.ModSeqIs modseq) behind
modseq_reads left behind parts modseq item passes =
    let w = three left behind item.name item.gap (40 ∷ (item.digits ++ 41 ∷ []))
    (repart left behind parts (bytes (item.name ++ item.gap ++ 40 ∷ (item.digits ++ 41 ∷ []))) item.whole passes) in
    let text = pass_bytes w.two (40 ∷ (item.digits ++ 41 ∷ [])) behind w.third in
    let listed : w.two.text ≡ 40 ∷ (item.digits ++ 41 ∷ behind.text) = text ∙ ap (λ (t : List ℕ). 40 ∷ t) (append_assoc item.digits (41 ∷ []) behind.text) in
    let front : IsFront IsModSeq (item.digits ++ 41 ∷ behind.text) modseq (41 ∷ behind.text) =
    record { run = item.digits; spells = item.number; whole = refl; ends = refl } in
    let atom = named_atom item.name (codes "MODSEQ") item.named (λ e. cc) refl refl refl in
    let row : (mark_at 40 w.two.text >>= λ inside. modseq_at inside >>= λ modseq. mark_at 41 modseq.1 >>= λ behind. Ok
    (tellings.ModSeq modseq.0, at_left w.two behind)) ≡ Ok (tellings.ModSeq modseq, behind) =
    bind_ok (mark_at 40 w.two.text) (λ (inside : List ℕ). modseq_at inside >>= λ modseq. mark_at 41 modseq.1 >>= λ behind. Ok
    (tellings.ModSeq modseq.0, at_left w.two behind)) (item.digits ++ 41 ∷ behind.text) (tellings.ModSeq modseq, behind)
    (mark_reads 40 w.two.text (item.digits ++ 41 ∷ behind.text) listed)
    (bind_ok (modseq_at (item.digits ++ 41 ∷ behind.text)) (λ (modseq : ℕ × List ℕ). mark_at 41 modseq.1 >>= λ behind. Ok
    (tellings.ModSeq modseq.0, at_left w.two behind)) (modseq, 41 ∷ behind.text) (tellings.ModSeq modseq, behind)
    (modseq_at_reads (item.digits ++ 41 ∷ behind.text) modseq (41 ∷ behind.text) front)
    (bind_ok (mark_at 41 (41 ∷ behind.text)) (λ (behind : List ℕ). Ok (tellings.ModSeq modseq, at_left w.two behind)) behind.text
    (tellings.ModSeq modseq, behind) (mark_reads 41 (41 ∷ behind.text) behind.text refl)
    (ap (λ (l : Left). Ok (tellings.ModSeq modseq, l)) (pass_left w.two (40 ∷ (item.digits ++ 41 ∷ [])) behind w.third)))) in
    let solid = subst (Ends is_space) (sym text) refl in (
      tellings.ModSeq modseq,
      plain_item left w.one w.two item.name item.gap w.first item.spaces w.second solid atom (tellings.ModSeq modseq, behind)
          (chosen_item w.two item.name (codes "MODSEQ") (tellings.ModSeq modseq, behind) item.named row),
      refl,
    )

-- the identifiers: behind the bracket
record IsSectioned (left behind : Left) (name : List ℕ) (inside : List Part) (between : List ℕ) (value : List Part) : Type 0 where
  pub two : Left
  pub three_ : Left
  pub four : Left
  pub named : Passes left (bytes (name ++ 91 ∷ [])) two
  pub section : Passes two (inside ++ bytes (93 ∷ [])) three_
  pub middle : Passes three_ (bytes between) four
  pub last : Passes four value behind

sectioned : (left behind : Left) (name : List ℕ) (inside : List Part) (between : List ℕ) (value : List Part) →
    Passes left (((bytes (name ++ 91 ∷ []) ++ inside) ++ bytes (93 ∷ between)) ++ value) behind →
    IsSectioned left behind name inside between value
sectioned left behind name inside between value passes =
    let form : ((bytes (name ++ 91 ∷ []) ++ inside) ++ bytes (93 ∷ between)) ++ value
    ≡ ((bytes (name ++ 91 ∷ []) ++ (inside ++ bytes (93 ∷ []))) ++ bytes between) ++ value =
    ap (λ (p : List Part). p ++ value) (sym (append_assoc (bytes (name ++ 91 ∷ []) ++ inside) (bytes (93 ∷ [])) (bytes between))
    ∙ ap (λ (p : List Part). p ++ bytes between) (append_assoc (bytes (name ++ 91 ∷ [])) inside (bytes (93 ∷ [])))) in
    let one = split left ((bytes (name ++ 91 ∷ []) ++ (inside ++ bytes (93 ∷ []))) ++ bytes between) value behind (repart left behind _ _ form passes) in
    let two = split left (bytes (name ++ 91 ∷ []) ++ (inside ++ bytes (93 ∷ []))) (bytes between) one.0 one.1 in
    let last = split left (bytes (name ++ 91 ∷ [])) (inside ++ bytes (93 ∷ [])) two.0 two.1 in
    record { two = last.0; three_ = two.0; four = one.0; named = last.1; section = last.2; middle = two.2; last = one.2 }

body_test : (name : List ℕ) → SameWord name (codes "BODY") → same_word name (codes "BODY") ≡ true
body_test name same = is_same name (codes "BODY") same

-- the section of the identifiers doesn't begin with its end
no_id_end : (left behind other : Left) (inside : List Part) → IsIdSection inside → Passes left (inside ++ bytes (93 ∷ [])) behind →
    Passes left (bytes (93 ∷ [])) other → inside ≡ []
no_id_end left behind other inside section passes ends =
    section_same left behind other inside [] (id_is_section inside section) ([], tt, tt, refl) passes ends

id_not_empty : (inside : List Part) → IsIdSection inside → inside ≡ [] → ⊥
id_not_empty inside section none =
    let last : length (bytes (41 ∷ [])) ≡ 1 = refl in
    omega (arith, ap length (sym none ∙ section.whole), length-append (bytes (section.name ++ section.gap ++ 40 ∷ []) ++ section.field) (bytes (41 ∷ [])), last)

-- what is read before the string
section_read : (which : Body) (name : List ℕ) (two mid : Left) (inside : List Part) → SameWord name (codes "BODY") → IsBodySection which inside →
    Passes two (inside ++ bytes (93 ∷ [])) mid → sectioned_at name two ≡ body_at which mid
unfolding sectioned_at
section_read bodies.Ids name two mid inside same section sectioned =
    rw (body_test name same) (or_else_ok (id_section_at two) (body_at bodies.Ids) (empty_or_other two) mid (id_reads two mid inside section sectioned))
section_read bodies.Text name two mid inside same section sectioned =
    let ends : Passes two (bytes (93 ∷ [])) mid = subst (λ (p : List Part). Passes two (p ++ bytes (93 ∷ [])) mid) section sectioned in
    rw (body_test name same) (or_else_err (id_section_at two) (body_at bodies.Ids) (empty_or_other two)
    (λ found is. let front = id_spells two found (sectioned.fits) is in
    id_not_empty front.inside front.section (no_id_end two found mid front.inside front.section front.passes ends))
    ∙ or_else_ok (mark_in 93 two) (body_at bodies.Text) (other_section_at two) mid (mark_in_there 93 two mid ends))

body_section : (which : Body) (two mid four behind : Left) (name : List ℕ) (inside : List Part) (gap : List ℕ) (value : List Part) (ids : List ℕ) →
    SameWord name (codes "BODY") → IsBodySection which inside → Passes two (inside ++ bytes (93 ∷ [])) mid
    → IsGap gap → Passes mid (bytes gap) four → IsNstring value ids → Passes four value behind → Ends is_wide_byte behind.text →
    sectioned_at name two ≡ Ok (told_body which ids, behind)
unfolding body_at
body_section which two mid four behind name inside gap value ids same section sectioned spaces middle told last ends =
    let solid = value_solid four behind value (nstring_value value ids told) last in
    let origin = origin_reads mid.text [] mid.text (inl refl) refl (gap_wide gap four.text mid.text spaces (pass_bytes mid gap four middle)) in
    let none : (length (wide_at mid.text).0 == 0) ≡ true = ap (λ (o : List ℕ). length o == 0) origin.1 in
    let back : at_left mid four.text ≡ four = pass_left mid gap four middle in
    let there : body_there which mid four.text ≡ Ok (told_body which ids, behind) =
    ap (λ (t : Bool). body_behind which t (at_left mid four.text)) none ∙ ap (λ (l : Left). body_behind which true l) back
    ∙ bind_ok (nstring_at four) (string_told which) (ids, behind) (told_body which ids, behind) (nstring_reads four behind value ids told last ends) refl in
    section_read which name two mid inside same section sectioned
    ∙ bind_ok (origin_at mid.text) (body_origin which mid) mid.text (told_body which ids, behind) origin.0
    (bind_ok (gap_at mid.text) (body_there which mid) four.text (told_body which ids, behind) (gap_there mid four gap spaces solid middle) there)

ids_reads : (left behind : Left) (parts : List Part) (ids : List ℕ) → IsIdsItem parts ids → Passes left parts behind →
    Ends is_wide_byte behind.text → Gives left (model.IdsAre ids) behind
ids_reads left behind parts ids item passes ends =
    let w = sectioned left behind item.name item.inside item.gap item.value (repart left behind parts _ item.whole passes) in
    let atom = named_atom item.name (codes "BODY") item.named (λ e. cc) refl refl refl in (
      tellings.Ids ids,
      section_item left w.two item.name (tellings.Ids ids, behind) atom w.named
          (body_section bodies.Ids w.two w.three_ w.four behind item.name item.inside item.gap item.value ids item.named item.id_section
          w.section item.spaces w.middle item.told w.last ends),
      refl,
    )

-- the whole text
text_whole : (name gap : List ℕ) (value : List Part) →
    bytes (name ++ 91 ∷ 93 ∷ gap) ++ value ≡ ((bytes (name ++ 91 ∷ []) ++ []) ++ bytes (93 ∷ gap)) ++ value
text_whole name gap value = ap (λ (p : List Part). p ++ value)
    (ap (λ (t : List ℕ). bytes t) (sym (append_assoc name (91 ∷ []) (93 ∷ gap))) ∙ bytes_joined (name ++ 91 ∷ []) (93 ∷ gap)
    ∙ ap (λ (p : List Part). p ++ bytes (93 ∷ gap)) (sym (append-nil (bytes (name ++ 91 ∷ [])))))

text_reads : (left behind : Left) (parts : List Part) (text : List ℕ) → IsTextItem parts text → Passes left parts behind →
    Ends is_wide_byte behind.text → Gives left (model.TextIs text) behind
text_reads left behind parts text item passes ends =
    let w = sectioned left behind item.name [] item.gap item.value
    (repart left behind parts _ (item.whole ∙ text_whole item.name item.gap item.value) passes) in
    let atom = named_atom item.name (codes "BODY") item.named (λ e. cc) refl refl refl in (
      tellings.Text text,
      section_item left w.two item.name (tellings.Text text, behind) atom w.named
          (body_section bodies.Text w.two w.three_ w.four behind item.name [] item.gap item.value text item.named refl
          w.section item.spaces w.middle item.told w.last ends),
      refl,
    )

-- another item without a section
other_name : (left behind : Left) (name gap : List ℕ) (value : List Part) → IsAtom name →
    list_any (λ known. str_eq_ignore_ascii_case known name) known_items ≡ false → IsGap gap → IsValue value
    → Passes left ((bytes name ++ bytes gap) ++ value) behind → Ends is_wide_byte behind.text → Gives left model.Nothing behind
other_name left behind name gap value atom unknown spaces valued passes ends =
    let last = split left (bytes name ++ bytes gap) value behind passes in
    let first = split left (bytes name) (bytes gap) last.0 last.1 in
    let none = none_of known_items name unknown in
    let row : value_of last.0 ≡ Ok (tellings.Nothing, behind) = bind_ok (value_at last.0) told_nothing behind (tellings.Nothing, behind)
    (value_reads last.0 behind value valued last.2 ends) refl in (
      tellings.Nothing,
      plain_item left first.0 last.0 name gap first.1 spaces first.2 (value_solid last.0 behind value valued last.2) atom (tellings.Nothing, behind)
          (items_are name last.0 ∙ choose_none name (rows_of last.0) (value_of last.0) none ∙ row),
      refl,
    )

-- and with one
module _ (two mid four five behind : Left) (name : List ℕ) (inside : List Part) (origin gap : List ℕ) (value : List Part)
    (section : IsSection inside) (sectioned_ : Passes two (inside ++ bytes (93 ∷ [])) mid)
    (origins : IsOrigin origin) (middle : Passes mid (bytes origin) four) (spaces : IsGap gap) (spaced : Passes four (bytes gap) five)
    (valued : IsValue value) (last : Passes five value behind) (ends : Ends is_wide_byte behind.text) where
  origin_is : (origin_at mid.text ≡ Ok four.text) × ((wide_at mid.text).0 ≡ origin)
  origin_is = origin_reads mid.text origin four.text origins (pass_bytes mid origin four middle)
      (gap_wide gap five.text four.text spaces (pass_bytes four gap five spaced))

  gap_is : gap_at four.text ≡ Ok five.text
  gap_is = gap_there four five gap spaces (value_solid five behind value valued last) spaced

  five_is : at_left mid five.text ≡ five
  five_is = pass_left mid (origin ++ gap) five (repart mid five (bytes origin ++ bytes gap) (bytes (origin ++ gap))
      (sym (bytes_joined origin gap)) (joined mid (bytes origin) four (bytes gap) five middle spaced))

  value_is : (value_at (at_left mid five.text) >>= told_nothing) ≡ Ok (tellings.Nothing, behind)
  value_is = bind_ok (value_at (at_left mid five.text)) told_nothing behind (tellings.Nothing, behind)
      (ap value_at five_is ∙ value_reads five behind value valued last ends) refl

  section_is : section_at two ≡ Ok mid
  section_is = section_reads (length two.text) section.0 two mid section.1 section.2
      (subst (λ (p : List Part). Passes two (p ++ bytes (93 ∷ [])) mid) section.3 sectioned_) (omega arith)

  other_is : other_section_at two ≡ Ok (tellings.Nothing, behind)
  unfolding other_section_at
  other_is =
      bind_ok (section_at two) section_there mid (tellings.Nothing, behind) section_is
      (bind_ok (origin_at mid.text) (origin_there mid) four.text (tellings.Nothing, behind) origin_is.0
      (bind_ok (gap_at four.text) (value_there mid) five.text (tellings.Nothing, behind) gap_is value_is))

  body_is : (which : Body) → origin ≢ [] → body_at which mid ≡ Ok (tellings.Nothing, behind)
  unfolding body_at
  body_is which some =
      let test : (length (wide_at mid.text).0 == 0) ≡ false = ap (λ (o : List ℕ). length o == 0) origin_is.1 ∙ some_len origin some in
      bind_ok (origin_at mid.text) (body_origin which mid) four.text (tellings.Nothing, behind) origin_is.0
      (bind_ok (gap_at four.text) (body_there which mid) five.text (tellings.Nothing, behind) gap_is
      (ap (λ (t : Bool). body_behind which t (at_left mid five.text)) test ∙ value_is))

  text_or_other : NotTold name inside origin → SameWord name (codes "BODY") →
      (r : Result Left ℕ) → mark_in 93 two ≡ r → or_else r (body_at bodies.Text) (other_section_at two) ≡ Ok (tellings.Nothing, behind)
  text_or_other other same (Err left) is = other_is
  text_or_other other same (Ok found) is =
      let front = mark_in_front 93 two found (sectioned_.fits) is in
      let parts = section_same two found mid [] inside ([], tt, tt, refl) section front sectioned_ in
      let here : found ≡ mid = same_mid two (inside ++ bytes (93 ∷ [])) found mid
      (subst (λ (p : List Part). Passes two (p ++ bytes (93 ∷ [])) found) parts front) sectioned_ in
      ap (body_at bodies.Text) here ∙ body_is bodies.Text (other bodies.Text same (sym parts))

  ids_or_other : NotTold name inside origin → SameWord name (codes "BODY") →
      (r : Result Left ℕ) → id_section_at two ≡ r → or_else r (body_at bodies.Ids) (empty_or_other two) ≡ Ok (tellings.Nothing, behind)
  ids_or_other other same (Err left) is = text_or_other other same (mark_in 93 two) refl
  ids_or_other other same (Ok found) is =
      let front = id_spells two found (sectioned_.fits) is in
      let parts = section_same two found mid front.inside inside (id_is_section front.inside front.section) section front.passes sectioned_ in
      let here : found ≡ mid = same_mid two (inside ++ bytes (93 ∷ [])) found mid
      (subst (λ (p : List Part). Passes two (p ++ bytes (93 ∷ [])) found) parts front.passes) sectioned_ in
      ap (body_at bodies.Ids) here ∙ body_is bodies.Ids (other bodies.Ids same (subst IsIdSection parts front.section))

  pub sectioned_reads : NotTold name inside origin → sectioned_at name two ≡ Ok (tellings.Nothing, behind)
  unfolding sectioned_at
  sectioned_reads other = elim (cases_Bool (same_word name (codes "BODY"))) [
    | inl body ↦ rw body (ids_or_other other (same_is name (codes "BODY") body) (id_section_at two) refl)
    | inr none ↦ rw none other_is
  ]

not_told : (name_parts : List Part) (named : IsSectionName name_parts) → NotTold named.name named.inside named.origin
not_told name_parts named bodies.Ids = named.other
not_told name_parts named bodies.Text = named.no_text

other_section : (left behind : Left) (name_parts : List Part) (gap : List ℕ) (value : List Part) → IsSectionName name_parts → IsGap gap →
    IsValue value → Passes left ((name_parts ++ bytes gap) ++ value) behind → Ends is_wide_byte behind.text →
    Gives left model.Nothing behind
other_section left behind name_parts gap value named spaces valued passes ends =
    let last = split left (name_parts ++ bytes gap) value behind passes in
    let middle = split left name_parts (bytes gap) last.0 last.1 in
    let w = sectioned left middle.0 named.name named.inside named.origin [] (repart left middle.0 name_parts _ (named.whole ∙ sym (append-nil _)) middle.1) in
    let four : w.four ≡ middle.0 = none_passed w.four middle.0 w.last in
    let origin = subst (λ (l : Left). Passes w.three_ (bytes named.origin) l) four w.middle in (
      tellings.Nothing,
      section_item left w.two named.name (tellings.Nothing, behind) named.atom w.named
          (sectioned_reads w.two w.three_ middle.0 last.0 behind named.name named.inside named.origin gap value named.section
          w.section named.origins origin spaces middle.2 valued last.2 ends (not_told name_parts named)),
      refl,
    )

other_by : (left behind : Left) (name_parts : List Part) (gap : List ℕ) (value : List Part) →
    IsOtherName name_parts ⊎ IsSectionName name_parts → IsGap gap → IsValue value →
    Passes left ((name_parts ++ bytes gap) ++ value) behind → Ends is_wide_byte behind.text → Gives left model.Nothing behind
other_by left behind name_parts gap value (inl named) spaces valued passes ends =
    other_name left behind named.0 gap value named.1 named.2 spaces valued
    (subst (λ (p : List Part). Passes left ((p ++ bytes gap) ++ value) behind) named.3 passes) ends
other_by left behind name_parts gap value (inr named) spaces valued passes ends = other_section left behind name_parts gap value named spaces valued passes ends

other_reads : (left behind : Left) (parts : List Part) → IsOtherItem parts → Passes left parts behind → Ends is_wide_byte behind.text →
    Gives left model.Nothing behind
other_reads left behind parts item passes ends =
    other_by left behind item.name item.gap item.value item.named item.spaces item.valued (repart left behind parts _ item.whole passes) ends

pub item_reads : (left behind : Left) (parts : List Part) (told : model.Told) → IsItem parts told → Passes left parts behind →
    Ends is_wide_byte behind.text → Gives left told behind
item_reads left behind parts (model.UidIs uid) item passes ends = uid_reads left behind parts uid item passes ends
item_reads left behind parts (model.FlagsAre flags) item passes ends = flags_item_reads left behind parts flags item passes
item_reads left behind parts (model.ModSeqIs modseq) item passes ends = modseq_reads left behind parts modseq item passes
item_reads left behind parts (model.IdsAre ids) item passes ends = ids_reads left behind parts ids item passes ends
item_reads left behind parts (model.TextIs text) item passes ends = text_reads left behind parts text item passes ends
item_reads left behind parts model.Nothing item passes ends = other_reads left behind parts item passes ends

-- An item of a message: what is read is spelled so.
use Rattle.std.proofs.Common.{◌≡◌, ◌≢◌, ℕ, Bool, true, false, cond, not, List, [], ◌∷◌, ◌++◌, length, codes, refl, ap, sym, ◌∙◌, subst}
use Rattle.std.proofs.Common.{inl, inr, ◌⊎◌, append_assoc, append-nil, Result, Ok, Err}
use Rattle.std.proofs.lemmas.Bool.{and_parts}
use Rattle.std.specs.Prelude.{◌&&◌, ◌==◌}
use Rattle.std.specs.Str.Parse.{IsNumeral}
use Rattle.imap_model.specs.Parts.{Part, bytes}
use Rattle.imap_model.specs.Words.{SameWord, IsGap}
use Rattle.imap_model.specs.Values.{is_wide_byte, IsAtom, IsSection}
use Rattle.imap_model.specs.FetchItems as model
use Rattle.imap_model.specs.FetchItems.{IsUidItem, IsFlagsItem, IsModSeqItem, IsIdSection, IsNstring, IsIdsItem, IsTextItem, known_items, IsOtherName}
use Rattle.imap_model.specs.FetchItems.{IsOrigin, IsSectionName, IsOtherItem, IsItem}
use Rattle.imap_response.specs.declared.fetch.Body.{Body}
use Rattle.imap_response.specs.declared.fetch.Body.TheVariants as bodies
use Rattle.imap_response.specs.declared.fetch.Told.{Told}
use Rattle.imap_response.specs.declared.fetch.Told.TheVariants as tellings
use Rattle.imap_response.specs.declared.flags.Listed.{Listed}
use Rattle.imap_response.specs.Leaf.{gap_at, mark_at, wide_at, same_word, is_digits}
use Rattle.imap_response.specs.Reads.{◌>>=◌, or_else}
use Rattle.imap_response.specs.ReadNumbers.{nonzero_at, modseq_at}
use Rattle.imap_response.specs.Flags.{whole, flags_at}
use Rattle.imap_response.specs.Left.{Left, at_left, mark_in}
use Rattle.imap_response.specs.ReadStrings.{nstring_at}
use Rattle.imap_response.specs.ReadValues.{value_at, section_at}
use Rattle.imap_response.specs.Items.{is_atom, id_section_at, origin_at, other_section_at, told_body, body_behind, body_at, sectioned_at, named_item_at, item_at}
use Rattle.imap_response.proofs.spelling.Choices.{choose, Chosen, choice, of_none}
use Rattle.imap_response.proofs.spelling.Flags.{IsListed, flags_spells}
use Rattle.imap_response.proofs.spelling.IdSections.{id_spells, id_reads, id_is_section, origin_spells}
use Rattle.imap_response.proofs.spelling.Names.{same_is, other_is}
use Rattle.imap_response.proofs.spelling.Numbers.{nonzero_at_spells, modseq_at_spells, is_numeral}
use Rattle.imap_response.proofs.spelling.Passing.{Passes, Fits, bytes_pass, joined, fits_behind, bytes_joined}
use Rattle.imap_response.proofs.spelling.Results.{len_some, len_none, ok_is, ok_first, ok_either, ok_bind, ok_or_else}
use Rattle.imap_response.proofs.spelling.Runs.{reading_cuts}
use Rattle.imap_response.proofs.spelling.Steps.{repart, gap_front, mark_in_front, mark_in_there}
use Rattle.imap_response.proofs.spelling.Strings.{nstring_spells}
use Rattle.imap_response.proofs.spelling.Words.{mark_spells}
use Rattle.imap_response.proofs.spelling.Values.{value_spells, section_spells}

-- what an item tells, in the words of the definition
abbrev pub told_of : Told → model.Told
told_of (tellings.Uid uid) = model.UidIs uid
told_of (tellings.Flags flags excess) = model.FlagsAre flags
told_of (tellings.ModSeq modseq) = model.ModSeqIs modseq
told_of (tellings.Ids ids) = model.IdsAre ids
told_of (tellings.Text text) = model.TextIs text
told_of tellings.Nothing = model.Nothing

abbrev pub Read : Type 0
Read = Told × Left

pub record IsItemFront (left : Left) (read : Read) : Type 0 where
  pub parts : List Part
  pub item : IsItem parts (told_of read.0)
  pub passes : Passes left parts read.1

-- atoms
none_not : (x : Bool) → not x ≡ true → x ≡ false
none_not true is = absurd cc
none_not false is = refl

pub atom_is : (run : List ℕ) → is_atom run ≡ true → (run ≢ []) × (SameWord run (codes "NIL") → ⊥) × (IsNumeral 10 run → ⊥)
atom_is run test =
    let outer = and_parts (not (length run == 0) && not (same_word run (codes "NIL"))) (not (is_digits run)) test in
    let inner = and_parts (not (length run == 0)) (not (same_word run (codes "NIL"))) outer.0 in
    let digits : is_digits run ≡ false = none_not (is_digits run) outer.1 in (
      len_some run (none_not (length run == 0) inner.0),
      other_is run (codes "NIL") (none_not (same_word run (codes "NIL")) inner.1),
      λ numeral. (let is = is_numeral run numeral in cc),
    )

pub atom_front : (text : List ℕ) → is_atom (wide_at text).0 ≡ true → IsAtom (wide_at text).0
atom_front text test =
    let atom = atom_is (wide_at text).0 test in
    let cut = reading_cuts is_wide_byte text in
    record { wide = (atom.0, cut.all); not_nil = atom.1; not_number = atom.2 }

-- bytes in three runs
pub three_runs : (left one two behind : Left) (a b c : List ℕ) → Passes left (bytes a) one → Passes one (bytes b) two →
    Passes two (bytes c) behind → Passes left (bytes (a ++ b ++ c)) behind
three_runs left one two behind a b c first second third =
    repart left behind ((bytes a ++ bytes b) ++ bytes c) (bytes (a ++ b ++ c))
    (ap (λ (p : List Part). p ++ bytes c) (sym (bytes_joined a b)) ∙ sym (bytes_joined (a ++ b) c))
    (joined left (bytes a ++ bytes b) two (bytes c) behind (joined left (bytes a) one (bytes b) two first second) third)

pub listed_whole : (text list rest : List ℕ) → IsListed text list rest → text ≡ (40 ∷ (list ++ 41 ∷ [])) ++ rest
listed_whole text list rest is = is ∙ ap (λ (t : List ℕ). 40 ∷ t) (sym (append_assoc list (41 ∷ []) rest))

-- items without a section, behind their name and the spaces
module _ (start one left : Left) (name gap : List ℕ) (named : Passes start (bytes name) one) (spaces : IsGap gap) (spaced : Passes one (bytes gap) left) where
  uid_item : (read : Read) → SameWord name (codes "UID") → (nonzero_at left.text >>= λ uid. Ok (tellings.Uid uid.0, at_left left uid.1))
      ≡ Ok read → IsItemFront start read
  uid_item read same is =
      let uid = ok_bind (nonzero_at left.text) (λ (uid : ℕ × List ℕ). Ok (tellings.Uid uid.0, at_left left uid.1)) read is in
      let front = nonzero_at_spells left.text uid.0.0 uid.0.1 uid.1 in
      let digits = bytes_pass left front.run uid.0.1 (fits_behind one (bytes gap) left spaced) front.whole in
      subst (IsItemFront start) (ok_is (tellings.Uid uid.0.0, at_left left uid.0.1) read uid.2) (record {
        parts = bytes (name ++ gap ++ front.run);
        item = record { name = name; named = same; gap = gap; spaces = spaces; digits = front.run; number = front.spells; whole = refl };
        passes = three_runs start one left (at_left left uid.0.1) name gap front.run named spaced digits;
      })

  flags_item : (read : Read) → SameWord name (codes "FLAGS") →
      (flags_at whole left.text >>= λ flags. Ok (tellings.Flags flags.0.flags flags.0.excess, at_left left flags.1)) ≡ Ok read →
      IsItemFront start read
  flags_item read same is =
      let flags = ok_bind (flags_at whole left.text) (λ (flags : Listed × List ℕ). Ok
      (tellings.Flags flags.0.flags flags.0.excess, at_left left flags.1)) read is in
      let w = flags_spells left.text flags.0 flags.1 in
      let list = bytes_pass left (40 ∷ (w.0 ++ 41 ∷ [])) flags.0.1 (fits_behind one (bytes gap) left spaced) (listed_whole left.text w.0 flags.0.1 w.1) in
      subst (IsItemFront start) (ok_is (tellings.Flags flags.0.0.flags flags.0.0.excess, at_left left flags.0.1) read flags.2) (record {
        parts = bytes (name ++ gap ++ 40 ∷ (w.0 ++ 41 ∷ []));
        item = record { name = name; named = same; gap = gap; spaces = spaces; text = w.0; listed = w.2; whole = refl };
        passes = three_runs start one left (at_left left flags.0.1) name gap (40 ∷ (w.0 ++ 41 ∷ [])) named spaced list;
      })

  modseq_item : (read : Read) → SameWord name (codes "MODSEQ") →
      (mark_at 40 left.text >>= λ inside. modseq_at inside >>= λ modseq. mark_at 41 modseq.1 >>= λ behind. Ok
      (tellings.ModSeq modseq.0, at_left left behind)) ≡ Ok read → IsItemFront start read
  modseq_item read same is =
      let inside = ok_bind (mark_at 40 left.text) (λ (inside : List ℕ). modseq_at inside >>= λ modseq. mark_at 41 modseq.1 >>= λ behind. Ok
      (tellings.ModSeq modseq.0, at_left left behind)) read is in
      let modseq = ok_bind (modseq_at inside.0) (λ (modseq : ℕ × List ℕ). mark_at 41 modseq.1 >>= λ behind. Ok
      (tellings.ModSeq modseq.0, at_left left behind)) read inside.2 in
      let behind = ok_bind (mark_at 41 modseq.0.1) (λ (behind : List ℕ). Ok (tellings.ModSeq modseq.0.0, at_left left behind)) read modseq.2 in
      let begins = mark_spells 40 left.text inside.0 inside.1 in
      let front = modseq_at_spells inside.0 modseq.0.0 modseq.0.1 modseq.1 in
      let ends = mark_spells 41 modseq.0.1 behind.0 behind.1 in
      let listed : IsListed left.text front.run behind.0 = begins ∙ ap (λ (t : List ℕ). 40 ∷ t) (front.whole ∙ ap (λ (t : List ℕ). front.run ++ t) ends) in
      let list = bytes_pass left (40 ∷ (front.run ++ 41 ∷ [])) behind.0 (fits_behind one (bytes gap) left spaced)
      (listed_whole left.text front.run behind.0 listed) in
      subst (IsItemFront start) (ok_is (tellings.ModSeq modseq.0.0, at_left left behind.0) read behind.2) (record {
        parts = bytes (name ++ gap ++ 40 ∷ (front.run ++ 41 ∷ []));
        item = record { name = name; named = same; gap = gap; spaces = spaces; digits = front.run; number = front.spells; whole = refl };
        passes = three_runs start one left (at_left left behind.0) name gap (40 ∷ (front.run ++ 41 ∷ [])) named spaced list;
      })

  value_item : (read : Read) → IsOtherName (bytes name) ⊎ IsSectionName (bytes name) →
      (value_at left >>= λ value. Ok (tellings.Nothing, value)) ≡ Ok read → IsItemFront start read
  value_item read other is =
      let value = ok_bind (value_at left) (λ (value : Left). Ok (tellings.Nothing, value)) read is in
      let front = value_spells left value.0 (fits_behind one (bytes gap) left spaced) value.1 in
      subst (IsItemFront start) (ok_is (tellings.Nothing, value.0) read value.2) (record {
        parts = bytes name ++ bytes gap ++ front.parts;
        item = record { name = bytes name; named = other; gap = gap; spaces = spaces; value = front.parts; valued = front.valued; whole = refl };
        passes = joined start (bytes name ++ bytes gap) left front.parts value.0 (joined start (bytes name) one (bytes gap) left named spaced) front.passes;
      })

  abbrev rows : List (List ℕ × Result Read ℕ)
  rows = (codes "UID", (nonzero_at left.text >>= λ uid. Ok (tellings.Uid uid.0, at_left left uid.1)))
      ∷ (codes "FLAGS", (flags_at whole left.text >>= λ flags. Ok (tellings.Flags flags.0.flags flags.0.excess, at_left left flags.1)))
      ∷ (
        codes "MODSEQ",
        (mark_at 40 left.text >>= λ inside. modseq_at inside >>= λ modseq. mark_at 41 modseq.1 >>= λ behind. Ok
            (tellings.ModSeq modseq.0, at_left left behind)),
      )
      ∷ []

  abbrev other_value : Result Read ℕ
  other_value = value_at left >>= λ value. Ok (tellings.Nothing, value)

  rows_are : named_item_at whole name left ≡ choose name rows other_value
  unfolding named_item_at
  rows_are = refl

  row_item : (read : Read) → Chosen name rows read → IsItemFront start read
  row_item read (inl row) = uid_item read row.0 row.1
  row_item read (inr (inl row)) = flags_item read row.0 row.1
  row_item read (inr (inr (inl row))) = modseq_item read row.0 row.1
  row_item read (inr (inr (inr row))) = absurd row

  pub named_item : (read : Read) → IsAtom name → named_item_at whole name left ≡ Ok read → IsItemFront start read
  named_item read atom is = elim (choice name rows other_value read (sym rows_are ∙ is)) [
    | inl row ↦ row_item read row
    | inr none ↦ value_item read (inl (name, atom, of_none known_items name none.0, refl)) none.1
  ]

no_err : (r : Result Left ℕ) (e : ℕ) (behind : Left) → r ≡ Err e → r ≡ Ok behind → ⊥
no_err r e behind fails is = cc

-- items with a section, behind the left bracket
abbrev pub told_nothing : Left → Result Read ℕ
told_nothing value = Ok (tellings.Nothing, value)

abbrev pub value_there : Left → List ℕ → Result Read ℕ
value_there behind text = value_at (at_left behind text) >>= told_nothing

abbrev pub origin_there : Left → List ℕ → Result Read ℕ
origin_there behind after = gap_at after >>= value_there behind

abbrev pub section_there : Left → Result Read ℕ
section_there behind = origin_at behind.text >>= origin_there behind

abbrev pub string_told : Body → List ℕ × Left → Result Read ℕ
string_told which string = Ok (told_body which string.0, string.1)

abbrev pub body_there : Body → Left → List ℕ → Result Read ℕ
body_there which behind text = body_behind which (length (wide_at behind.text).0 == 0) (at_left behind text)

abbrev pub body_origin : Body → Left → List ℕ → Result Read ℕ
body_origin which behind after = gap_at after >>= body_there which behind

-- the section of the whole text, or any other
abbrev pub empty_or_other : Left → Result Read ℕ
empty_or_other left = or_else (mark_in 93 left) (body_at bodies.Text) (other_section_at left)

-- this section, and no other, stands before the string
abbrev pub IsBodySection : Body → List Part → Type 0
IsBodySection bodies.Ids inside = IsIdSection inside
IsBodySection bodies.Text inside = inside ≡ []

-- no string is told of this section
abbrev pub NotTold : List ℕ → List Part → List ℕ → Type 0
NotTold name inside origin = (which : Body) → SameWord name (codes "BODY") → IsBodySection which inside → origin ≢ []

module _ (start left : Left) (name : List ℕ) (atom : IsAtom name) (named : Passes start (bytes (name ++ 91 ∷ [])) left) where
  -- a section that isn't that of the identifiers, or one with an origin, and then a value
  passed_item : (behind : Left) (inside : List Part) (origin rest text : List ℕ) (read : Read) → IsSection inside → IsOrigin origin →
      NotTold name inside origin
      → Passes left (inside ++ bytes (93 ∷ [])) behind → behind.text ≡ origin ++ rest → gap_at rest ≡ Ok text →
      value_there behind text ≡ Ok read → IsItemFront start read
  passed_item behind inside origin rest text read section origins other passes whole gapped is =
      let fits = fits_behind left (inside ++ bytes (93 ∷ [])) behind passes in
      let one = bytes_pass behind origin rest fits whole in
      let fits1 = fits_behind behind (bytes origin) (at_left behind rest) one in
      let two = gap_front (at_left behind rest) text fits1 gapped in
      let fits2 = fits_behind (at_left behind rest) (bytes two.gap) (at_left behind text) two.passes in
      let value = ok_bind (value_at (at_left behind text)) told_nothing read is in
      let front = value_spells (at_left behind text) value.0 fits2 value.1 in
      let with_section : Passes start (bytes (name ++ 91 ∷ []) ++ (inside ++ bytes (93 ∷ []))) behind =
      joined start (bytes (name ++ 91 ∷ [])) left (inside ++ bytes (93 ∷ [])) behind named passes in
      let name_parts : List Part = bytes (name ++ 91 ∷ []) ++ inside ++ bytes (93 ∷ origin) in
      let with_name : Passes start (bytes (name ++ 91 ∷ []) ++ inside ++ bytes (93 ∷ origin)) (at_left behind rest) =
      repart start (at_left behind rest) ((bytes (name ++ 91 ∷ []) ++ (inside ++ bytes (93 ∷ []))) ++ bytes origin)
      (bytes (name ++ 91 ∷ []) ++ inside ++ bytes (93 ∷ origin))
      (ap (λ (p : List Part). p ++ bytes origin) (sym (append_assoc (bytes (name ++ 91 ∷ [])) inside (bytes (93 ∷ []))))
      ∙ append_assoc (bytes (name ++ 91 ∷ []) ++ inside) (bytes (93 ∷ [])) (bytes origin))
      (joined start (bytes (name ++ 91 ∷ []) ++ (inside ++ bytes (93 ∷ []))) behind (bytes origin) (at_left behind rest) with_section one) in
      let with_gap = joined start (bytes (name ++ 91 ∷ []) ++ inside ++ bytes (93 ∷ origin)) (at_left behind rest) (bytes two.gap)
      (at_left behind text) with_name two.passes in
      subst (IsItemFront start) (ok_is (tellings.Nothing, value.0) read value.2) (record {
        parts = (bytes (name ++ 91 ∷ []) ++ inside ++ bytes (93 ∷ origin)) ++ bytes two.gap ++ front.parts;
        item = record {
          name = bytes (name ++ 91 ∷ []) ++ inside ++ bytes (93 ∷ origin);
          named = inr (record {
            name = name;
            atom = atom;
            inside = inside;
            section = section;
            origin = origin;
            origins = origins;
            other = other bodies.Ids;
            no_text = other bodies.Text;
            whole = refl;
          });
          gap = two.gap;
          spaces = two.spaces;
          value = front.parts;
          valued = front.valued;
          whole = refl;
        };
        passes = joined start ((bytes (name ++ 91 ∷ []) ++ inside ++ bytes (93 ∷ origin)) ++ bytes two.gap)
            (at_left behind text) front.parts value.0 with_gap front.passes;
      })

  fits_here : Fits left
  fits_here = fits_behind start (bytes (name ++ 91 ∷ [])) left named

  other_item : (read : Read) → ((which : Body) (behind : Left) (inside : List Part) → SameWord name (codes "BODY") → IsBodySection which inside →
      Passes left (inside ++ bytes (93 ∷ [])) behind → ⊥) → other_section_at left ≡ Ok read → IsItemFront start read
  unfolding other_section_at
  other_item read none_told is =
      let behind = ok_bind (section_at left) section_there read is in
      let after = ok_bind (origin_at behind.0.text) (origin_there behind.0) read behind.2 in
      let text = ok_bind (gap_at after.0) (value_there behind.0) read after.2 in
      let section = section_spells (length left.text) left behind.0 fits_here behind.1 in
      let origin = origin_spells behind.0.text after.0 after.1 in
      passed_item behind.0 section.inside origin.origin after.0 text.0 read section.section origin.origins
      (λ which same told none. none_told which behind.0 section.inside same told section.passes) section.passes origin.whole text.1 text.2

  -- a string and what it tells, as the definition has it
  string_item : (which : Body) (inside value : List Part) (gap bytes_told : List ℕ) → SameWord name (codes "BODY") → IsBodySection which inside →
      IsGap gap → IsNstring value bytes_told
      → IsItem (bytes (name ++ 91 ∷ []) ++ inside ++ bytes (93 ∷ gap) ++ value) (told_of (told_body which bytes_told))
  string_item bodies.Ids inside value gap bytes_told same section spaces told = record {
    name = name;
    named = same;
    inside = inside;
    id_section = section;
    gap = gap;
    spaces = spaces;
    value = value;
    told = told;
    whole = refl;
  }
  string_item bodies.Text inside value gap bytes_told same section spaces told = record {
    name = name;
    named = same;
    gap = gap;
    spaces = spaces;
    value = value;
    told = told;
    whole = ap (λ (p : List Part). p ++ value) (ap (λ (p : List Part). bytes (name ++ 91 ∷ []) ++ p ++ bytes (93 ∷ gap)) section
        ∙ ap (λ (p : List Part). p ++ bytes (93 ∷ gap)) (append-nil (bytes (name ++ 91 ∷ [])))
        ∙ sym (bytes_joined (name ++ 91 ∷ []) (93 ∷ gap)) ∙ ap (λ (t : List ℕ). bytes t) (append_assoc name (91 ∷ []) (93 ∷ gap)));
  }

  told_item : (which : Body) (behind : Left) (inside : List Part) (rest text : List ℕ) (read : Read) → SameWord name (codes "BODY") →
      IsBodySection which inside → Passes left (inside ++ bytes (93 ∷ [])) behind → behind.text ≡ rest → gap_at rest ≡ Ok text
      → (nstring_at (at_left behind text) >>= string_told which) ≡ Ok read → IsItemFront start read
  told_item which behind inside rest text read same section passes whole gapped is =
      let fits = fits_behind left (inside ++ bytes (93 ∷ [])) behind passes in
      let two = gap_front behind text fits (ap gap_at whole ∙ gapped) in
      let fits2 = fits_behind behind (bytes two.gap) (at_left behind text) two.passes in
      let string = ok_bind (nstring_at (at_left behind text)) (string_told which) read is in
      let front = nstring_spells (at_left behind text) string.0 fits2 string.1 in
      let with_section : Passes start (bytes (name ++ 91 ∷ []) ++ (inside ++ bytes (93 ∷ []))) behind =
      joined start (bytes (name ++ 91 ∷ [])) left (inside ++ bytes (93 ∷ [])) behind named passes in
      let with_gap : Passes start (bytes (name ++ 91 ∷ []) ++ inside ++ bytes (93 ∷ two.gap)) (at_left behind text) =
      repart start (at_left behind text) ((bytes (name ++ 91 ∷ []) ++ (inside ++ bytes (93 ∷ []))) ++ bytes two.gap)
      (bytes (name ++ 91 ∷ []) ++ inside ++ bytes (93 ∷ two.gap))
      (ap (λ (p : List Part). p ++ bytes two.gap) (sym (append_assoc (bytes (name ++ 91 ∷ [])) inside (bytes (93 ∷ []))))
      ∙ append_assoc (bytes (name ++ 91 ∷ []) ++ inside) (bytes (93 ∷ [])) (bytes two.gap))
      (joined start (bytes (name ++ 91 ∷ []) ++ (inside ++ bytes (93 ∷ []))) behind (bytes two.gap) (at_left behind text) with_section two.passes) in
      subst (IsItemFront start) (ok_is (told_body which string.0.0, string.0.1) read string.2) (record {
        parts = bytes (name ++ 91 ∷ []) ++ inside ++ bytes (93 ∷ two.gap) ++ front.0;
        item = string_item which inside front.0 two.gap string.0.0 same section two.spaces front.1;
        passes = joined start (bytes (name ++ 91 ∷ []) ++ inside ++ bytes (93 ∷ two.gap)) (at_left behind text) front.0 string.0.1 with_gap front.2;
      })

  section_is : (which : Body) (inside : List Part) → IsBodySection which inside → IsSection inside
  section_is bodies.Ids inside section = id_is_section inside section
  section_is bodies.Text inside section = ([], tt, tt, section)

  body_from : (which : Body) (behind : Left) (inside : List Part) (origin rest text : List ℕ) (read : Read) (t : Bool) → (length origin == 0) ≡ t →
      SameWord name (codes "BODY") → IsBodySection which inside → Passes left (inside ++ bytes (93 ∷ [])) behind
      → IsOrigin origin → behind.text ≡ origin ++ rest → gap_at rest ≡ Ok text → body_behind which t (at_left behind text) ≡ Ok read
      → IsItemFront start read
  body_from which behind inside origin rest text read true none same section passes origins whole gapped is =
      told_item which behind inside rest text read same section passes (whole ∙ ap (λ (o : List ℕ). o ++ rest) (len_none origin none)) gapped is
  body_from which behind inside origin rest text read false some same section passes origins whole gapped is =
      passed_item behind inside origin rest text read (section_is which inside section) origins (λ w s i. len_some origin some) passes whole gapped is

  body_item : (which : Body) (behind : Left) (inside : List Part) (read : Read) → SameWord name (codes "BODY") → IsBodySection which inside →
      Passes left (inside ++ bytes (93 ∷ [])) behind → body_at which behind ≡ Ok read → IsItemFront start read
  unfolding body_at
  body_item which behind inside read same section passes is =
      let after = ok_bind (origin_at behind.text) (body_origin which behind) read is in
      let text = ok_bind (gap_at after.0) (body_there which behind) read after.2 in
      let origin = origin_spells behind.text after.0 after.1 in
      body_from which behind inside origin.origin after.0 text.0 read (length (wide_at behind.text).0 == 0)
      (ap (λ (o : List ℕ). length o == 0) (sym origin.run)) same section passes origin.origins origin.whole text.1 text.2

  -- neither section whose string is told stands here, where neither is read
  none_read : (ids empty : ℕ) → id_section_at left ≡ Err ids → mark_in 93 left ≡ Err empty → (which : Body) (behind : Left) (inside : List Part) →
      IsBodySection which inside → Passes left (inside ++ bytes (93 ∷ [])) behind → ⊥
  none_read ids empty no_ids no_end bodies.Ids behind inside section passes =
      no_err (id_section_at left) ids behind no_ids (id_reads left behind inside section passes)
  none_read ids empty no_ids no_end bodies.Text behind inside section passes =
      no_err (mark_in 93 left) empty behind no_end
      (mark_in_there 93 left behind (subst (λ (p : List Part). Passes left (p ++ bytes (93 ∷ [])) behind) section passes))

  pub sectioned_item : (read : Read) → sectioned_at name left ≡ Ok read → IsItemFront start read
  unfolding sectioned_at
  sectioned_item read is = elim (ok_either (same_word name (codes "BODY"))
      (or_else (id_section_at left) (body_at bodies.Ids) (empty_or_other left)) (other_section_at left) read is) [
        | inl body ↦
            let same = same_is name (codes "BODY") body.0 in
            elim (ok_or_else (id_section_at left) (body_at bodies.Ids) (empty_or_other left) read body.1) [
              | inl ids ↦
                  let front = id_spells left ids.0 fits_here ids.1 in
                  body_item bodies.Ids ids.0 front.inside read same front.section front.passes ids.2
              | inr more ↦ elim (ok_or_else (mark_in 93 left) (body_at bodies.Text) (other_section_at left) read more.2) [
                | inl text ↦ body_item bodies.Text text.0 [] read same refl (mark_in_front 93 left text.0 fits_here text.1) text.2
                | inr other ↦ other_item read
                    (λ which behind inside s section passes. none_read more.0 other.0 more.1 other.1 which behind inside section passes) other.2
              ]
            ]
        | inr other ↦ other_item read (λ which behind inside same section passes. other_is name (codes "BODY") other.0 same) other.1
      ]

-- an item
abbrev pub by_section : Left → List ℕ → Result Read ℕ
by_section left inside = sectioned_at (wide_at left.text).0 (at_left left inside)

abbrev pub by_name : Left → List ℕ → Result Read ℕ
by_name left after = named_item_at whole (wide_at left.text).0 (at_left left after)

pub item_is : (left : Left) → item_at whole left ≡ cond (is_atom (wide_at left.text).0)
    (or_else (mark_at 91 (wide_at left.text).1) (by_section left) (gap_at (wide_at left.text).1 >>= by_name left)) (Err (length left.text))
unfolding item_at
item_is left = refl

pub item_spells : (left : Left) (read : Read) → Fits left → item_at whole left ≡ Ok read → IsItemFront left read
item_spells left read fits is =
    let test = ok_first (is_atom (wide_at left.text).0) (length left.text)
    (or_else (mark_at 91 (wide_at left.text).1) (by_section left) (gap_at (wide_at left.text).1 >>= by_name left)) read
    (sym (item_is left) ∙ is) in
    let atom = atom_front left.text test.0 in
    let cut = reading_cuts is_wide_byte left.text in
    elim (ok_or_else (mark_at 91 (wide_at left.text).1) (by_section left) (gap_at (wide_at left.text).1 >>= by_name left) read test.1) [
      | inl section ↦
          let mark = mark_spells 91 (wide_at left.text).1 section.0 section.1 in
          let whole : left.text ≡ ((wide_at left.text).0 ++ 91 ∷ []) ++ section.0 =
          cut.whole ∙ ap (λ (t : List ℕ). (wide_at left.text).0 ++ t) mark
          ∙ sym (append_assoc (wide_at left.text).0 (91 ∷ []) section.0) in
          sectioned_item left (at_left left section.0) (wide_at left.text).0 atom
          (bytes_pass left ((wide_at left.text).0 ++ 91 ∷ []) section.0 fits whole) read section.2
      | inr plain ↦
          let after = ok_bind (gap_at (wide_at left.text).1) (by_name left) read plain.2 in
          let one = bytes_pass left (wide_at left.text).0 (wide_at left.text).1 fits cut.whole in
          let two = gap_front (at_left left (wide_at left.text).1) after.0
          (fits_behind left (bytes (wide_at left.text).0) (at_left left (wide_at left.text).1) one) after.1 in
          named_item left (at_left left (wide_at left.text).1) (at_left left after.0) (wide_at left.text).0 two.gap one two.spaces two.passes read atom after.2
    ]

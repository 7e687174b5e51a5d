-- The pairs of an ESEARCH: what is read, and what is spelled.
use Rattle.std.proofs.Common.{◌≡◌, ◌≢◌, ℕ, zero, suc, ◌≤◌, true, false, cond, List, [], ◌∷◌, ◌++◌, length, codes, refl, ap, sym, ◌∙◌}
use Rattle.std.proofs.Common.{subst, inl, inr, arith, append_assoc, append-nil, length-append, Result, Ok, Err}
use Rattle.std.specs.Prelude.{◌==◌, fold}
use Rattle.uid_sets.specs.SequenceSet.{Spells, items_of}
use Rattle.uid_sets.specs.declared.uid.UidRange.{UidRange}
use Rattle.imap_model.specs.Parts.{Part, bytes}
use Rattle.imap_model.specs.Searches.{Pair, All, Others, IsPair, ArePairs, with_pair}
use Rattle.imap_model.specs.Words.{IsGap, AreSpaces}
use Rattle.imap_model.specs.Values.{is_wide_byte, IsWide, IsAtom}
use Rattle.imap_model.proofs.Cutting.{Stops as Ends}
use Rattle.imap_response.specs.Leaf.{is_space, gap_at, blank_at, wide_at, same_word}
use Rattle.imap_response.specs.Reads.{◌>>=◌}
use Rattle.imap_response.specs.Sets.{set_at}
use Rattle.imap_response.specs.Left.{Left, at_left}
use Rattle.imap_response.specs.ReadValues.{value_at}
use Rattle.imap_response.specs.Items.{is_atom}
use Rattle.imap_response.specs.ReadSearches.{pair_at, pairs_from}
use Rattle.imap_response.proofs.spelling.CodeRows.{space_first}
use Rattle.imap_response.proofs.spelling.IdSections.{gap_wide}
use Rattle.imap_response.proofs.spelling.Items.{atom_front, three_runs}
use Rattle.imap_response.proofs.spelling.ItemReads.{is_atom_of, named_atom, value_solid, wide_solid, three}
use Rattle.imap_response.proofs.spelling.Names.{same_is, other_is, is_same, is_other}
use Rattle.imap_response.proofs.spelling.Numbers.{IsFront}
use Rattle.imap_response.proofs.spelling.Passing.{Passes, Fits, text_of, bytes_pass, pass_bytes, pass_left, split, joined, fits_behind, text_joined, bytes_text}
use Rattle.imap_response.proofs.spelling.Results.{len_none, ok_is, ok_first, ok_either, ok_bind, bind_ok}
use Rattle.imap_response.proofs.spelling.Runs.{IsCut, reading_cuts, cut_front, cut_behind}
use Rattle.imap_response.proofs.spelling.SetBytes.{set_wide}
use Rattle.imap_response.proofs.spelling.Sets.{set_at_spells, set_at_reads}
use Rattle.imap_response.proofs.spelling.Steps.{repart, gap_front, gap_there}
use Rattle.imap_response.proofs.spelling.Values.{value_spells}
use Rattle.imap_response.proofs.spelling.ValueReads.{value_reads}
use Rattle.imap_response.proofs.spelling.WordLists.{blank_some}
use Rattle.imap_response.proofs.spelling.Words.{all_spaces, spaces_end, no_space}

abbrev Read : Type 0
Read = List UidRange × Left

-- one pair
pub record IsPairFront (uids : List UidRange) (left : Left) (read : Read) : Type 0 where
  pub before : List ℕ
  pub name : List ℕ
  pub between : List ℕ
  pub value : List Part
  pub pair : Pair
  pub before_spaces : IsGap before
  pub between_spaces : IsGap between
  pub is_pair : IsPair name value pair
  pub passes : Passes left (bytes (before ++ name ++ between) ++ value) read.1
  pub counts : read.0 ≡ with_pair uids pair

abbrev put_all : Left → List UidRange × List ℕ → Result Read ℕ
put_all left set = Ok (set.0, at_left left set.1)

abbrev put_other : List UidRange → Left → Result Read ℕ
put_other uids behind = Ok (uids, behind)

abbrev by_name : List UidRange → Left → List ℕ → List ℕ → Result Read ℕ
by_name uids left name after = cond (same_word name (codes "ALL")) (set_at after >>= put_all left) (value_at (at_left left after) >>= put_other uids)

abbrev by_text : List UidRange → Left → List ℕ → Result Read ℕ
by_text uids left text = cond (is_atom (wide_at text).0) (gap_at (wide_at text).1 >>= by_name uids left (wide_at text).0) (Err (length text))

pair_is : (uids : List UidRange) (left : Left) → pair_at uids left ≡ (gap_at left.text >>= by_text uids left)
unfolding pair_at
pair_is uids left = refl

pub pair_spells : (uids : List UidRange) (left : Left) (read : Read) → Fits left → pair_at uids left ≡ Ok read → IsPairFront uids left read
pair_spells uids left read fits is =
    let text = ok_bind (gap_at left.text) (by_text uids left) read (sym (pair_is uids left) ∙ is) in
    let test = ok_first (is_atom (wide_at text.0).0) (length text.0) (gap_at (wide_at text.0).1 >>= by_name uids left (wide_at text.0).0) read text.2 in
    let after = ok_bind (gap_at (wide_at text.0).1) (by_name uids left (wide_at text.0).0) read test.1 in
    let name : List ℕ = (wide_at text.0).0 in
    let atom = atom_front text.0 test.0 in
    let one = gap_front left text.0 fits text.1 in
    let fits1 = fits_behind left (bytes one.gap) (at_left left text.0) one.passes in
    let cut = reading_cuts is_wide_byte text.0 in
    let two = bytes_pass (at_left left text.0) (wide_at text.0).0 (wide_at text.0).1 fits1 cut.whole in
    let fits2 = fits_behind (at_left left text.0) (bytes (wide_at text.0).0) (at_left left (wide_at text.0).1) two in
    let gap = gap_front (at_left left (wide_at text.0).1) after.0 fits2 after.1 in
    let fits3 = fits_behind (at_left left (wide_at text.0).1) (bytes gap.gap) (at_left left after.0) gap.passes in
    let front = three_runs left (at_left left text.0) (at_left left (wide_at text.0).1) (at_left left after.0) one.gap
    (wide_at text.0).0 gap.gap one.passes two gap.passes in
    elim (ok_either (same_word (wide_at text.0).0 (codes "ALL")) (set_at after.0 >>= put_all left)
    (value_at (at_left left after.0) >>= put_other uids) read after.2) [
      | inl all ↦
          let set = ok_bind (set_at after.0) (put_all left) read all.1 in
          let value = set_at_spells after.0 set.0.0 set.0.1 set.1 in
          let last = bytes_pass (at_left left after.0) value.run set.0.1 fits3 value.whole in
          subst (IsPairFront uids left) (ok_is (set.0.0, at_left left set.0.1) read set.2) (record {
            before = one.gap;
            name = (wide_at text.0).0;
            between = gap.gap;
            value = bytes value.run;
            pair = All set.0.0;
            before_spaces = one.spaces;
            between_spaces = gap.spaces;
            is_pair = (same_is (wide_at text.0).0 (codes "ALL") all.0, value.run, value.spells, refl);
            passes = joined left (bytes (one.gap ++ (wide_at text.0).0 ++ gap.gap)) (at_left left after.0) (bytes value.run) (at_left left set.0.1) front last;
            counts = refl;
          })
      | inr other ↦
          let value = ok_bind (value_at (at_left left after.0)) (put_other uids) read other.1 in
          let w = value_spells (at_left left after.0) value.0 fits3 value.1 in
          subst (IsPairFront uids left) (ok_is (uids, value.0) read value.2) (record {
            before = one.gap;
            name = (wide_at text.0).0;
            between = gap.gap;
            value = w.parts;
            pair = Others;
            before_spaces = one.spaces;
            between_spaces = gap.spaces;
            is_pair = (atom, other_is (wide_at text.0).0 (codes "ALL") other.0, w.valued);
            passes = joined left (bytes (one.gap ++ (wide_at text.0).0 ++ gap.gap)) (at_left left after.0) w.parts value.0 front w.passes;
            counts = refl;
          })
    ]

-- a pair is read
set_some : (text : List ℕ) (uids : List UidRange) → Spells text uids → text ≢ []
unfolding items_of
set_some text uids spells none =
    let read = ap items_of (sym none) ∙ spells.read in cc

pub set_is_wide : (text : List ℕ) (uids : List UidRange) → Spells text uids → IsWide text
set_is_wide text uids spells = (set_some text uids spells, set_wide text spells.written spells.read)

pub pair_atom : (name : List ℕ) (value : List Part) (pair : Pair) → IsPair name value pair → IsAtom name
pair_atom name value (All uids) is = named_atom name (codes "ALL") is.0 (λ e. cc) refl refl refl
pair_atom name value Others is = is.0

pair_solid : (left behind : Left) (name : List ℕ) (value : List Part) (pair : Pair) → IsPair name value pair → Passes left value behind →
    Ends is_space left.text
pair_solid left behind name value (All uids) is passes =
    let passes' = repart left behind value (bytes is.1) is.3 passes in
    subst (Ends is_space) (sym (pass_bytes left is.1 behind passes')) (wide_solid is.1 behind.text (set_is_wide is.1 uids is.2))
pair_solid left behind name value Others is passes = value_solid left behind value is.2 passes

named_by : (uids : List UidRange) (left mid behind : Left) (name : List ℕ) (value : List Part) (pair : Pair) → IsPair name value pair →
    at_left left mid.text ≡ mid → Passes mid value behind → Ends is_wide_byte behind.text →
    by_name uids left name mid.text ≡ Ok (with_pair uids pair, behind)
named_by uids left mid behind name value (All set) is back passes ends =
    let passes' = repart mid behind value (bytes is.1) is.3 passes in
    let front : IsFront Spells mid.text set behind.text = record { run = is.1; spells = is.2; whole = pass_bytes mid is.1 behind passes'; ends = ends } in
    let there : at_left left behind.text ≡ behind = ap (λ (l : Left). at_left l behind.text) back ∙ pass_left mid is.1 behind passes' in
    rw (is_same name (codes "ALL") is.0) (bind_ok (set_at mid.text) (put_all left) (set, behind.text) (set, behind)
    (set_at_reads mid.text set behind.text front) (ap (λ (l : Left). Ok (set, l)) there))
named_by uids left mid behind name value Others is back passes ends =
    rw (is_other name (codes "ALL") is.1) (bind_ok (value_at (at_left left mid.text)) (put_other uids) behind (uids, behind)
    (ap value_at back ∙ value_reads mid behind value is.2 passes ends) refl)

pub pair_reads : (uids : List UidRange) (left behind : Left) (before name between : List ℕ) (value : List Part) (pair : Pair) →
    IsGap before → IsGap between → IsPair name value pair
    → Passes left (bytes (before ++ name ++ between) ++ value) behind → Ends is_wide_byte behind.text → pair_at uids left ≡ Ok (with_pair uids pair, behind)
pair_reads uids left behind before name between value pair spaces spaces' is passes ends =
    let cut = split left (bytes (before ++ name ++ between)) value behind passes in
    let w = three left cut.0 before name between cut.1 in
    let atom = pair_atom name value pair is in
    let text = pass_bytes w.one name w.two w.second in
    let solid = subst (Ends is_space) (sym text) (wide_solid name w.two.text atom.wide) in
    let name_cut : IsCut is_wide_byte w.one.text name w.two.text =
    record {
      all = atom.wide.1;
      ends = gap_wide between cut.0.text w.two.text spaces' (pass_bytes w.two between cut.0 w.third);
      whole =
          text;
    } in
    let front : (wide_at w.one.text).0 ≡ name = cut_front is_wide_byte w.one.text name w.two.text name_cut in
    let rest : (wide_at w.one.text).1 ≡ w.two.text = cut_behind is_wide_byte w.one.text name w.two.text name_cut in
    let test : is_atom (wide_at w.one.text).0 ≡ true = ap is_atom front ∙ is_atom_of name atom in
    let back : at_left left cut.0.text ≡ cut.0 = pass_left left (before ++ name ++ between) cut.0 cut.1 in
    let after : gap_at (wide_at w.one.text).1 ≡ Ok cut.0.text = ap gap_at rest
    ∙ gap_there w.two cut.0 between spaces' (pair_solid cut.0 behind name value pair is cut.2) w.third in
    pair_is uids left ∙ bind_ok (gap_at left.text) (by_text uids left) w.one.text (with_pair uids pair, behind)
    (gap_there left w.one before spaces solid w.first)
    (rw test (bind_ok (gap_at (wide_at w.one.text).1) (by_name uids left (wide_at w.one.text).0) cut.0.text (with_pair uids pair, behind) after
    (ap (λ (n : List ℕ). by_name uids left n cut.0.text) front ∙ named_by uids left cut.0 behind name value pair is back cut.2 ends)))

-- pairs
abbrev next_pairs : ℕ → Read → Result (List UidRange) ℕ
next_pairs more pair = pairs_from more pair.0 pair.1

pairs_none : (uids : List UidRange) (left : Left) → pairs_from zero uids left ≡ Ok uids
unfolding pairs_from
pairs_none uids left = refl

pairs_is : (more : ℕ) (uids : List UidRange) (left : Left) →
    pairs_from (suc more) uids left ≡ cond (length (blank_at left.text) == 0) (Ok uids) (pair_at uids left >>= next_pairs more)
unfolding pairs_from
pairs_is more uids left = refl

pub record ArePairsFront (uids : List UidRange) (left : Left) (result : List UidRange) : Type 0 where
  pub told : List Part
  pub pairs : List Pair
  pub blank : List ℕ
  pub end : Left
  pub are : ArePairs told pairs
  pub spaces : AreSpaces blank
  pub passes : Passes left (told ++ bytes blank) end
  pub none : end.text ≡ []
  pub counts : result ≡ fold with_pair uids pairs

end_pairs : (uids : List UidRange) (left : Left) (result : List UidRange) → Fits left → AreSpaces left.text →
    ◌≡◌ {A = Result (List UidRange) ℕ} (Ok uids) (Ok result) → ArePairsFront uids left result
end_pairs uids left result fits spaces is = record {
  told = [];
  pairs = [];
  blank = left.text;
  end = at_left left [];
  are = refl;
  spaces = spaces;
  passes = bytes_pass left left.text [] fits (sym (append-nil left.text));
  none = refl;
  counts = sym (ok_is uids result is);
}

none_left : (text : List ℕ) → length text ≤ 0 → AreSpaces text
none_left [] fits = tt
none_left (b ∷ text) fits = absurd (omega arith)

pair_shorter : (left behind : Left) (before name between : List ℕ) (value : List Part) (more : ℕ) → IsGap before →
    Passes left (bytes (before ++ name ++ between) ++ value) behind → length left.text ≤ suc more → length behind.text ≤ more
pair_shorter left behind [] name between value more spaces passes fits = absurd (spaces.0 refl)
pair_shorter left behind (b ∷ before) name between value more spaces passes fits =
    omega (arith, ap length passes.text, length-append (text_of (bytes ((b ∷ before) ++ name ++ between) ++ value)) behind.text, fits)

pub pairs_spell : (n : ℕ) (uids : List UidRange) (left : Left) (result : List UidRange) → Fits left → length left.text ≤ n →
    pairs_from n uids left ≡ Ok result → ArePairsFront uids left result
pairs_spell zero uids left result fits short is = end_pairs uids left result fits (none_left left.text short) (sym (pairs_none uids left) ∙ is)
pairs_spell (suc more) uids left result fits short is =
    elim (ok_either (length (blank_at left.text) == 0) (Ok uids) (pair_at uids left >>= next_pairs more) result (sym (pairs_is more uids left) ∙ is)) [
      | inl blank ↦ end_pairs uids left result fits (all_spaces left.text (len_none (blank_at left.text) blank.0)) blank.1
      | inr later ↦
          let pair = ok_bind (pair_at uids left) (next_pairs more) result later.1 in
          let front = pair_spells uids left pair.0 fits pair.1 in
          let rest = pairs_spell more pair.0.0 pair.0.1 result (fits_behind left
          (bytes (front.before ++ front.name ++ front.between) ++ front.value) pair.0.1 front.passes)
          (pair_shorter left pair.0.1 front.before front.name front.between front.value more front.before_spaces front.passes short) pair.2 in
          record {
            told = bytes (front.before ++ front.name ++ front.between) ++ front.value ++ rest.told;
            pairs = front.pair ∷ rest.pairs;
            blank = rest.blank;
            end = rest.end;
            are = (front.before, front.name, front.between, front.value, rest.told, front.before_spaces, front.between_spaces, front.is_pair, refl, rest.are);
            spaces = rest.spaces;
            passes = repart left rest.end ((bytes (front.before ++ front.name ++ front.between) ++ front.value)
                ++ (rest.told ++ bytes rest.blank)) ((bytes (front.before ++ front.name ++ front.between) ++ front.value ++ rest.told)
                ++ bytes rest.blank)
                (sym (append_assoc (bytes (front.before ++ front.name ++ front.between) ++ front.value) rest.told (bytes rest.blank)))
                (joined left (bytes (front.before ++ front.name ++ front.between) ++ front.value) pair.0.1
                (rest.told ++ bytes rest.blank) rest.end front.passes rest.passes);
            none = rest.none;
            counts = rest.counts ∙ ap (λ (u : List UidRange). fold with_pair u rest.pairs) front.counts;
          }
    ]

-- what stands behind a pair
pub blank_text : (left end : Left) (blank : List ℕ) → Passes left (bytes blank) end → end.text ≡ [] → left.text ≡ blank
blank_text left end blank passes none = pass_bytes left blank end passes ∙ ap (λ (t : List ℕ). blank ++ t) none ∙ append-nil blank

blank_wide : (text : List ℕ) → AreSpaces text → Ends is_wide_byte text
blank_wide [] spaces = tt
blank_wide (b ∷ text) spaces = ap is_wide_byte spaces.0

-- the first pair and the rest
pub record IsFirst (left end : Left) (before name between : List ℕ) (value later : List Part) (blank : List ℕ) : Type 0 where
  pub mid : Left
  pub first : Passes left (bytes (before ++ name ++ between) ++ value) mid
  pub rest : Passes mid (later ++ bytes blank) end

pub first_pair : (left end : Left) (told : List Part) (before name between : List ℕ) (value later : List Part) (blank : List ℕ) →
    told ≡ bytes (before ++ name ++ between) ++ value ++ later → Passes left (told ++ bytes blank) end →
    IsFirst left end before name between value later blank
first_pair left end told before name between value later blank is passes =
    let cut = split left (bytes (before ++ name ++ between) ++ value) (later ++ bytes blank) end
    (repart left end (told ++ bytes blank) ((bytes (before ++ name ++ between) ++ value) ++ (later ++ bytes blank))
    (ap (λ (p : List Part). p ++ bytes blank) is ∙ append_assoc (bytes (before ++ name ++ between) ++ value) later
    (bytes blank)) passes) in
    record { mid = cut.0; first = cut.1; rest = cut.2 }

gap_first : (before name between more text : List ℕ) → IsGap before → text ≡ (before ++ name ++ between) ++ more → Ends is_wide_byte text
gap_first before name between more text spaces is =
    space_first before (name ++ (between ++ more)) text spaces.0 spaces.1
    (is ∙ append_assoc (before ++ name) between more ∙ append_assoc before name (between ++ more))

pub pair_text : (left mid : Left) (before name between : List ℕ) (value : List Part) →
    Passes left (bytes (before ++ name ++ between) ++ value) mid → left.text ≡ (before ++ name ++ between) ++ (text_of value ++ mid.text)
pair_text left mid before name between value passes =
    passes.text ∙ ap (λ (t : List ℕ). t ++ mid.text) (text_joined (bytes (before ++ name ++ between)) value
    ∙ ap (λ (t : List ℕ). t ++ text_of value) (bytes_text (before ++ name ++ between)))
    ∙ append_assoc (before ++ name ++ between) (text_of value) mid.text

pub pairs_wide : (pairs : List Pair) (left end : Left) (told : List Part) (blank : List ℕ) → ArePairs told pairs → AreSpaces blank →
    Passes left (told ++ bytes blank) end → end.text ≡ [] → Ends is_wide_byte left.text
pairs_wide [] left end told blank are spaces passes none =
    subst (Ends is_wide_byte) (sym (blank_text left end blank (subst
    (λ (p : List Part). Passes left (p ++ bytes blank) end) are passes) none)) (blank_wide blank spaces)
pairs_wide (pair ∷ pairs) left end told blank are spaces passes none =
    let w = first_pair left end told are.0 are.1 are.2 are.3 are.4 blank are.8 passes in
    gap_first are.0 are.1 are.2 (text_of are.3 ++ w.mid.text) left.text are.5 (pair_text left w.mid are.0 are.1 are.2 are.3 w.first)

some_append : (name rest : List ℕ) → name ≢ [] → name ++ rest ≢ []
some_append [] rest some is = some refl
some_append (b ∷ name) rest some is = cc

nothing_there : (left behind : Left) (before name between : List ℕ) (value : List Part) → IsGap before →
    Passes left (bytes (before ++ name ++ between) ++ value) behind → length left.text ≤ 0 → ⊥
nothing_there left behind [] name between value spaces passes fits = spaces.0 refl
nothing_there left behind (b ∷ before) name between value spaces passes fits =
    omega (arith, ap length passes.text, length-append (text_of (bytes ((b ∷ before) ++ name ++ between) ++ value)) behind.text, fits)

some_first : (before rest text : List ℕ) (pair_name : List ℕ) → IsGap before → text ≡ before ++ (pair_name ++ rest) → IsWide pair_name →
    (length (blank_at text) == 0) ≡ false
some_first before rest text name spaces is wide =
    blank_some text (name ++ rest) (record {
      gap = before;
      spaces = spaces;
      whole = is;
      no_more =
          no_space (name ++ rest) (wide_solid name rest wide);
    }) (some_append name rest wide.0)

pub pairs_read : (pairs : List Pair) (n : ℕ) (uids : List UidRange) (left end : Left) (told : List Part) (blank : List ℕ) →
    ArePairs told pairs → AreSpaces blank → Passes left (told ++ bytes blank) end → end.text ≡ [] → length left.text ≤ n
    → pairs_from n uids left ≡ Ok (fold with_pair uids pairs)
pairs_read [] zero uids left end told blank are spaces passes none short = pairs_none uids left
pairs_read [] (suc more) uids left end told blank are spaces passes none short =
    let text = blank_text left end blank (subst (λ (p : List Part). Passes left (p ++ bytes blank) end) are passes) none in
    let nothing = spaces_end left.text (subst AreSpaces (sym text) spaces) in
    pairs_is more uids left ∙ rw nothing refl
pairs_read (pair ∷ pairs) zero uids left end told blank are spaces passes none short =
    let w = first_pair left end told are.0 are.1 are.2 are.3 are.4 blank are.8 passes in
    absurd (nothing_there left w.mid are.0 are.1 are.2 are.3 are.5 w.first short)
pairs_read (pair ∷ pairs) (suc more) uids left end told blank are spaces passes none short =
    let w = first_pair left end told are.0 are.1 are.2 are.3 are.4 blank are.8 passes in
    let ends = pairs_wide pairs w.mid end are.4 blank are.9 spaces w.rest none in
    let read = pair_reads uids left w.mid are.0 are.1 are.2 are.3 pair are.5 are.6 are.7 w.first ends in
    let text = pair_text left w.mid are.0 are.1 are.2 are.3 w.first ∙ append_assoc (are.0 ++ are.1) are.2 (text_of are.3 ++ w.mid.text)
    ∙ append_assoc are.0 are.1 (are.2 ++ (text_of are.3 ++ w.mid.text)) in
    let some = some_first are.0 (are.2 ++ (text_of are.3 ++ w.mid.text)) left.text are.1 are.5 text (pair_atom are.1 are.3 pair are.7).wide in
    pairs_is more uids left ∙ rw some (bind_ok (pair_at uids left) (next_pairs more) (with_pair uids pair, w.mid)
    (fold with_pair (with_pair uids pair) pairs) read
    (pairs_read pairs more (with_pair uids pair) w.mid end are.4 blank are.9 spaces w.rest none
    (pair_shorter left w.mid are.0 are.1 are.2 are.3 more are.5 w.first short)))

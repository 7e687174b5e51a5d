-- Codes: what is read, and what is spelled.
use Rattle.std.proofs.Common.{◌≡◌, ◌≢◌, ℕ, Bool, true, false, cond, List, [], ◌∷◌, ◌++◌, length, codes, refl, ap, sym, ◌∙◌, subst, inl}
use Rattle.std.proofs.Common.{inr, arith, Result, Ok, Err}
use Rattle.std.specs.Prelude.{◌==◌}
use Rattle.imap_model.specs.declared.code.Code.{Code}
use Rattle.imap_model.specs.declared.code.Code.TheVariants as codings
use Rattle.imap_model.specs.Words.{Spaced, AreWords, SameWord}
use Rattle.imap_model.specs.Values.{is_wide_byte}
use Rattle.imap_model.specs.Numbers.{IsNonzero}
use Rattle.imap_model.specs.FlagLists.{ArePermanent}
use Rattle.imap_model.specs.Codes.{EndsName, IsSplit, HasName, IsCode, is_known_code, known_codes}
use Rattle.imap_model.proofs.Cutting.{Stops as Ends}
use Rattle.uid_sets.specs.SequenceSet.{Spells}
use Rattle.uid_sets.specs.declared.uid.UidRange.{UidRange}
use Rattle.imap_response.specs.declared.flags.Listed.{Listed}
use Rattle.imap_response.specs.declared.text_part.Coded.{Coded}
use Rattle.imap_response.specs.Leaf.{gap_at, wide_at, same_word}
use Rattle.imap_response.specs.Reads.{◌>>=◌}
use Rattle.imap_response.specs.ReadNumbers.{nonzero_at}
use Rattle.imap_response.specs.Sets.{set_at}
use Rattle.imap_response.specs.WordLists.{words_at}
use Rattle.imap_response.specs.Flags.{whole, permanent_at}
use Rattle.imap_response.specs.ReadCodes.{closed_at, bare_at, capability_at, uid_next_at, uid_validity_at, highest_modseq_at}
use Rattle.imap_response.specs.ReadCodes.{append_uid_at, copy_uid_at, modified_at, permanent_flags_at, plain_code_at, plainly, code_at}
use Rattle.imap_response.proofs.spelling.Results.{ok_is, ok_second, ok_either, ok_bind, bind_ok, some_items, items_some}
use Rattle.imap_response.proofs.spelling.Runs.{IsCut, reading_cuts, cut_front, cut_behind}
use Rattle.imap_response.proofs.spelling.Words.{gap_spells, gap_reads}
use Rattle.imap_response.proofs.spelling.Names.{same_is}
use Rattle.imap_response.proofs.spelling.Numbers.{nonzero_at_spells, nonzero_at_reads}
use Rattle.imap_response.proofs.spelling.Sets.{set_at_spells, set_at_reads}
use Rattle.imap_response.proofs.spelling.WordLists.{words_spells, words_reads}
use Rattle.imap_response.proofs.spelling.Flags.{permanent_spells, permanent_reads}
use Rattle.imap_response.proofs.spelling.Choices.{choose, Chosen, IsNone, choice, choose_none, choose_same, same_test, none_of, of_none}
use Rattle.imap_response.proofs.spelling.CodeRows

-- words, one or more
abbrev Words : Type 0
Words = List (List ℕ) × List ℕ

abbrev capable : Words → Unit {0} → Result Code ℕ
capable words done = Ok (codings.Capability words.0)

abbrev some_words : Words → Result Code ℕ
some_words words = cond (length words.0 == 0) (Err (length words.1)) (closed_at words.1 >>= capable words)

pub capability_spells : (text : List ℕ) (code : Code) → capability_at text ≡ Ok code →
    (words : List (List ℕ)) × (words ≢ []) × AreWords text words [] × (codings.Capability words ≡ code)
unfolding capability_at
capability_spells text code is =
    let words = ok_bind (words_at text) some_words code is in
    let some = ok_second (length words.0.0 == 0) (length words.0.1) (closed_at words.0.1 >>= capable words.0) code words.2 in
    let done = ok_bind (closed_at words.0.1) (capable words.0) code some.1 in
    let spelled = words_spells (length text) text words.0 (omega arith) words.1 in (
      words.0.0,
      items_some words.0.0 some.0,
      subst (AreWords text words.0.0) (CodeRows.closed_spells words.0.1 done.1) spelled.0,
      ok_is (codings.Capability words.0.0) code done.2,
    )

capability_reads : (text : List ℕ) (words : List (List ℕ)) → words ≢ [] → AreWords text words [] → capability_at text ≡ Ok (codings.Capability words)
unfolding capability_at
capability_reads text words some are =
    bind_ok (words_at text) some_words (words, []) (codings.Capability words) (words_reads words (length text) text [] (omega arith) are tt)
    (rw (some_items words some) (bind_ok (closed_at []) (capable (words, [])) tt (codings.Capability words) CodeRows.closed_here refl))

-- a validity and a UID
abbrev appended : ℕ → ℕ → Code
appended validity uid = codings.AppendUid validity uid

abbrev behind_validity : ℕ × List ℕ → Result Code ℕ
behind_validity validity = gap_at validity.1 >>= CodeRows.one_at nonzero_at (appended validity.0)

abbrev numbers_at : List ℕ → Result Code ℕ
numbers_at first = nonzero_at first >>= behind_validity

pub append_uid_spells : (text : List ℕ) (code : Code) → append_uid_at text ≡ Ok code
    → (argument : List ℕ) × (first : List ℕ) × (validity : ℕ) × (later : List ℕ) × (second : List ℕ) × (uid : ℕ)
    × Spaced text (first ++ later) × IsNonzero first validity × Spaced later second × IsNonzero second uid × (codings.AppendUid validity uid ≡ code)
unfolding append_uid_at
append_uid_spells text code is =
    let after = ok_bind (gap_at text) numbers_at code is in
    let first = CodeRows.first_spells IsNonzero nonzero_at codings.UidNext nonzero_at_spells nonzero_at_reads after.0 behind_validity code after.2 in
    let second = CodeRows.only_spells IsNonzero nonzero_at (appended first.0) nonzero_at_spells nonzero_at_reads first.2 code first.5 in (
      after.0,
      first.1,
      first.0,
      first.2,
      second.0,
      second.1,
      subst (Spaced text) first.4 (gap_spells text after.0 after.1),
      first.3,
      second.2,
      second.3,
      second.4,
    )

append_uid_reads : (text first later second : List ℕ) (validity uid : ℕ) → Spaced text (first ++ later) → IsNonzero first validity →
    Spaced later second → IsNonzero second uid
    → append_uid_at text ≡ Ok (codings.AppendUid validity uid)
unfolding append_uid_at
append_uid_reads text first later second validity uid spaced is spaced' is' =
    bind_ok (gap_at text) numbers_at (first ++ later) (codings.AppendUid validity uid) (gap_reads text (first ++ later) spaced)
    (CodeRows.first_reads IsNonzero nonzero_at codings.UidNext nonzero_at_spells nonzero_at_reads first later second validity
    behind_validity (codings.AppendUid validity uid) is spaced'
    (CodeRows.only_reads IsNonzero nonzero_at (appended validity) nonzero_at_spells nonzero_at_reads later second uid spaced' is'))

-- a validity and two sets
abbrev copied : ℕ → List UidRange → List UidRange → Code
copied validity source target = codings.CopyUid validity source target

abbrev behind_source : ℕ → List UidRange × List ℕ → Result Code ℕ
behind_source validity source = gap_at source.1 >>= CodeRows.one_at set_at (copied validity source.0)

abbrev sets_at : ℕ → List ℕ → Result Code ℕ
sets_at validity second = set_at second >>= behind_source validity

abbrev behind_copied : ℕ × List ℕ → Result Code ℕ
behind_copied validity = gap_at validity.1 >>= sets_at validity.0

abbrev copies_at : List ℕ → Result Code ℕ
copies_at first = nonzero_at first >>= behind_copied

pub record IsCopied (text : List ℕ) (validity : ℕ) (source target : List UidRange) : Type 0 where
  pub first : List ℕ
  pub second : List ℕ
  pub third : List ℕ
  pub later : List ℕ
  pub last : List ℕ
  pub spaced : Spaced text (first ++ later)
  pub number : IsNonzero first validity
  pub spaced_source : Spaced later (second ++ last)
  pub spells_source : Spells second source
  pub spaced_target : Spaced last third
  pub spells_target : Spells third target

pub copy_uid_spells : (text : List ℕ) (code : Code) → copy_uid_at text ≡ Ok code
    → (validity : ℕ) × (source : List UidRange) × (target : List UidRange) × IsCopied text validity source target
    × (codings.CopyUid validity source target ≡ code)
unfolding copy_uid_at
copy_uid_spells text code is =
    let after = ok_bind (gap_at text) copies_at code is in
    let first = CodeRows.first_spells IsNonzero nonzero_at codings.UidNext nonzero_at_spells nonzero_at_reads after.0 behind_copied code after.2 in
    let behind = ok_bind (gap_at first.2) (sets_at first.0) code first.5 in
    let source = CodeRows.first_spells Spells set_at codings.Modified set_at_spells set_at_reads behind.0 (behind_source first.0) code behind.2 in
    let target = CodeRows.only_spells Spells set_at (copied first.0 source.0) set_at_spells set_at_reads source.2 code source.5 in (
      first.0,
      source.0,
      target.1,
      record {
        first = first.1;
        second = source.1;
        third = target.0;
        later = first.2;
        last = source.2;
        spaced = subst (Spaced text) first.4 (gap_spells text after.0 after.1);
        number = first.3;
        spaced_source = subst (Spaced first.2) source.4 (gap_spells first.2 behind.0 behind.1);
        spells_source = source.3;
        spaced_target = target.2;
        spells_target = target.3;
      },
      target.4,
    )

copy_uid_reads : (text : List ℕ) (validity : ℕ) (source target : List UidRange) → IsCopied text validity source target →
    copy_uid_at text ≡ Ok (codings.CopyUid validity source target)
unfolding copy_uid_at
copy_uid_reads text validity source target w =
    let code : Code = codings.CopyUid validity source target in
    bind_ok (gap_at text) copies_at (w.first ++ w.later) (codings.CopyUid validity source target) (gap_reads text (w.first ++ w.later) w.spaced)
    (CodeRows.first_reads IsNonzero nonzero_at codings.UidNext nonzero_at_spells nonzero_at_reads w.first w.later
    (w.second ++ w.last) validity behind_copied (codings.CopyUid validity source target) w.number w.spaced_source
    (bind_ok (gap_at w.later) (sets_at validity) (w.second ++ w.last) (codings.CopyUid validity source target)
    (gap_reads w.later (w.second ++ w.last) w.spaced_source)
    (CodeRows.first_reads Spells set_at codings.Modified set_at_spells set_at_reads w.second w.last w.third source (behind_source validity)
    (codings.CopyUid validity source target) w.spells_source w.spaced_target
    (CodeRows.only_reads Spells set_at (copied validity source) set_at_spells set_at_reads w.last w.third target w.spaced_target w.spells_target))))

-- flags that can be changed for good
abbrev Give : Type 0
Give = Listed × List ℕ

abbrev pub coded : Listed → Coded
coded found = record { code = codings.PermanentFlags found.flags found.any; excess = found.excess }

abbrev pub behind_flags : Give → Unit {0} → Result Coded ℕ
behind_flags flags done = Ok (coded flags.0)

abbrev pub closing : Give → Result Coded ℕ
closing flags = closed_at flags.1 >>= behind_flags flags

abbrev pub listing : List ℕ → Result Coded ℕ
listing after = permanent_at whole after >>= closing

permanent_flags_spells : (text : List ℕ) (read : Coded) → permanent_flags_at whole text ≡ Ok read
    → (list : List ℕ) × (keys : List (List ℕ)) × (any : Bool) × Spaced text (40 ∷ (list ++ 41 ∷ [])) × ArePermanent list keys any
    × (codings.PermanentFlags keys any ≡ read.code)
unfolding permanent_flags_at
permanent_flags_spells text read is =
    let after = ok_bind (gap_at text) listing read is in
    let flags = ok_bind (permanent_at whole after.0) closing read after.2 in
    let done = ok_bind (closed_at flags.0.1) (behind_flags flags.0) read flags.2 in
    let w = permanent_spells after.0 flags.0 flags.1 in
    let none = CodeRows.closed_spells flags.0.1 done.1 in
    let same = ok_is (coded flags.0.0) read done.2 in (
      w.0,
      flags.0.0.flags,
      flags.0.0.any,
      subst (Spaced text) (w.1 ∙ ap (λ (r : List ℕ). 40 ∷ (w.0 ++ 41 ∷ r)) none)
          (gap_spells text after.0 after.1),
      w.2,
      ap (λ (c : Coded). c.code) same,
    )

permanent_flags_reads : (text list : List ℕ) (keys : List (List ℕ)) (any : Bool) → Spaced text (40 ∷ (list ++ 41 ∷ [])) → ArePermanent list keys any
    → (read : Coded) × (permanent_flags_at whole text ≡ Ok read) × (read.code ≡ codings.PermanentFlags keys any)
unfolding permanent_flags_at
permanent_flags_reads text list keys any spaced are =
    let argument : List ℕ = 40 ∷ (list ++ 41 ∷ []) in
    let w = permanent_reads (40 ∷ (list ++ 41 ∷ [])) list [] keys any refl are in (
      coded w.0,
      bind_ok (gap_at text) listing (40 ∷ (list ++ 41 ∷ [])) (coded w.0) (gap_reads text (40 ∷ (list ++ 41 ∷ [])) spaced)
          (bind_ok (permanent_at whole (40 ∷ (list ++ 41 ∷ []))) closing (w.0, []) (coded w.0) w.1
          (bind_ok (closed_at []) (behind_flags (w.0, [])) tt (coded w.0) CodeRows.closed_here refl)),
      ap (λ (k : List (List ℕ)). codings.PermanentFlags k w.0.any) w.2 ∙ ap (codings.PermanentFlags keys) w.3,
    )

-- the name of a code
ends_name : (text : List ℕ) → Ends is_wide_byte text → EndsName text
ends_name [] ends = tt
ends_name (b ∷ text) ends = ends

name_ends : (text : List ℕ) → EndsName text → Ends is_wide_byte text
name_ends [] ends = tt
name_ends (b ∷ text) ends = ends

split_here : (inner : List ℕ) → IsSplit inner (wide_at inner).0 (wide_at inner).1
split_here inner =
    let cut = reading_cuts is_wide_byte inner in
    record { wide = cut.all; whole = cut.whole; ends = ends_name (wide_at inner).1 cut.ends }

has_name : (inner name : List ℕ) → SameWord (wide_at inner).0 name → HasName inner name (wide_at inner).1
has_name inner name same = ((wide_at inner).0, same, split_here inner)

split_cut : (inner word argument : List ℕ) → IsSplit inner word argument → IsCut is_wide_byte inner word argument
split_cut inner word argument split = record { all = split.wide; ends = name_ends argument split.ends; whole = split.whole }

-- the rows
abbrev Row : Type 0
Row = List ℕ × Result Code ℕ

abbrev pub rows : List ℕ → List Row
rows text = (codes "CAPABILITY", capability_at text) ∷ (codes "UIDNEXT", uid_next_at text) ∷ (codes "UIDVALIDITY", uid_validity_at text)
    ∷ (codes "HIGHESTMODSEQ", highest_modseq_at text) ∷ (codes "NOMODSEQ", bare_at codings.NoModSeq text) ∷
    (codes "UIDNOTSTICKY", bare_at codings.UidNotSticky text)
    ∷ (codes "CLOSED", bare_at codings.Closed text) ∷ (codes "APPENDUID", append_uid_at text) ∷ (codes "COPYUID", copy_uid_at text) ∷
    (codes "MODIFIED", modified_at text) ∷ []

pub plain_is : (name text : List ℕ) → plain_code_at name text ≡ choose name (rows text) (Ok codings.Other)
unfolding plain_code_at
plain_is name text = refl

module _ (inner : List ℕ) (code : Code) where
  as_code : (spelled : Code) → spelled ≡ code → IsCode inner spelled → IsCode inner code
  as_code spelled same is = subst (IsCode inner) same is

  row_spells : Chosen (wide_at inner).0 (rows (wide_at inner).1) code → IsCode inner code
  row_spells (inl row) =
      let w = capability_spells (wide_at inner).1 code row.1 in
      as_code (codings.Capability w.0) w.3 (w.1, (wide_at inner).1, has_name inner (codes "CAPABILITY") row.0, w.2)
  row_spells (inr (inl row)) =
      let w = CodeRows.uid_next_spells (wide_at inner).1 code row.1 in
      as_code (codings.UidNext w.1) w.4 (w.0, ((wide_at inner).1, has_name inner (codes "UIDNEXT") row.0, w.2), w.3)
  row_spells (inr (inr (inl row))) =
      let w = CodeRows.uid_validity_spells (wide_at inner).1 code row.1 in
      as_code (codings.UidValidity w.1) w.4 (w.0, ((wide_at inner).1, has_name inner (codes "UIDVALIDITY") row.0, w.2), w.3)
  row_spells (inr (inr (inr (inl row)))) =
      let w = CodeRows.highest_modseq_spells (wide_at inner).1 code row.1 in
      as_code (codings.HighestModSeq w.1) w.4 (w.0, ((wide_at inner).1, has_name inner (codes "HIGHESTMODSEQ") row.0, w.2), w.3)
  row_spells (inr (inr (inr (inr (inl row))))) =
      let w = CodeRows.bare_spells codings.NoModSeq (wide_at inner).1 code row.1 in
      as_code codings.NoModSeq w.1 (subst (HasName inner (codes "NOMODSEQ")) w.0 (has_name inner (codes "NOMODSEQ") row.0))
  row_spells (inr (inr (inr (inr (inr (inl row)))))) =
      let w = CodeRows.bare_spells codings.UidNotSticky (wide_at inner).1 code row.1 in
      as_code codings.UidNotSticky w.1 (subst (HasName inner (codes "UIDNOTSTICKY")) w.0 (has_name inner (codes "UIDNOTSTICKY") row.0))
  row_spells (inr (inr (inr (inr (inr (inr (inl row))))))) =
      let w = CodeRows.bare_spells codings.Closed (wide_at inner).1 code row.1 in
      as_code codings.Closed w.1 (subst (HasName inner (codes "CLOSED")) w.0 (has_name inner (codes "CLOSED") row.0))
  row_spells (inr (inr (inr (inr (inr (inr (inr (inl row)))))))) =
      let w = append_uid_spells (wide_at inner).1 code row.1 in
      as_code (codings.AppendUid w.2 w.5) w.10 (w.1, w.4, w.3, ((wide_at inner).1, has_name inner (codes "APPENDUID") row.0, w.6), w.7, w.8, w.9)
  row_spells (inr (inr (inr (inr (inr (inr (inr (inr (inl row))))))))) =
      let w = copy_uid_spells (wide_at inner).1 code row.1 in
      let c = w.3 in
      as_code (codings.CopyUid w.0 w.1 w.2) w.4 (
        c.first,
        c.second,
        c.third,
        c.later,
        c.last,
        ((wide_at inner).1, has_name inner (codes "COPYUID") row.0, c.spaced),
        c.number,
        c.spaced_source,
        c.spells_source,
        c.spaced_target,
        c.spells_target,
      )
  row_spells (inr (inr (inr (inr (inr (inr (inr (inr (inr (inl row)))))))))) =
      let w = CodeRows.modified_spells (wide_at inner).1 code row.1 in
      as_code (codings.Modified w.1) w.4 (w.0, ((wide_at inner).1, has_name inner (codes "MODIFIED") row.0, w.2), w.3)
  row_spells (inr (inr (inr (inr (inr (inr (inr (inr (inr (inr row)))))))))) = absurd row

other_spells : (inner : List ℕ) → same_word (wide_at inner).0 (codes "PERMANENTFLAGS") ≡ false →
    IsNone (wide_at inner).0 (rows (wide_at inner).1) → IsCode inner codings.Other
other_spells inner not_flags none = (
  (wide_at inner).0,
  (wide_at inner).1,
  split_here inner,
  of_none known_codes (wide_at inner).0 (none.0, (none.1.0, (none.1.1.0, (not_flags, none.1.1.1)))),
)

abbrev pub plain_coded : Code → Result Coded ℕ
plain_coded code = Ok (plainly code)

pub code_is : (inner : List ℕ) → code_at whole inner ≡ cond (same_word (wide_at inner).0 (codes "PERMANENTFLAGS"))
    (permanent_flags_at whole (wide_at inner).1) (plain_code_at (wide_at inner).0 (wide_at inner).1 >>= plain_coded)
unfolding code_at
code_is inner = refl

plain_spells : (inner : List ℕ) (code : Code) → same_word (wide_at inner).0 (codes "PERMANENTFLAGS") ≡ false →
    plain_code_at (wide_at inner).0 (wide_at inner).1 ≡ Ok code → IsCode inner code
plain_spells inner code not_flags is =
    elim (choice (wide_at inner).0 (rows (wide_at inner).1) (Ok codings.Other) code (sym (plain_is (wide_at inner).0 (wide_at inner).1) ∙ is)) [
      | inl row ↦ row_spells inner code row
      | inr none ↦ subst (IsCode inner) (ok_is codings.Other code none.1) (other_spells inner not_flags none.0)
    ]

flags_spells : (inner : List ℕ) (read : Coded) → SameWord (wide_at inner).0 (codes "PERMANENTFLAGS") →
    permanent_flags_at whole (wide_at inner).1 ≡ Ok read → IsCode inner read.code
flags_spells inner read same is =
    let w = permanent_flags_spells (wide_at inner).1 read is in
    subst (IsCode inner) w.5 (w.0, ((wide_at inner).1, has_name inner (codes "PERMANENTFLAGS") same, w.3), w.4)

-- what is read is spelled so
pub code_spells : (inner : List ℕ) (read : Coded) → code_at whole inner ≡ Ok read → IsCode inner read.code
code_spells inner read is =
    elim (ok_either (same_word (wide_at inner).0 (codes "PERMANENTFLAGS")) (permanent_flags_at whole (wide_at inner).1)
    (plain_code_at (wide_at inner).0 (wide_at inner).1 >>= plain_coded) read (sym (code_is inner) ∙ is)) [
      | inl flags ↦ flags_spells inner read (same_is (wide_at inner).0 (codes "PERMANENTFLAGS") flags.0) flags.1
      | inr plain ↦
          let code = ok_bind (plain_code_at (wide_at inner).0 (wide_at inner).1) plain_coded read plain.1 in
          let same = ok_is (plainly code.0) read code.2 in
          subst (IsCode inner) (ap (λ (c : Coded). c.code) same) (plain_spells inner code.0 plain.0 code.1)
    ]

-- what is spelled is read so
abbrev Reads : List ℕ → Code → Type 0
Reads inner code = (read : Coded) × (code_at whole inner ≡ Ok read) × (read.code ≡ code)

split_reads : (inner word argument : List ℕ) (code : Code) → IsSplit inner word argument → same_word word (codes "PERMANENTFLAGS") ≡ false
    → choose word (rows argument) (Ok codings.Other) ≡ Ok code → Reads inner code
split_reads inner word argument code split not_flags row =
    let front = cut_front is_wide_byte inner word argument (split_cut inner word argument split) in
    let behind = cut_behind is_wide_byte inner word argument (split_cut inner word argument split) in
    let test : same_word (wide_at inner).0 (codes "PERMANENTFLAGS") ≡ false = ap (λ (w : List ℕ). same_word w (codes "PERMANENTFLAGS")) front ∙ not_flags in
    let read : plain_code_at (wide_at inner).0 (wide_at inner).1 ≡ Ok code =
    ap (λ (w : List ℕ). plain_code_at w (wide_at inner).1) front ∙ ap (plain_code_at word) behind ∙ plain_is word argument ∙ row in
    (plainly code, code_is inner ∙ rw test (bind_ok (plain_code_at (wide_at inner).0 (wide_at inner).1) plain_coded code (plainly code) read refl), refl)

named_reads : (inner name argument : List ℕ) (code : Code) → HasName inner name argument → same_word name (codes "PERMANENTFLAGS") ≡ false
    → choose name (rows argument) (Ok codings.Other) ≡ Ok code → Reads inner code
named_reads inner name argument code named not_flags row =
    split_reads inner named.0 argument code named.2 (same_test named.0 name (codes "PERMANENTFLAGS") named.1 ∙ not_flags)
    (choose_same named.0 name (rows argument) (Ok codings.Other) named.1 ∙ row)

flags_reads : (inner later list : List ℕ) (keys : List (List ℕ)) (any : Bool) → HasName inner (codes "PERMANENTFLAGS") later →
    Spaced later (40 ∷ (list ++ 41 ∷ [])) → ArePermanent list keys any
    → Reads inner (codings.PermanentFlags keys any)
flags_reads inner later list keys any named spaced are =
    let cut = split_cut inner named.0 later named.2 in
    let front = cut_front is_wide_byte inner named.0 later cut in
    let behind = cut_behind is_wide_byte inner named.0 later cut in
    let test : same_word (wide_at inner).0 (codes "PERMANENTFLAGS") ≡ true =
    ap (λ (w : List ℕ). same_word w (codes "PERMANENTFLAGS")) front
    ∙ same_test named.0 (codes "PERMANENTFLAGS") (codes "PERMANENTFLAGS") named.1 in
    let w = permanent_flags_reads later list keys any spaced are in
    (w.0, code_is inner ∙ rw test (ap (permanent_flags_at whole) behind ∙ w.1), w.2)

other_reads : (inner name argument : List ℕ) → IsSplit inner name argument → is_known_code name ≡ false → Reads inner codings.Other
other_reads inner name argument split unknown =
    let n = none_of known_codes name unknown in
    split_reads inner name argument codings.Other split n.1.1.1.0
    (choose_none name (rows argument) (Ok codings.Other) (n.0, (n.1.0, (n.1.1.0, n.1.1.1.1))))

pub code_reads : (inner : List ℕ) (code : Code) → IsCode inner code → Reads inner code
code_reads inner codings.None is = absurd is
code_reads inner (codings.Capability words) is =
    named_reads inner (codes "CAPABILITY") is.1 (codings.Capability words) is.2 refl (capability_reads is.1 words is.0 is.3)
code_reads inner (codings.UidNext uid) is =
    named_reads inner (codes "UIDNEXT") is.1.0 (codings.UidNext uid) is.1.1 refl (CodeRows.uid_next_reads is.1.0 is.0 uid is.1.2 is.2)
code_reads inner (codings.UidValidity validity) is =
    named_reads inner (codes "UIDVALIDITY") is.1.0 (codings.UidValidity validity) is.1.1 refl (CodeRows.uid_validity_reads is.1.0 is.0 validity is.1.2 is.2)
code_reads inner (codings.PermanentFlags flags any) is = flags_reads inner is.1.0 is.0 flags any is.1.1 is.1.2 is.2
code_reads inner (codings.HighestModSeq modseq) is =
    named_reads inner (codes "HIGHESTMODSEQ") is.1.0 (codings.HighestModSeq modseq) is.1.1 refl (CodeRows.highest_modseq_reads is.1.0 is.0 modseq is.1.2 is.2)
code_reads inner codings.NoModSeq is = named_reads inner (codes "NOMODSEQ") [] codings.NoModSeq is refl (CodeRows.bare_reads codings.NoModSeq)
code_reads inner codings.UidNotSticky is = named_reads inner (codes "UIDNOTSTICKY") [] codings.UidNotSticky is refl (CodeRows.bare_reads codings.UidNotSticky)
code_reads inner (codings.AppendUid validity uid) is =
    named_reads inner (codes "APPENDUID") is.3.0 (codings.AppendUid validity uid) is.3.1 refl
    (append_uid_reads is.3.0 is.0 is.2 is.1 validity uid is.3.2 is.4 is.5 is.6)
code_reads inner (codings.CopyUid validity source target) is =
    named_reads inner (codes "COPYUID") is.5.0 (codings.CopyUid validity source target) is.5.1 refl
    (copy_uid_reads is.5.0 validity source target (record {
      first = is.0;
      second = is.1;
      third = is.2;
      later = is.3;
      last = is.4;
      spaced =
          is.5.2;
      number = is.6;
      spaced_source = is.7;
      spells_source = is.8;
      spaced_target = is.9;
      spells_target = is.10;
    }))
code_reads inner (codings.Modified uids) is =
    named_reads inner (codes "MODIFIED") is.1.0 (codings.Modified uids) is.1.1 refl (CodeRows.modified_reads is.1.0 is.0 uids is.1.2 is.2)
code_reads inner codings.Closed is = named_reads inner (codes "CLOSED") [] codings.Closed is refl (CodeRows.bare_reads codings.Closed)
code_reads inner codings.Other is = other_reads inner is.0 is.1 is.2 is.3

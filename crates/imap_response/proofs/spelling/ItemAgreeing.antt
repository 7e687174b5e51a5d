-- An item tells an excess exactly where its set of flags passes the limits.
use Rattle.std.proofs.Common.{◌≡◌, ℕ, Bool, true, false, List, length, codes, Option, Some, None, refl, sym, ◌∙◌, subst, inl, inr, Result, Ok}
use Rattle.std.specs.Prelude.{◌==◌}
use Rattle.std.specs.Option.{option_or}
use Rattle.flag_set.specs.declared.flag_fault.FlagFault.{FlagFault}
use Rattle.imap_response.specs.declared.fetch.Body.{Body}
use Rattle.imap_response.specs.declared.fetch.Body.TheVariants as bodies
use Rattle.imap_response.specs.declared.fetch.Gathered.{Gathered}
use Rattle.imap_response.specs.declared.fetch.Told.{Told}
use Rattle.imap_response.specs.declared.fetch.Told.TheVariants as tellings
use Rattle.imap_response.specs.declared.flags.Listed.{Listed}
use Rattle.imap_response.specs.Flags.{whole, flags_at}
use Rattle.imap_response.specs.Items.{is_atom, with_told, id_section_at, origin_at, other_section_at, told_body, body_behind, body_at, sectioned_at, named_item_at, item_at}
use Rattle.imap_response.specs.Leaf.{gap_at, mark_at, wide_at, same_word}
use Rattle.imap_response.specs.Left.{Left, at_left, mark_in}
use Rattle.imap_response.specs.ReadNumbers.{nonzero_at, modseq_at}
use Rattle.imap_response.specs.Reads.{◌>>=◌, or_else}
use Rattle.imap_response.specs.ReadStrings.{nstring_at}
use Rattle.imap_response.specs.ReadValues.{value_at, section_at}
use Rattle.imap_response.specs.Within.{IsToldWithin}
use Rattle.imap_response.proofs.spelling.Agreeing.{Agrees, no_excess, listed_agrees}
use Rattle.imap_response.proofs.spelling.Choices.{Chosen, choice}
use Rattle.imap_response.proofs.spelling.Items.{Read, told_of, told_nothing, value_there, origin_there, section_there, string_told}
use Rattle.imap_response.proofs.spelling.Items.{body_there, body_origin, empty_or_other, by_section, by_name, item_is}
use Rattle.imap_response.proofs.spelling.ItemReads.{rows_of, value_of, items_are}
use Rattle.imap_response.proofs.spelling.Results.{ok_is, ok_first, ok_either, ok_bind, ok_or_else}

-- the excess that an item tells
abbrev pub excess_of : Told → Option FlagFault
excess_of (tellings.Flags flags excess) = excess
excess_of told = None

abbrev pub ToldAgrees : Told → Type 0
ToldAgrees told = Agrees (excess_of told) (IsToldWithin (told_of told))

abbrev ReadAgrees : Read → Type 0
ReadAgrees read = ToldAgrees read.0

nothing_read : (value : Left) → ReadAgrees (tellings.Nothing, value)
nothing_read value = no_excess (IsToldWithin (told_of tellings.Nothing)) tt

nothing_agrees : (r : Result Left ℕ) (read : Read) → (r >>= told_nothing) ≡ Ok read → ReadAgrees read
nothing_agrees r read is =
    let value = ok_bind r told_nothing read is in
    subst ReadAgrees (ok_is (tellings.Nothing, value.0) read value.2) (nothing_read value.0)

other_agrees : (left : Left) (read : Read) → other_section_at left ≡ Ok read → ReadAgrees read
unfolding other_section_at
other_agrees left read is =
    let behind = ok_bind (section_at left) section_there read is in
    let after = ok_bind (origin_at behind.0.text) (origin_there behind.0) read behind.2 in
    let text = ok_bind (gap_at after.0) (value_there behind.0) read after.2 in
    nothing_agrees (value_at (at_left behind.0 text.0)) read text.2

string_agrees : (which : Body) (text : List ℕ) → ToldAgrees (told_body which text)
string_agrees bodies.Ids text = no_excess (IsToldWithin (told_of (tellings.Ids text))) tt
string_agrees bodies.Text text = no_excess (IsToldWithin (told_of (tellings.Text text))) tt

body_from : (which : Body) (t : Bool) (left : Left) (read : Read) → body_behind which t left ≡ Ok read → ReadAgrees read
body_from which true left read is =
    let string = ok_bind (nstring_at left) (string_told which) read is in
    subst ReadAgrees (ok_is (told_body which string.0.0, string.0.1) read string.2) (string_agrees which string.0.0)
body_from which false left read is = nothing_agrees (value_at left) read is

body_agrees : (which : Body) (left : Left) (read : Read) → body_at which left ≡ Ok read → ReadAgrees read
unfolding body_at
body_agrees which left read is =
    let after = ok_bind (origin_at left.text) (body_origin which left) read is in
    let text = ok_bind (gap_at after.0) (body_there which left) read after.2 in
    body_from which (length (wide_at left.text).0 == 0) (at_left left text.0) read text.2

sectioned_agrees : (name : List ℕ) (left : Left) (read : Read) → sectioned_at name left ≡ Ok read → ReadAgrees read
unfolding sectioned_at
sectioned_agrees name left read is = elim (ok_either (same_word name (codes "BODY"))
    (or_else (id_section_at left) (body_at bodies.Ids) (empty_or_other left)) (other_section_at left) read is) [
      | inl body ↦ elim (ok_or_else (id_section_at left) (body_at bodies.Ids) (empty_or_other left) read body.1) [
        | inl ids ↦ body_agrees bodies.Ids ids.0 read ids.2
        | inr more ↦ elim (ok_or_else (mark_in 93 left) (body_at bodies.Text) (other_section_at left) read more.2) [
          | inl text ↦ body_agrees bodies.Text text.0 read text.2
          | inr other ↦ other_agrees left read other.2
        ]
      ]
      | inr other ↦ other_agrees left read other.1
    ]

abbrev put_uid : Left → ℕ × List ℕ → Result Read ℕ
put_uid left uid = Ok (tellings.Uid uid.0, at_left left uid.1)

abbrev put_flags : Left → Listed × List ℕ → Result Read ℕ
put_flags left flags = Ok (tellings.Flags flags.0.flags flags.0.excess, at_left left flags.1)

abbrev put_modseq : Left → ℕ → List ℕ → Result Read ℕ
put_modseq left modseq behind = Ok (tellings.ModSeq modseq, at_left left behind)

abbrev close_modseq : Left → ℕ × List ℕ → Result Read ℕ
close_modseq left modseq = mark_at 41 modseq.1 >>= put_modseq left modseq.0

abbrev open_modseq : Left → List ℕ → Result Read ℕ
open_modseq left inside = modseq_at inside >>= close_modseq left

row_agrees : (name : List ℕ) (left : Left) (read : Read) → Chosen name (rows_of left) read → ReadAgrees read
row_agrees name left read (inl row) =
    let uid = ok_bind (nonzero_at left.text) (put_uid left) read row.1 in
    subst ReadAgrees (ok_is (tellings.Uid uid.0.0, at_left left uid.0.1) read uid.2) (no_excess (IsToldWithin (told_of (tellings.Uid uid.0.0))) tt)
row_agrees name left read (inr (inl row)) =
    let flags = ok_bind (flags_at whole left.text) (put_flags left) read row.1 in
    subst ReadAgrees (ok_is (tellings.Flags flags.0.0.flags flags.0.0.excess, at_left left flags.0.1) read flags.2) (listed_agrees left.text flags.0 flags.1)
row_agrees name left read (inr (inr (inl row))) =
    let inside = ok_bind (mark_at 40 left.text) (open_modseq left) read row.1 in
    let modseq = ok_bind (modseq_at inside.0) (close_modseq left) read inside.2 in
    let behind = ok_bind (mark_at 41 modseq.0.1) (put_modseq left modseq.0.0) read modseq.2 in
    subst ReadAgrees (ok_is (tellings.ModSeq modseq.0.0, at_left left behind.0) read behind.2)
    (no_excess (IsToldWithin (told_of (tellings.ModSeq modseq.0.0))) tt)
row_agrees name left read (inr (inr (inr row))) = absurd row

named_agrees : (name : List ℕ) (left : Left) (read : Read) → named_item_at whole name left ≡ Ok read → ReadAgrees read
named_agrees name left read is = elim (choice name (rows_of left) (value_of left) read (sym (items_are name left) ∙ is)) [
  | inl row ↦ row_agrees name left read row
  | inr none ↦ nothing_agrees (value_at left) read none.1
]

pub item_agrees : (left : Left) (read : Read) → item_at whole left ≡ Ok read → ToldAgrees read.0
item_agrees left read is =
    let test = ok_first (is_atom (wide_at left.text).0) (length left.text)
    (or_else (mark_at 91 (wide_at left.text).1) (by_section left) (gap_at (wide_at left.text).1 >>= by_name left)) read
    (sym (item_is left) ∙ is) in
    elim (ok_or_else (mark_at 91 (wide_at left.text).1) (by_section left) (gap_at (wide_at left.text).1 >>= by_name left) read test.1) [
      | inl section ↦ sectioned_agrees (wide_at left.text).0 (at_left left section.0) read section.2
      | inr plain ↦
          let after = ok_bind (gap_at (wide_at left.text).1) (by_name left) read plain.2 in
          named_agrees (wide_at left.text).0 (at_left left after.0) read after.2
    ]

-- one item more
more_none : (o : Option FlagFault) → option_or o None ≡ o
more_none None = refl
more_none (Some fault) = refl

pub excess_more : (gathered : Gathered) (told : Told) → (with_told gathered told).excess ≡ option_or gathered.excess (excess_of told)
excess_more gathered (tellings.Uid uid) = sym (more_none gathered.excess)
excess_more gathered (tellings.Flags flags excess) = refl
excess_more gathered (tellings.ModSeq modseq) = sym (more_none gathered.excess)
excess_more gathered (tellings.Ids ids) = sym (more_none gathered.excess)
excess_more gathered (tellings.Text text) = sym (more_none gathered.excess)
excess_more gathered tellings.Nothing = sym (more_none gathered.excess)

or_none : (o p : Option FlagFault) → option_or o p ≡ None → (o ≡ None) × (p ≡ None)
or_none None p is = (refl, is)
or_none (Some fault) p is = absurd cc

none_or : (o p : Option FlagFault) → o ≡ None → p ≡ None → option_or o p ≡ None
none_or None p is is' = is'
none_or (Some fault) p is is' = absurd cc

-- what holds of an item, holds of what was told so far with it
pub one_agrees : (gathered : Gathered) (told : Told) → ToldAgrees told →
    Agrees (with_told gathered told).excess ((gathered.excess ≡ None) × IsToldWithin (told_of told))
one_agrees gathered told agrees = record {
  to = λ none. (let both = or_none gathered.excess (excess_of told) (sym (excess_more gathered told) ∙ none) in (both.0, agrees.to both.1));
  from = λ both. excess_more gathered told ∙ none_or gathered.excess (excess_of told) both.0 (agrees.from both.1);
}

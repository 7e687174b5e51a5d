-- An excess is told exactly where a set of flags passes the limits.
use Rattle.std.proofs.Common.{◌≡◌, ℕ, Bool, true, false, not, cond, List, [], ◌∷◌, length, take, codes, Option, Some, None, refl, sym}
use Rattle.std.proofs.Common.{◌∙◌, subst, inl, inr, drop, Result, Ok}
use Rattle.std.specs.Prelude.{◌==◌}
use Rattle.std.specs.List.{AllByRecursion}
use Rattle.flag_set.specs.declared.flag_fault.FlagFault.{FlagFault}
use Rattle.flag_set.specs.Flag.{is_flag}
use Rattle.flag_set.specs.FlagList.{flags_of, flags_alone, is_any, set_of, first_fault_of}
use Rattle.imap_model.specs.declared.code.Code.{Code}
use Rattle.imap_model.specs.declared.code.Code.TheVariants as codings
use Rattle.imap_response.specs.declared.flags.Listed.{Listed}
use Rattle.imap_response.specs.declared.text_part.Coded.{Coded}
use Rattle.imap_response.specs.ReadCodes.{closed_at, plain_code_at, plainly, permanent_flags_at, code_at}
use Rattle.imap_response.specs.Flags.{whole, flags_at, permanent_at}
use Rattle.imap_response.specs.Leaf.{gap_at, wide_at, same_word}
use Rattle.imap_response.specs.Reads.{◌>>=◌}
use Rattle.imap_response.specs.ReadTextParts.{closing_from, code_up_to, code_in, text_misfit, text_at}
use Rattle.imap_response.specs.Within.{IsSetWithin, IsCodeWithin}
use Rattle.imap_response.proofs.spelling.Choices.{Chosen, choice}
use Rattle.imap_response.proofs.spelling.CodeRows
use Rattle.imap_response.proofs.spelling.Codes.{coded, behind_flags, closing, listing, capability_spells, append_uid_spells}
use Rattle.imap_response.proofs.spelling.Codes.{copy_uid_spells, rows, plain_is, plain_coded, code_is}
use Rattle.imap_response.proofs.spelling.FlagLimits.{within_none, none_within}
use Rattle.imap_response.proofs.spelling.Flags.{Give, list_spells, all_flags, all_stand, MayStand, test_flags, of_flags, test_permanent, of_permanent}
use Rattle.imap_response.proofs.spelling.Results.{ok_is, ok_either, ok_bind}
use Rattle.imap_response.proofs.spelling.TextParts.{within_ok, code_in_is, code_in_none, misfit_ok, text_at_is, text_at_none, behind}

pub record Agrees (excess : Option FlagFault) (P : Type 0) : Type 0 where
  pub to : excess ≡ None → P
  pub from : P → excess ≡ None

pub no_excess : (P : Type 0) → P → Agrees None P
no_excess P is = record { to = λ e. is; from = λ p. refl }

-- lists
flags_agree : (flags : List (List ℕ)) → AllByRecursion (λ flag. is_flag flag ≡ true) flags → Agrees (first_fault_of flags) (IsSetWithin (set_of flags))
flags_agree flags all = record { to = none_within flags; from = within_none flags all }

pub listed_agrees : (text : List ℕ) (read : Give) → flags_at whole text ≡ Ok read → Agrees read.0.excess (IsSetWithin read.0.flags)
unfolding flags_at
listed_agrees text read is =
    let w = list_spells test_flags false of_flags text read is in
    subst (λ (l : Listed). Agrees l.excess (IsSetWithin l.flags)) (sym w.3) (flags_agree (flags_of w.0) (all_flags (flags_of w.0) w.2))

alone_from : (flag : List ℕ) (flags : List (List ℕ)) (t : Bool) → is_any flag ≡ t → MayStand flag →
    AllByRecursion (λ flag. is_flag flag ≡ true) (flags_alone flags) →
    AllByRecursion (λ flag. is_flag flag ≡ true) (cond (not t) (flag ∷ flags_alone flags) (flags_alone flags))
alone_from flag flags true is may all = all
alone_from flag flags false is (inl flagged) all = (flagged, all)
alone_from flag flags false is (inr any) all = absurd cc

alone_flags : (flags : List (List ℕ)) → AllByRecursion MayStand flags → AllByRecursion (λ flag. is_flag flag ≡ true) (flags_alone flags)
alone_flags [] all = tt
alone_flags (flag ∷ flags) all = alone_from flag flags (is_any flag) refl all.0 (alone_flags flags all.1)

permanent_agrees : (text : List ℕ) (read : Give) → permanent_at whole text ≡ Ok read → Agrees read.0.excess (IsSetWithin read.0.flags)
unfolding permanent_at
permanent_agrees text read is =
    let w = list_spells test_permanent true of_permanent text read is in
    subst (λ (l : Listed). Agrees l.excess (IsSetWithin l.flags)) (sym w.3)
    (flags_agree (flags_alone (flags_of w.0)) (alone_flags (flags_of w.0) (all_stand (flags_of w.0) w.2)))

-- codes
abbrev pub CodeAgrees : Coded → Type 0
CodeAgrees read = Agrees read.excess (IsCodeWithin read.code)

flags_code : (text : List ℕ) (read : Coded) → permanent_flags_at whole text ≡ Ok read → CodeAgrees read
unfolding permanent_flags_at
flags_code text read is =
    let after = ok_bind (gap_at text) listing read is in
    let flags = ok_bind (permanent_at whole after.0) closing read after.2 in
    let done = ok_bind (closed_at flags.0.1) (behind_flags flags.0) read flags.2 in
    subst CodeAgrees (ok_is (coded flags.0.0) read done.2) (permanent_agrees after.0 flags.0 flags.1)

row_within : (text name : List ℕ) (code : Code) → Chosen name (rows text) code → IsCodeWithin code
row_within text name code (inl row) = subst IsCodeWithin (capability_spells text code row.1).3 tt
row_within text name code (inr (inl row)) = subst IsCodeWithin (CodeRows.uid_next_spells text code row.1).4 tt
row_within text name code (inr (inr (inl row))) = subst IsCodeWithin (CodeRows.uid_validity_spells text code row.1).4 tt
row_within text name code (inr (inr (inr (inl row)))) = subst IsCodeWithin (CodeRows.highest_modseq_spells text code row.1).4 tt
row_within text name code (inr (inr (inr (inr (inl row))))) = subst IsCodeWithin (CodeRows.bare_spells codings.NoModSeq text code row.1).1 tt
row_within text name code (inr (inr (inr (inr (inr (inl row)))))) = subst IsCodeWithin (CodeRows.bare_spells codings.UidNotSticky text code row.1).1 tt
row_within text name code (inr (inr (inr (inr (inr (inr (inl row))))))) = subst IsCodeWithin (CodeRows.bare_spells codings.Closed text code row.1).1 tt
row_within text name code (inr (inr (inr (inr (inr (inr (inr (inl row)))))))) = subst IsCodeWithin (append_uid_spells text code row.1).10 tt
row_within text name code (inr (inr (inr (inr (inr (inr (inr (inr (inl row))))))))) = subst IsCodeWithin (copy_uid_spells text code row.1).4 tt
row_within text name code (inr (inr (inr (inr (inr (inr (inr (inr (inr (inl row)))))))))) = subst IsCodeWithin (CodeRows.modified_spells text code row.1).4 tt
row_within text name code (inr (inr (inr (inr (inr (inr (inr (inr (inr (inr row)))))))))) = absurd row

plain_within : (name text : List ℕ) (code : Code) → plain_code_at name text ≡ Ok code → IsCodeWithin code
plain_within name text code is = elim (choice name (rows text) (Ok codings.Other) code (sym (plain_is name text) ∙ is)) [
  | inl row ↦ row_within text name code row
  | inr none ↦ subst IsCodeWithin (ok_is codings.Other code none.1) tt
]

code_agrees : (inner : List ℕ) (read : Coded) → code_at whole inner ≡ Ok read → CodeAgrees read
code_agrees inner read is =
    elim (ok_either (same_word (wide_at inner).0 (codes "PERMANENTFLAGS")) (permanent_flags_at whole (wide_at inner).1)
    (plain_code_at (wide_at inner).0 (wide_at inner).1 >>= plain_coded) read (sym (code_is inner) ∙ is)) [
      | inl flags ↦ flags_code (wide_at inner).1 read flags.1
      | inr plain ↦
          let code = ok_bind (plain_code_at (wide_at inner).0 (wide_at inner).1) plain_coded read plain.1 in
          subst CodeAgrees (ok_is (plainly code.0) read code.2) (no_excess (IsCodeWithin code.0)
          (plain_within (wide_at inner).0 (wide_at inner).1 code.0 code.1))
    ]

-- text parts
none_agrees : (read : Coded) → ◌≡◌ {A = Result Coded ℕ} (Ok (plainly codings.None)) (Ok read) → CodeAgrees read
none_agrees read is = subst CodeAgrees (ok_is (plainly codings.None) read is) (no_excess (IsCodeWithin codings.None) tt)

up_to_agrees : (more : List ℕ) (o : Option ℕ) (read : Coded) → code_up_to whole more o ≡ Ok read → CodeAgrees read
up_to_agrees more None read is = none_agrees read is
up_to_agrees more (Some k) read is = code_agrees (take k more) read
    (within_ok (length (take k more)) (length (drop k more)) (code_at whole (take k more)) read is)

in_agrees : (text : List ℕ) (read : Coded) → code_in whole text ≡ Ok read → CodeAgrees read
in_agrees [] read is = none_agrees read (sym code_in_none ∙ is)
in_agrees (b ∷ more) read is = elim (ok_either (b == 91) (code_up_to whole more (closing_from 0 0 more)) (Ok (plainly codings.None)) read
    (sym (code_in_is b more) ∙ is)) [
      | inl here ↦ up_to_agrees more (closing_from 0 0 more) read here.1
      | inr none ↦ none_agrees read none.1
    ]

pub text_agrees : (rest : List ℕ) (read : Coded) → text_at whole rest ≡ Ok read → CodeAgrees read
text_agrees [] read is = none_agrees read (sym text_at_none ∙ is)
text_agrees (b ∷ more) read is =
    let text = ok_bind (gap_at (b ∷ more)) behind read (sym (text_at_is b more) ∙ is) in
    in_agrees text.0 read (misfit_ok (text_misfit text.0) (code_in whole text.0) read text.2).1

-- The text of a status response: what is read, and what is spelled.
use Rattle.std.proofs.Common.{◌≡◌, ◌≢◌, ℕ, ◌+◌, ◌-◌, ◌≤◌, Bool, true, false, cond, not, List, [], ◌∷◌, ◌++◌, length, take, drop, Option}
use Rattle.std.proofs.Common.{Some, None, refl, ap, sym, ◌∙◌, subst, inl, inr, arith, nat_lt, append-nil, Result, Ok, Err}
use Rattle.std.proofs.Math.Seq.{take-append_seam, take-length, drop-length}
use Rattle.std.proofs.lemmas.Bool.{cases_Bool}
use Rattle.std.proofs.lemmas.Bool.Decides.{nat_tests}
use Rattle.std.proofs.lemmas.List.Sums.{prefix_len-le-length}
use Rattle.std.specs.Prelude.{◌==◌}
use Rattle.std.specs.List.{AllByRecursion}
use Rattle.imap_model.specs.declared.code.Code.{Code}
use Rattle.imap_model.specs.declared.code.Code.TheVariants as codings
use Rattle.imap_model.specs.Words.{Spaced}
use Rattle.imap_model.specs.Codes.{IsCode}
use Rattle.imap_model.specs.TextParts.{IsText, HasInner, HasCode, IsTextPart}
use Rattle.imap_response.specs.declared.text_part.Coded.{Coded}
use Rattle.imap_response.specs.Leaf.{is_forbidden, gap_at}
use Rattle.imap_response.specs.Reads.{◌>>=◌}
use Rattle.imap_response.specs.WordLists.{header_start}
use Rattle.imap_response.specs.Flags.{whole}
use Rattle.imap_response.specs.ReadCodes.{code_at, plainly}
use Rattle.imap_response.specs.ReadTextParts.{plain_len, misfit_by, opened_at, text_misfit, closing_from, within, code_up_to, code_in, with_misfit, text_at}
use Rattle.imap_response.proofs.spelling.Results.{is_byte, not_byte, ok_is, ok_bind, bind_ok, err_not}
use Rattle.imap_response.proofs.spelling.Runs.{AllPass, front_all, cut_len}
use Rattle.imap_response.proofs.spelling.Headers.{header_none, none_header}
use Rattle.imap_response.proofs.spelling.Words.{gap_spells, gap_reads}
use Rattle.imap_response.proofs.spelling.Brackets.{closing_reads, closing_spells, enclosed}
use Rattle.imap_response.proofs.spelling.Codes.{code_spells, code_reads}

-- bytes that a text may hold
abbrev is_plain : ℕ → Bool
is_plain byte = not (is_forbidden byte)

abbrev IsPlain : ℕ → Type 0
IsPlain byte = (byte ≢ 0) × (byte ≢ 10) × (byte ≢ 13)

pub plain_is : (b : ℕ) → is_plain b ≡ true → (b ≢ 0) × (b ≢ 10) × (b ≢ 13)
plain_is b test = ((λ e. grind (arith, nat_tests)), (λ e. grind (arith, nat_tests)), (λ e. grind (arith, nat_tests)))

plain_test : (b : ℕ) → b ≢ 0 → b ≢ 10 → b ≢ 13 → is_plain b ≡ true
plain_test b nul lf cr = grind (arith, nat_tests)

pub is_plain_byte : (b : ℕ) → (b ≢ 0) × (b ≢ 10) × (b ≢ 13) → is_plain b ≡ true
is_plain_byte b is = plain_test b is.0 is.1 is.2

plain_all : (text : List ℕ) → AllByRecursion IsPlain text → AllPass is_plain text
plain_all [] all = tt
plain_all (b ∷ text) all = (is_plain_byte b all.0, plain_all text all.1)

all_plain : (text : List ℕ) → AllPass is_plain text → AllByRecursion IsPlain text
all_plain [] all = tt
all_plain (b ∷ text) all = (plain_is b all.0, all_plain text all.1)

misfit_none : (size plain : ℕ) (o : Option ℕ) → misfit_by size plain o ≡ None → (o ≡ None) × (nat_lt plain size ≡ false)
misfit_none size plain (Some at) is = absurd cc
misfit_none size plain None is = elim (cases_Bool (nat_lt plain size)) [
  | inl less ↦ absurd (let no : ◌≡◌ {A = Option ℕ} (Some (size - plain)) None = sym (rw less refl) ∙ is in cc)
  | inr whole ↦ (refl, whole)
]

not_less : (m n : ℕ) → nat_lt m n ≡ false → n ≤ m
not_less m n test = grind (arith, nat_tests)

less_not : (n : ℕ) → nat_lt n n ≡ false
less_not n = grind (arith, nat_tests)

-- where all of the text is plain, nothing stands behind it, and a header at its end counts
opened_whole : (text : List ℕ) (n : ℕ) → n ≡ length text → opened_at (take n text) (drop n text) ≡ header_start 0 text
opened_whole text n len =
    let front : take n text ≡ text = ap (λ (k : ℕ). take k text) len ∙ take-length text in
    let rest : drop n text ≡ [] = ap (λ (k : ℕ). drop k text) len ∙ drop-length text in
    ap (λ (f : List ℕ). opened_at f (drop n text)) front ∙ ap (opened_at text) rest

pub text_spells : (text : List ℕ) → text_misfit text ≡ None → IsText text
text_spells text is =
    let both = misfit_none (length text) (plain_len text) (opened_at (take (plain_len text) text) (drop (plain_len text) text)) is in
    let least = not_less (plain_len text) (length text) both.1 in
    let most = prefix_len-le-length is_plain text in
    let len : plain_len text ≡ length text = omega (arith, least, most) in
    let front : take (plain_len text) text ≡ text = ap (λ (n : ℕ). take n text) len ∙ take-length text in
    record {
      plain = all_plain text (subst (AllPass is_plain) front (front_all is_plain text));
      closed = header_none text 0 (sym (opened_whole text (plain_len text) len) ∙ both.0);
    }

pub text_reads : (text : List ℕ) → IsText text → text_misfit text ≡ None
text_reads text is =
    let len : plain_len text ≡ length text = ap (λ (t : List ℕ). plain_len t) (sym (append-nil text)) ∙ cut_len is_plain text [] (plain_all text is.plain) tt in
    let start : opened_at (take (plain_len text) text) (drop (plain_len text) text) ≡ None =
    opened_whole text (plain_len text) len ∙ none_header text 0 is.closed in
    ap (misfit_by (length text) (plain_len text)) start ∙ ap (λ (n : ℕ). misfit_by (length text) n None) len ∙ rw less_not refl

-- the code
pub within_ok : {A : Type 0} (size behind : ℕ) (r : Result A ℕ) (x : A) → within size behind r ≡ Ok x → r ≡ Ok x
within_ok size behind (Ok y) x is = is
within_ok size behind (Err left) x is = absurd (err_not _ x is)

ok_within : {A : Type 0} (size behind : ℕ) (r : Result A ℕ) (x : A) → r ≡ Ok x → within size behind r ≡ Ok x
ok_within size behind r x is = ap (within size behind) is

no_inner_by : (more : List ℕ) → closing_from 0 0 more ≡ None → (inner : List ℕ) → HasInner (91 ∷ more) inner → ⊥
no_inner_by more none inner has =
    let same : more ≡ has.0 = cc in
    let found = closing_reads has.1 has.0 inner has.2 0 has.4 in
    let no : ◌≡◌ {A = Option ℕ} None (Some (0 + length inner)) = sym none ∙ ap (closing_from 0 0) same ∙ found in
    cc

no_inner_first : (b : ℕ) (more : List ℕ) → b ≢ 91 → (inner : List ℕ) → HasInner (b ∷ more) inner → ⊥
no_inner_first b more other inner has = other (let whole = has.3 in cc)

no_inner_none : (inner : List ℕ) → HasInner [] inner → ⊥
no_inner_none inner has = let whole = has.3 in cc

none_is : (coded : Coded) → ◌≡◌ {A = Result Coded ℕ} (Ok (plainly codings.None)) (Ok coded) → coded.code ≡ codings.None
none_is coded is = ap (λ (c : Coded). c.code) (sym (ok_is (plainly codings.None) coded is))

inner_is : (inner rest more : List ℕ) → more ≡ inner ++ 93 ∷ rest → take (length inner) more ≡ inner
inner_is inner rest more is = ap (take (length inner)) is ∙ take-append_seam inner (93 ∷ rest)

up_to_spells : (more : List ℕ) (o : Option ℕ) (coded : Coded) → closing_from 0 0 more ≡ o → code_up_to whole more o ≡ Ok coded → HasCode (91 ∷ more) coded.code
up_to_spells more None coded none is = inl (none_is coded is, no_inner_by more none)
up_to_spells more (Some k) coded found is =
    let w = closing_spells (length more) more 0 k (omega arith) found in
    let size : k ≡ length w.inner = omega (arith, w.place) in
    let front : take k more ≡ w.inner = ap (λ (n : ℕ). take n more) size ∙ inner_is w.inner w.rest more (enclosed w.stretches more w.inner w.rest w.encloses) in
    let read = within_ok (length (take k more)) (length (drop k more)) (code_at whole (take k more)) coded is in
    inr (w.inner, (more, w.stretches, w.rest, refl, w.encloses), subst (λ (i : List ℕ). IsCode i coded.code) front (code_spells (take k more) coded read))

pub code_in_is : (b : ℕ) (more : List ℕ) → code_in whole (b ∷ more) ≡ cond (b == 91) (code_up_to whole more (closing_from 0 0 more)) (Ok (plainly codings.None))
unfolding code_in
code_in_is b more = refl

pub code_in_none : code_in whole [] ≡ Ok (plainly codings.None)
unfolding code_in
code_in_none = refl

in_from : (b : ℕ) (more : List ℕ) (coded : Coded) (t : Bool) → (b == 91) ≡ t →
    cond t (code_up_to whole more (closing_from 0 0 more)) (Ok (plainly codings.None)) ≡ Ok coded → HasCode (b ∷ more) coded.code
in_from b more coded true test is = subst (λ (x : ℕ). HasCode (x ∷ more) coded.code) (sym (is_byte b 91 test))
    (up_to_spells more (closing_from 0 0 more) coded refl is)
in_from b more coded false test is = inl (none_is coded is, no_inner_first b more (not_byte b 91 test))

pub code_in_spells : (text : List ℕ) (coded : Coded) → code_in whole text ≡ Ok coded → HasCode text coded.code
code_in_spells [] coded is = inl (none_is coded (sym code_in_none ∙ is), no_inner_none)
code_in_spells (b ∷ more) coded is = in_from b more coded (b == 91) refl (sym (code_in_is b more) ∙ is)

-- what is spelled is read so
abbrev Gives : Result Coded ℕ → Code → Type 0
Gives r code = (coded : Coded) × (r ≡ Ok coded) × (coded.code ≡ code)

gives_none : (r : Result Coded ℕ) (code : Code) → r ≡ Ok (plainly codings.None) → code ≡ codings.None → Gives r code
gives_none r code is none = (plainly codings.None, is, sym none)

none_up_to : (more : List ℕ) (o : Option ℕ) → closing_from 0 0 more ≡ o → ((inner : List ℕ) → HasInner (91 ∷ more) inner → ⊥) →
    code_up_to whole more o ≡ Ok (plainly codings.None)
none_up_to more None found other = refl
none_up_to more (Some k) found other =
    let w = closing_spells (length more) more 0 k (omega arith) found in
    absurd (other w.inner (more, w.stretches, w.rest, refl, w.encloses))

none_from : (b : ℕ) (more : List ℕ) (t : Bool) → (b == 91) ≡ t → ((inner : List ℕ) → HasInner (b ∷ more) inner → ⊥) →
    cond t (code_up_to whole more (closing_from 0 0 more)) (Ok (plainly codings.None)) ≡ Ok (plainly codings.None)
none_from b more true test other = none_up_to more (closing_from 0 0 more) refl
    (subst (λ (x : ℕ). (inner : List ℕ) → HasInner (x ∷ more) inner → ⊥) (is_byte b 91 test) other)
none_from b more false test other = refl

none_reads : (text : List ℕ) → ((inner : List ℕ) → HasInner text inner → ⊥) → code_in whole text ≡ Ok (plainly codings.None)
none_reads [] other = code_in_none
none_reads (b ∷ more) other = code_in_is b more ∙ none_from b more (b == 91) refl other

inner_reads : (text inner : List ℕ) (code : Code) → HasInner text inner → IsCode inner code → Gives (code_in whole text) code
inner_reads text inner code has is =
    let more : List ℕ = has.0 in
    let found : closing_from 0 0 has.0 ≡ Some (0 + length inner) = closing_reads has.1 has.0 inner has.2 0 has.4 in
    let size : 0 + length inner ≡ length inner = omega arith in
    let found' : closing_from 0 0 has.0 ≡ Some (length inner) = found ∙ ap (λ (n : ℕ). Some n) size in
    let front : take (length inner) has.0 ≡ inner = inner_is inner has.2 has.0 (enclosed has.1 has.0 inner has.2 has.4) in
    let w = code_reads inner code is in
    let read : code_at whole (take (length inner) has.0) ≡ Ok w.0 = ap (code_at whole) front ∙ w.1 in (
      w.0,
      ap (code_in whole) has.3 ∙ code_in_is 91 has.0 ∙ ap (code_up_to whole has.0) found'
          ∙ ok_within (length (take (length inner) has.0)) (length (drop (length inner) has.0))
          (code_at whole (take (length inner) has.0)) w.0 read,
      w.2,
    )

pub code_in_reads : (text : List ℕ) (code : Code) → HasCode text code → Gives (code_in whole text) code
code_in_reads text code (inl none) = gives_none (code_in whole text) code (none_reads text none.1) none.0
code_in_reads text code (inr some) = inner_reads text some.0 code some.1 some.2

-- all that stands behind the word
pub misfit_ok : (o : Option ℕ) (r : Result Coded ℕ) (coded : Coded) → with_misfit o r ≡ Ok coded → (o ≡ None) × (r ≡ Ok coded)
misfit_ok None r coded is = (refl, is)
misfit_ok (Some left) (Ok x) coded is = absurd (err_not _ coded is)
misfit_ok (Some left) (Err earlier) coded is = elim (cases_Bool (nat_lt left earlier)) [
  | inl test ↦ absurd (err_not earlier coded (sym (rw test refl) ∙ is))
  | inr test ↦ absurd (err_not left coded (sym (rw test refl) ∙ is))
]

abbrev pub behind : List ℕ → Result Coded ℕ
behind text = with_misfit (text_misfit text) (code_in whole text)

pub text_at_is : (b : ℕ) (more : List ℕ) → text_at whole (b ∷ more) ≡ (gap_at (b ∷ more) >>= behind)
unfolding text_at
text_at_is b more = refl

pub text_at_none : text_at whole [] ≡ Ok (plainly codings.None)
unfolding text_at
text_at_none = refl

pub part_spells : (rest : List ℕ) (coded : Coded) → text_at whole rest ≡ Ok coded → IsTextPart rest coded.code
part_spells [] coded is = inl (refl, none_is coded (sym text_at_none ∙ is))
part_spells (b ∷ more) coded is =
    let text = ok_bind (gap_at (b ∷ more)) behind coded (sym (text_at_is b more) ∙ is) in
    let both = misfit_ok (text_misfit text.0) (code_in whole text.0) coded text.2 in
    inr (text.0, gap_spells (b ∷ more) text.0 text.1, text_spells text.0 both.0, code_in_spells text.0 coded both.1)

none_front : (gap text : List ℕ) → [] ≡ gap ++ text → gap ≡ []
none_front [] text is = refl
none_front (g ∷ gap) text is = absurd cc

text_reads_from : (rest text : List ℕ) (code : Code) → Spaced rest text → IsText text → HasCode text code → Gives (text_at whole rest) code
text_reads_from [] text code spaced is has = absurd (spaced.spaces.0 (let whole = spaced.whole in none_front spaced.gap text whole))
text_reads_from (b ∷ more) text code spaced is has =
    let w = code_in_reads text code has in (
      w.0,
      text_at_is b more ∙ bind_ok (gap_at (b ∷ more)) behind text w.0 (gap_reads (b ∷ more) text spaced)
          (ap (λ (o : Option ℕ). with_misfit o (code_in whole text)) (text_reads text is) ∙ w.1),
      w.2,
    )

pub part_reads : (rest : List ℕ) (code : Code) → IsTextPart rest code → Gives (text_at whole rest) code
part_reads rest code (inl none) = gives_none (text_at whole rest) code (ap (text_at whole) none.0 ∙ text_at_none) none.1
part_reads rest code (inr some) = text_reads_from rest some.0 code some.1 some.2 some.3

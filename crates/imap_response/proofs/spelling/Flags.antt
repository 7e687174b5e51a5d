-- Flags in parentheses: what is read, and what is spelled.
use Rattle.std.proofs.Common.{◌≡◌, ℕ, Bool, true, false, cond, not, List, [], ◌∷◌, ◌++◌, length, drop, codes, refl, ap, sym, ◌∙◌, subst}
use Rattle.std.proofs.Common.{inl, inr, ◌⊎◌, nat_lt, Result, Ok}
use Rattle.std.proofs.lemmas.Bool.{cases_Bool, and_parts}
use Rattle.std.proofs.lemmas.List.{take-append-drop}
use Rattle.std.specs.Prelude.{◌&&◌, ◌||◌, ◌==◌}
use Rattle.std.specs.List.{AllByRecursion, list_all, onto_first}
use Rattle.flag_set.specs.Flag.{backslash, is_atom_byte, is_flag, name_of}
use Rattle.flag_set.specs.FlagList.{is_space, begins_with_space, pieces, flags_of, is_any}
use Rattle.imap_model.specs.FlagLists.{IsFlags, ArePermanent}
use Rattle.imap_response.specs.declared.flags.Listed.{Listed}
use Rattle.imap_response.specs.Leaf.{mark_at}
use Rattle.imap_response.specs.Reads.{◌>>=◌}
use Rattle.imap_response.specs.Flags.{whole, list_len, list_text, fits_list, listed, listed_permanent, flags_at, permanent_at}
use Rattle.imap_response.proofs.spelling.Names.{all_from, bytes_equal}
use Rattle.imap_response.proofs.spelling.Results.{is_byte, ok_is, ok_first, ok_bind, bind_ok}
use Rattle.imap_response.proofs.spelling.Runs.{AllPass, IsCut, all_weaker, cut_front, cut_behind}
use Rattle.imap_response.proofs.spelling.Words.{mark_spells, mark_reads}

-- a byte that doesn't end the list
abbrev is_inside : ℕ → Bool
is_inside byte = not (byte == 41)

atom_inside : (b : ℕ) → is_atom_byte b ≡ true → is_inside b ≡ true
atom_inside b is = elim (cases_Bool (b == 41)) [
  | inl here ↦ absurd (let e : b ≡ 41 = is_byte b 41 here in cc (ap is_atom_byte e))
  | inr other ↦ rw other refl
]

inside_is : (b c : ℕ) → b ≡ c → is_inside c ≡ true → is_inside b ≡ true
inside_is b c e is = ap is_inside e ∙ is

flag_from : (b : ℕ) (rest : List ℕ) (t : Bool) → (b == backslash) ≡ t → list_all is_atom_byte (cond t rest (b ∷ rest)) ≡ true → AllPass is_inside (b ∷ rest)
flag_from b rest true is all = (inside_is b 92 (is_byte b 92 is) refl, all_weaker is_atom_byte is_inside atom_inside rest (all_from is_atom_byte rest all))
flag_from b rest false is all = all_weaker is_atom_byte is_inside atom_inside (b ∷ rest) (all_from is_atom_byte (b ∷ rest) all)

flag_inside : (text : List ℕ) → is_flag text ≡ true → AllPass is_inside text
flag_inside [] is = tt
flag_inside (b ∷ rest) is =
    flag_from b rest (b == backslash) refl (and_parts (nat_lt 0 (length (name_of (b ∷ rest)))) (list_all is_atom_byte (name_of (b ∷ rest))) is).1

any_inside : (text : List ℕ) → is_any text ≡ true → AllPass is_inside text
any_inside text is = subst (AllPass is_inside) (sym (bytes_equal text (codes "\\*") is)) (refl, (refl, tt))

-- the pieces of a text have all its bytes but the spaces
abbrev AllInside : List (List ℕ) → Type 0
AllInside texts = AllByRecursion (AllPass is_inside) texts

onto_inside : (b : ℕ) (texts : List (List ℕ)) → AllInside (onto_first b texts) → (is_inside b ≡ true) × AllInside texts
onto_inside b [] all = (all.0.0, tt)
onto_inside b (text ∷ texts) all = (all.0.0, (all.0.1, all.1))

space_inside : (b : ℕ) → is_space b ≡ true → is_inside b ≡ true
space_inside b is = inside_is b 32 (is_byte b 32 is) refl

spaces_from : (u : Bool) (texts : List (List ℕ)) → AllInside (cond u texts ([] ∷ texts)) → AllInside texts
spaces_from true texts all = all
spaces_from false texts all = all.1

pieces_from : (b : ℕ) (text : List ℕ) (t : Bool) → is_space b ≡ t →
    AllInside (cond t (cond (begins_with_space text) (pieces text) ([] ∷ pieces text)) (onto_first b (pieces text))) →
    (is_inside b ≡ true) × AllInside (pieces text)
pieces_from b text true is all = (space_inside b is, spaces_from (begins_with_space text) (pieces text) all)
pieces_from b text false is all = onto_inside b (pieces text) all

pieces_inside : (text : List ℕ) → AllInside (pieces text) → AllPass is_inside text
pieces_inside [] all = tt
pieces_inside (b ∷ text) all = let both = pieces_from b text (is_space b) refl all in (both.0, pieces_inside text both.1)

list_inside : (text : List ℕ) → AllInside (flags_of text) → AllPass is_inside text
list_inside [] all = tt
list_inside (b ∷ text) all = pieces_inside (b ∷ text) all

-- two tests of flags
pub all_flags : (flags : List (List ℕ)) → list_all is_flag flags ≡ true → AllByRecursion (λ flag. is_flag flag ≡ true) flags
all_flags [] all = tt
all_flags (flag ∷ flags) all = let both = and_parts (is_flag flag) (list_all is_flag flags) all in (both.0, all_flags flags both.1)

both_true : (x y : Bool) → x ≡ true → y ≡ true → (x && y) ≡ true
both_true x y is is' = rw (is, is') refl

flags_all : (flags : List (List ℕ)) → AllByRecursion (λ flag. is_flag flag ≡ true) flags → list_all is_flag flags ≡ true
flags_all [] all = refl
flags_all (flag ∷ flags) all = both_true (is_flag flag) (list_all is_flag flags) all.0 (flags_all flags all.1)

flags_in : (flags : List (List ℕ)) → AllByRecursion (λ flag. is_flag flag ≡ true) flags → AllInside flags
flags_in [] all = tt
flags_in (flag ∷ flags) all = (flag_inside flag all.0, flags_in flags all.1)

abbrev pub may_stand : List ℕ → Bool
may_stand flag = is_any flag || is_flag flag

abbrev pub MayStand : List ℕ → Type 0
MayStand flag = (is_flag flag ≡ true) ⊎ (is_any flag ≡ true)

or_cases : (x y : Bool) → (x || y) ≡ true → (y ≡ true) ⊎ (x ≡ true)
or_cases true y is = inr refl
or_cases false y is = inl is

cases_or : (x y : Bool) → (y ≡ true) ⊎ (x ≡ true) → (x || y) ≡ true
cases_or true y either = refl
cases_or false y (inl is) = is
cases_or false y (inr is) = absurd cc

pub all_stand : (flags : List (List ℕ)) → list_all may_stand flags ≡ true → AllByRecursion MayStand flags
all_stand [] all = tt
all_stand (flag ∷ flags) all =
    let both = and_parts (may_stand flag) (list_all may_stand flags) all in
    (or_cases (is_any flag) (is_flag flag) both.0, all_stand flags both.1)

stand_all : (flags : List (List ℕ)) → AllByRecursion MayStand flags → list_all may_stand flags ≡ true
stand_all [] all = refl
stand_all (flag ∷ flags) all = both_true (may_stand flag) (list_all may_stand flags) (cases_or (is_any flag) (is_flag flag) all.0) (stand_all flags all.1)

stand_in : (flags : List (List ℕ)) → AllByRecursion MayStand flags → AllInside flags
stand_in [] all = tt
stand_in (flag ∷ flags) all =
    (elim all.0 as (λ _. AllPass is_inside flag) [ inl is ↦ flag_inside flag is | inr is ↦ any_inside flag is ], stand_in flags all.1)

-- a list in front of its right parenthesis
fits_ok : (passes permanent : Bool) (text : List ℕ) → fits_list passes permanent text ≡ Ok tt → passes ≡ true
fits_ok passes permanent text is = (ok_first passes _ (Ok tt) tt is).0

list_cut : (list rest : List ℕ) → AllPass is_inside list → IsCut is_inside (list ++ 41 ∷ rest) list (41 ∷ rest)
list_cut list rest all = record { all = all; ends = refl; whole = refl }

-- the text is this list in parentheses, and this rest
abbrev pub IsListed : List ℕ → List ℕ → List ℕ → Type 0
IsListed text list rest = text ≡ 40 ∷ (list ++ 41 ∷ rest)

abbrev pub Give : Type 0
Give = Listed × List ℕ

abbrev pub behind_list : Listed → List ℕ → Result Give ℕ
behind_list found rest = Ok (found, rest)

abbrev pub behind_test : (List ℕ → Listed) → List ℕ → Unit {0} → Result Give ℕ
behind_test of inside done = mark_at 41 (drop (list_len inside) inside) >>= behind_list (of (list_text inside))

abbrev pub behind_mark : (List ℕ → Bool) → Bool → (List ℕ → Listed) → List ℕ → Result Give ℕ
behind_mark test permanent of inside = fits_list (test (list_text inside)) permanent inside >>= behind_test of inside

-- lists in parentheses, by whatever test and whatever they are read as
pub list_spells : (test : List ℕ → Bool) (permanent : Bool) (of : List ℕ → Listed) (text : List ℕ) (read : Give)
    → (mark_at 40 text >>= behind_mark test permanent of) ≡ Ok read → (list : List ℕ) × IsListed text list read.1 × (test list ≡ true) × (read.0 ≡ of list)
list_spells test permanent of text read is =
    let open_ = ok_bind (mark_at 40 text) (behind_mark test permanent of) read is in
    let fits = ok_bind (fits_list (test (list_text open_.0)) permanent open_.0) (behind_test of open_.0) read open_.2 in
    let close = ok_bind (mark_at 41 (drop (list_len open_.0) open_.0)) (behind_list (of (list_text open_.0))) read fits.2 in
    let begins = mark_spells 40 text open_.0 open_.1 in
    let ends = mark_spells 41 (drop (list_len open_.0) open_.0) close.0 close.1 in
    let same = ok_is (of (list_text open_.0), close.0) read close.2 in
    let listed : IsListed text (list_text open_.0) close.0 = begins
    ∙ ap (λ (t : List ℕ). 40 ∷ t) (sym (take-append-drop (list_len open_.0) open_.0)
    ∙ ap (λ (t : List ℕ). list_text open_.0 ++ t) ends) in
    subst (λ (r : Give). (list : List ℕ) × IsListed text list r.1 × (test list ≡ true) × (r.0 ≡ of list)) same
    (list_text open_.0, listed, fits_ok (test (list_text open_.0)) permanent open_.0 fits.1, refl)

list_reads : (test : List ℕ → Bool) (permanent : Bool) (of : List ℕ → Listed) (text list rest : List ℕ)
    → IsListed text list rest → AllPass is_inside list → test list ≡ true → (mark_at 40 text >>= behind_mark test permanent of) ≡ Ok (of list, rest)
list_reads test permanent of text list rest is all passes =
    let inside : List ℕ = list ++ 41 ∷ rest in
    let front : list_text (list ++ 41 ∷ rest) ≡ list = cut_front is_inside (list ++ 41 ∷ rest) list (41 ∷ rest) (list_cut list rest all) in
    let behind : drop (list_len (list ++ 41 ∷ rest)) (list ++ 41 ∷ rest) ≡ 41 ∷ rest =
    cut_behind is_inside (list ++ 41 ∷ rest) list (41 ∷ rest) (list_cut list rest all) in
    let passes' : test (list_text (list ++ 41 ∷ rest)) ≡ true = ap test front ∙ passes in
    let fits : fits_list (test (list_text (list ++ 41 ∷ rest))) permanent (list ++ 41 ∷ rest) ≡ Ok tt = rw passes' refl in
    let close : mark_at 41 (drop (list_len (list ++ 41 ∷ rest)) (list ++ 41 ∷ rest)) ≡ Ok rest = mark_reads 41 _ rest behind in
    bind_ok (mark_at 40 text) (behind_mark test permanent of) (list ++ 41 ∷ rest) (of list, rest) (mark_reads 40 text (list ++ 41 ∷ rest) is)
    (bind_ok (fits_list (test (list_text (list ++ 41 ∷ rest))) permanent (list ++ 41 ∷ rest)) (behind_test of (list ++ 41 ∷ rest)) tt (of list, rest) fits
    (bind_ok (mark_at 41 (drop (list_len (list ++ 41 ∷ rest)) (list ++ 41 ∷ rest))) (behind_list (of (list_text (list ++ 41 ∷ rest)))) rest
    (of list, rest) close
    (ap (λ (l : List ℕ). Ok (of l, rest)) front)))

-- flags
abbrev pub test_flags : List ℕ → Bool
test_flags list = list_all is_flag (flags_of list)

abbrev pub of_flags : List ℕ → Listed
of_flags list = listed whole (flags_of list)

pub flags_spells : (text : List ℕ) (read : Give) → flags_at whole text ≡ Ok read → (list : List ℕ) × IsListed text list read.1 × IsFlags list read.0.flags
unfolding flags_at
flags_spells text read is =
    let w = list_spells test_flags false of_flags text read is in
    (w.0, w.1, record { each = all_flags (flags_of w.0) w.2; set = ap (λ (l : Listed). l.flags) w.3 })

pub flags_reads : (text list rest : List ℕ) (keys : List (List ℕ)) → IsListed text list rest → IsFlags list keys →
    (found : Listed) × (flags_at whole text ≡ Ok (found, rest)) × (found.flags ≡ keys)
unfolding flags_at
flags_reads text list rest keys is flags = (
  of_flags list,
  list_reads test_flags false of_flags text list rest is (list_inside list (flags_in (flags_of list) flags.each))
      (flags_all (flags_of list) flags.each),
  sym flags.set,
)

-- flags and stars
abbrev pub test_permanent : List ℕ → Bool
test_permanent list = list_all may_stand (flags_of list)

abbrev pub of_permanent : List ℕ → Listed
of_permanent list = listed_permanent whole (flags_of list)

pub permanent_spells : (text : List ℕ) (read : Give) → permanent_at whole text ≡ Ok read →
    (list : List ℕ) × IsListed text list read.1 × ArePermanent list read.0.flags read.0.any
unfolding permanent_at
permanent_spells text read is =
    let w = list_spells test_permanent true of_permanent text read is in
    (w.0, w.1, record { each = all_stand (flags_of w.0) w.2; set = ap (λ (l : Listed). l.flags) w.3; starred = ap (λ (l : Listed). l.any) w.3 })

pub permanent_reads : (text list rest : List ℕ) (keys : List (List ℕ)) (any : Bool) → IsListed text list rest → ArePermanent list keys any
    → (found : Listed) × (permanent_at whole text ≡ Ok (found, rest)) × (found.flags ≡ keys) × (found.any ≡ any)
unfolding permanent_at
permanent_reads text list rest keys any is flags = (
  of_permanent list,
  list_reads test_permanent true of_permanent text list rest is
      (list_inside list (stand_in (flags_of list) flags.each)) (stand_all (flags_of list) flags.each),
  sym flags.set,
  sym flags.starred,
)

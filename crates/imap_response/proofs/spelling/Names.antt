-- Words and names in any case: what is read, and what is spelled.
use Rattle.std.proofs.Common.{◌≡◌, ◌≢◌, ℕ, Bool, true, false, List, [], ◌∷◌, ◌++◌, length, map, refl, ap, sym, ◌∙◌, subst, inl, inr, arith, Ok}
use Rattle.std.proofs.lemmas.Bool.{cases_Bool, and_parts}
use Rattle.std.proofs.lemmas.Bool.Decides.{nat_tests}
use Rattle.std.proofs.lemmas.Slice.Eq.{bytes_eq-Decides}
use Rattle.std.specs.Prelude.{◌&&◌}
use Rattle.std.specs.List.{list_all}
use Rattle.std.specs.Char.{to_ascii_lowercase}
use Rattle.std.specs.Str.{bytes_eq}
use Rattle.imap_model.specs.Words.{SameWord, is_word_byte}
use Rattle.imap_model.specs.Values.{is_wide_byte}
use Rattle.imap_model.proofs.Cutting.{Stops as Ends}
use Rattle.imap_response.specs.Leaf.{same_word, wide_at, named_at}
use Rattle.imap_response.proofs.spelling.Results.{ok_is, ok_first}
use Rattle.imap_response.proofs.spelling.Runs.{AllPass, IsCut, cut_front, cut_behind, reading_cuts}

-- tests of equal texts
pub bytes_equal : (xs ys : List ℕ) → bytes_eq xs ys ≡ true → xs ≡ ys
bytes_equal xs ys test = (bytes_eq-Decides xs ys).0 test

pub equal_bytes : (xs ys : List ℕ) → xs ≡ ys → bytes_eq xs ys ≡ true
equal_bytes xs ys same = (bytes_eq-Decides xs ys).1 same

pub other_bytes : (xs ys : List ℕ) → bytes_eq xs ys ≡ false → xs ≢ ys
other_bytes xs ys test same = cc (equal_bytes xs ys same)

pub same_is : (word name : List ℕ) → same_word word name ≡ true → SameWord word name
same_is word name test = bytes_equal _ _ test

pub is_same : (word name : List ℕ) → SameWord word name → same_word word name ≡ true
is_same word name same = equal_bytes _ _ same

pub other_is : (word name : List ℕ) → same_word word name ≡ false → SameWord word name → ⊥
other_is word name test same = other_bytes _ _ test same

pub is_other : (word name : List ℕ) → (SameWord word name → ⊥) → same_word word name ≡ false
is_other word name other = elim (cases_Bool (same_word word name)) [ inl is ↦ absurd (other (same_is word name is)) | inr is ↦ is ]

-- a test that doesn't mind case
pub wide_lower : (b : ℕ) → is_wide_byte (to_ascii_lowercase b) ≡ is_wide_byte b
wide_lower b = grind (arith, nat_tests)

pub word_lower : (b : ℕ) → is_word_byte (to_ascii_lowercase b) ≡ is_word_byte b
word_lower b = grind (arith, nat_tests)

pub all_lower : (p : ℕ → Bool) → ((b : ℕ) → p (to_ascii_lowercase b) ≡ p b) → (text : List ℕ) → list_all p (map to_ascii_lowercase text) ≡ list_all p text
all_lower p lower [] = refl
all_lower p lower (b ∷ text) = rw (lower b) (ap (λ (t : Bool). p b && t) (all_lower p lower text))

pub all_from : (p : ℕ → Bool) (text : List ℕ) → list_all p text ≡ true → AllPass p text
all_from p [] all = tt
all_from p (b ∷ text) all = let both = and_parts (p b) (list_all p text) all in (both.0, all_from p text both.1)

both_true : (x y : Bool) → x ≡ true → y ≡ true → (x && y) ≡ true
both_true true true h k = refl
both_true true false h k = k
both_true false y h k = h

pub from_all : (p : ℕ → Bool) (text : List ℕ) → AllPass p text → list_all p text ≡ true
from_all p [] all = refl
from_all p (b ∷ text) all = both_true (p b) (list_all p text) all.0 (from_all p text all.1)

-- what holds of the bytes of a name, holds of those of the same word
pub same_passes : (p : ℕ → Bool) → ((b : ℕ) → p (to_ascii_lowercase b) ≡ p b) → (word name : List ℕ) → SameWord word name →
    list_all p name ≡ true → AllPass p word
same_passes p lower word name same all =
    all_from p word (sym (all_lower p lower word) ∙ ap (list_all p) same ∙ all_lower p lower name ∙ all)

pub same_wide : (word name : List ℕ) → SameWord word name → list_all is_wide_byte name ≡ true → AllPass is_wide_byte word
same_wide word name same all = same_passes is_wide_byte wide_lower word name same all

pub same_solid : (word name : List ℕ) → SameWord word name → list_all is_word_byte name ≡ true → AllPass is_word_byte word
same_solid word name same all = same_passes is_word_byte word_lower word name same all

-- the text begins with this name, in any case, and goes on so: with no byte of an atom
pub record IsNamed (name text rest : List ℕ) : Type 0 where
  pub word : List ℕ
  pub same : SameWord word name
  pub whole : text ≡ word ++ rest
  pub ends : Ends is_wide_byte rest

pub named_spells : (name text rest : List ℕ) → named_at name text ≡ Ok rest → IsNamed name text rest
unfolding named_at
named_spells name text rest is =
    let both = ok_first (same_word (wide_at text).0 name) (length text) (Ok (wide_at text).1) rest is in
    let behind = ok_is (wide_at text).1 rest both.1 in
    let cut = reading_cuts is_wide_byte text in
    record {
      word = (wide_at text).0;
      same = same_is (wide_at text).0 name both.0;
      whole = cut.whole ∙ ap (λ (r : List ℕ). (wide_at text).0 ++ r) behind;
      ends = subst (Ends is_wide_byte) behind cut.ends;
    }

pub named_reads : (name text rest : List ℕ) → list_all is_wide_byte name ≡ true → IsNamed name text rest → named_at name text ≡ Ok rest
unfolding named_at
named_reads name text rest wide is =
    let cut : IsCut is_wide_byte text is.word rest = record { all = same_wide is.word name is.same wide; ends = is.ends; whole = is.whole } in
    let front : (wide_at text).0 ≡ is.word = cut_front is_wide_byte text is.word rest cut in
    let test : same_word (wide_at text).0 name ≡ true = ap (λ (w : List ℕ). same_word w name) front ∙ is_same is.word name is.same in
    rw test (ap Ok (cut_behind is_wide_byte text is.word rest cut))

-- One reading of several, by a name.
use Rattle.std.proofs.Common.{◌≡◌, ℕ, Bool, true, false, cond, List, [], ◌∷◌, map, refl, ap, sym, ◌∙◌, inl, inr, ◌⊎◌, Result, Ok}
use Rattle.std.specs.Prelude.{◌||◌}
use Rattle.std.specs.List.{AllByRecursion, list_any}
use Rattle.std.specs.Char.{to_ascii_lowercase}
use Rattle.std.specs.Str.{bytes_eq, str_eq_ignore_ascii_case}
use Rattle.imap_model.specs.Words.{SameWord}
use Rattle.imap_response.specs.Leaf.{same_word}
use Rattle.imap_response.proofs.spelling.Names.{same_is, is_same, bytes_equal, equal_bytes}
use Rattle.imap_response.proofs.spelling.Results.{ok_either}

-- the reading beside the first name that the word is
abbrev pub choose : {A : Type 0} → List ℕ → List (List ℕ × Result A ℕ) → Result A ℕ → Result A ℕ
choose word [] other = other
choose word (row ∷ rows) other = cond (same_word word row.0) row.1 (choose word rows other)

-- the word is one of the names, whose reading gives this
abbrev pub Chosen : {A : Type 0} → List ℕ → List (List ℕ × Result A ℕ) → A → Type 0
Chosen word [] x = ⊥
Chosen word (row ∷ rows) x = (SameWord word row.0 × (row.1 ≡ Ok x)) ⊎ Chosen word rows x

-- the word is none of them
abbrev pub IsNone : {A : Type 0} → List ℕ → List (List ℕ × Result A ℕ) → Type 0
IsNone word [] = Unit {0}
IsNone word (row ∷ rows) = (same_word word row.0 ≡ false) × IsNone word rows

pub choice : {A : Type 0} (word : List ℕ) (rows : List (List ℕ × Result A ℕ)) (other : Result A ℕ) (x : A) →
    choose word rows other ≡ Ok x → Chosen word rows x ⊎ (IsNone word rows × (other ≡ Ok x))
choice word [] other x is = inr (tt, is)
choice word (row ∷ rows) other x is = elim (ok_either (same_word word row.0) row.1 (choose word rows other) x is) [
  | inl here ↦ inl (inl (same_is word row.0 here.0, here.1))
  | inr later ↦ elim (choice word rows other x later.1) [
    | inl more ↦ inl (inr more)
    | inr none ↦ inr ((later.0, none.0), none.1)
  ]
]

pub choose_none : {A : Type 0} (word : List ℕ) (rows : List (List ℕ × Result A ℕ)) (other : Result A ℕ) → IsNone word rows → choose word rows other ≡ other
choose_none word [] other none = refl
choose_none word (row ∷ rows) other none = rw none.0 (choose_none word rows other none.1)

-- tests of names
either_way : (s t : Bool) → (s ≡ true → t ≡ true) → (t ≡ true → s ≡ true) → s ≡ t
either_way true true f g = refl
either_way true false f g = sym (f refl)
either_way false true f g = g refl
either_way false false f g = refl

pub turned : (word name : List ℕ) → str_eq_ignore_ascii_case name word ≡ same_word word name
turned word name = either_way (str_eq_ignore_ascii_case name word) (same_word word name)
    (λ is. is_same word name (sym (bytes_equal (map to_ascii_lowercase name) (map to_ascii_lowercase word) is)))
    (λ is. equal_bytes (map to_ascii_lowercase name) (map to_ascii_lowercase word) (sym (same_is word name is)))

or_none : (x y : Bool) → (x || y) ≡ false → (x ≡ false) × (y ≡ false)
or_none true y is = absurd cc
or_none false y is = (refl, is)

none_or : (x y : Bool) → x ≡ false → y ≡ false → (x || y) ≡ false
none_or x y is is' = rw (is, is') refl

pub none_of : (names : List (List ℕ)) (word : List ℕ) → list_any (λ known. str_eq_ignore_ascii_case known word) names ≡ false →
    AllByRecursion (λ name. same_word word name ≡ false) names
none_of [] word is = tt
none_of (name ∷ names) word is =
    let both = or_none (str_eq_ignore_ascii_case name word) (list_any (λ known. str_eq_ignore_ascii_case known word) names) is in
    (sym (turned word name) ∙ both.0, none_of names word both.1)

pub of_none : (names : List (List ℕ)) (word : List ℕ) → AllByRecursion (λ name. same_word word name ≡ false) names →
    list_any (λ known. str_eq_ignore_ascii_case known word) names ≡ false
of_none [] word all = refl
of_none (name ∷ names) word all = none_or (str_eq_ignore_ascii_case name word)
    (list_any (λ known. str_eq_ignore_ascii_case known word) names) (turned word name ∙ all.0) (of_none names word all.1)

-- a word in another case is chosen alike
pub same_test : (word name other : List ℕ) → SameWord word name → same_word word other ≡ same_word name other
same_test word name other same = ap (λ (low : List ℕ). bytes_eq low (map to_ascii_lowercase other)) same

pub choose_same : {A : Type 0} (word name : List ℕ) (rows : List (List ℕ × Result A ℕ)) (other : Result A ℕ) → SameWord word name →
    choose word rows other ≡ choose name rows other
choose_same word name [] other same = refl
choose_same word name (row ∷ rows) other same = rw (same_test word name row.0 same, choose_same word name rows other same) refl

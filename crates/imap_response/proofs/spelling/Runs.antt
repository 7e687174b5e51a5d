-- The longest run in front of a text, and what stands behind it.
use Rattle.std.proofs.Common.{◌≡◌, ℕ, suc, Bool, true, false, List, [], ◌∷◌, ◌++◌, length, take, drop, refl, ap, sym, ◌∙◌, subst, inl, inr}
use Rattle.std.proofs.Math.Seq.{take-append_seam, drop-append_seam}
use Rattle.std.proofs.Math.Numerals.{one-add}
use Rattle.std.proofs.lemmas.Bool.{cases_Bool}
use Rattle.std.proofs.lemmas.List.{take-append-drop}
use Rattle.std.specs.List.{prefix_len, AllByRecursion, AllByRecursion}
use Rattle.imap_model.proofs.Cutting.{Stops}

-- each byte passes
abbrev pub AllPass : (ℕ → Bool) → List ℕ → Type 0
AllPass p text = AllByRecursion (λ byte. p byte ≡ true) text

-- the text is a run and a rest that doesn't go on with one byte more of it
pub record IsCut (p : ℕ → Bool) (text run rest : List ℕ) : Type 0 where
  pub all : AllPass p run
  pub ends : Stops p rest
  pub whole : text ≡ run ++ rest

pub more_len : (p : ℕ → Bool) (b : ℕ) (text : List ℕ) → p b ≡ true → prefix_len p (b ∷ text) ≡ suc (prefix_len p text)
more_len p b text passes = rw passes (one-add _)

pub no_len : (p : ℕ → Bool) (b : ℕ) (text : List ℕ) → p b ≡ false → prefix_len p (b ∷ text) ≡ 0
no_len p b text fails = rw fails refl

pub cut_len : (p : ℕ → Bool) (run rest : List ℕ) → AllPass p run → Stops p rest → prefix_len p (run ++ rest) ≡ length run
cut_len p [] [] all ends = refl
cut_len p [] (b ∷ rest) all ends = no_len p b rest ends
cut_len p (b ∷ run) rest all ends = more_len p b (run ++ rest) all.0 ∙ ap suc (cut_len p run rest all.1 ends)

-- a cut is the one that reading makes
pub cut_front : (p : ℕ → Bool) (text run rest : List ℕ) → IsCut p text run rest → take (prefix_len p text) text ≡ run
cut_front p text run rest cut =
    rw cut.whole (rw (cut_len p run rest cut.all cut.ends) (take-append_seam run rest))

pub cut_behind : (p : ℕ → Bool) (text run rest : List ℕ) → IsCut p text run rest → drop (prefix_len p text) text ≡ rest
cut_behind p text run rest cut =
    rw cut.whole (rw (cut_len p run rest cut.all cut.ends) (drop-append_seam run rest))

pub front_all : (p : ℕ → Bool) (text : List ℕ) → AllPass p (take (prefix_len p text) text)
front_all p [] = tt
front_all p (b ∷ text) = elim (cases_Bool (p b)) [
  | inl passes ↦ subst (λ (n : ℕ). AllPass p (take n (b ∷ text))) (sym (more_len p b text passes)) (passes, front_all p text)
  | inr fails ↦ subst (λ (n : ℕ). AllPass p (take n (b ∷ text))) (sym (no_len p b text fails)) tt
]

pub behind_stops : (p : ℕ → Bool) (text : List ℕ) → Stops p (drop (prefix_len p text) text)
behind_stops p [] = tt
behind_stops p (b ∷ text) = elim (cases_Bool (p b)) [
  | inl passes ↦ subst (λ (n : ℕ). Stops p (drop n (b ∷ text))) (sym (more_len p b text passes)) (behind_stops p text)
  | inr fails ↦ subst (λ (n : ℕ). Stops p (drop n (b ∷ text))) (sym (no_len p b text fails)) fails
]

-- and reading makes one
pub reading_cuts : (p : ℕ → Bool) (text : List ℕ) → IsCut p text (take (prefix_len p text) text) (drop (prefix_len p text) text)
reading_cuts p text = record {
  all = front_all p text;
  ends = behind_stops p text;
  whole = sym (take-append-drop (prefix_len p text) text);
}

pub all_weaker : (p q : ℕ → Bool) → ((b : ℕ) → p b ≡ true → q b ≡ true) → (text : List ℕ) → AllPass p text → AllPass q text
all_weaker p q weaker [] all = tt
all_weaker p q weaker (b ∷ text) all = (weaker b all.0, all_weaker p q weaker text all.1)

pub all_joined : (p : ℕ → Bool) (left right : List ℕ) → AllPass p left → AllPass p right → AllPass p (left ++ right)
all_joined p [] right all all' = all'
all_joined p (b ∷ left) right all all' = (all.0, all_joined p left right all.1 all')

pub all_left : (p : ℕ → Bool) (left right : List ℕ) → AllPass p (left ++ right) → AllPass p left
all_left p [] right all = tt
all_left p (b ∷ left) right all = (all.0, all_left p left right all.1)

pub all_right : (p : ℕ → Bool) (left right : List ℕ) → AllPass p (left ++ right) → AllPass p right
all_right p [] right all = all
all_right p (b ∷ left) right all = all_right p left right all.1

-- what doesn't pass another test either
pub stops_weaker : (p q : ℕ → Bool) → ((b : ℕ) → p b ≡ false → q b ≡ false) → (text : List ℕ) → Stops p text → Stops q text
stops_weaker p q weaker [] ends = tt
stops_weaker p q weaker (b ∷ text) ends = weaker b ends

-- Steps over bytes of a line: what is read, and what is spelled.
use Rattle.std.proofs.Common.{◌≡◌, ◌≢◌, ℕ, List, [], ◌∷◌, ap, sym, ◌∙◌, subst, Result, Ok}
use Rattle.imap_model.specs.Parts.{Part, bytes}
use Rattle.imap_model.specs.Words.{IsGap, Spaced}
use Rattle.imap_model.proofs.Cutting.{Stops as Ends}
use Rattle.imap_response.specs.Leaf.{is_space, gap_at, mark_at}
use Rattle.imap_response.specs.Left.{Left, at_left, mark_in}
use Rattle.imap_response.proofs.spelling.Passing.{Passes, Fits, bytes_pass, pass_bytes, pass_left}
use Rattle.imap_response.proofs.spelling.Results.{ok_is, ok_bind, bind_ok}
use Rattle.imap_response.proofs.spelling.Words.{gap_spells, gap_reads, mark_spells, mark_reads, no_space}

-- the same parts in another form
pub repart : (left behind : Left) (a b : List Part) → a ≡ b → Passes left a behind → Passes left b behind
repart left behind a b same passes = subst (λ (p : List Part). Passes left p behind) same passes

-- spaces
pub record IsGapFront (left : Left) (rest : List ℕ) : Type 0 where
  pub gap : List ℕ
  pub spaces : IsGap gap
  pub passes : Passes left (bytes gap) (at_left left rest)

pub gap_front : (left : Left) (rest : List ℕ) → Fits left → gap_at left.text ≡ Ok rest → IsGapFront left rest
gap_front left rest fits is =
    let spaced = gap_spells left.text rest is in
    record { gap = spaced.gap; spaces = spaced.spaces; passes = bytes_pass left spaced.gap rest fits spaced.whole }

pub gap_spaced : (left behind : Left) (gap : List ℕ) → IsGap gap → Ends is_space behind.text → Passes left (bytes gap) behind → Spaced left.text behind.text
gap_spaced left behind gap spaces ends passes = record {
  gap = gap;
  spaces = spaces;
  whole = pass_bytes left gap behind passes;
  no_more =
      no_space behind.text ends;
}

pub gap_there : (left behind : Left) (gap : List ℕ) → IsGap gap → Ends is_space behind.text → Passes left (bytes gap) behind → gap_at left.text ≡ Ok behind.text
gap_there left behind gap spaces ends passes = gap_reads left.text behind.text (gap_spaced left behind gap spaces ends passes)

-- one byte
pub mark_front : (byte : ℕ) (left : Left) (rest : List ℕ) → Fits left → mark_at byte left.text ≡ Ok rest → Passes left (bytes (byte ∷ [])) (at_left left rest)
mark_front byte left rest fits is = bytes_pass left (byte ∷ []) rest fits (mark_spells byte left.text rest is)

pub mark_there : (byte : ℕ) (left behind : Left) → Passes left (bytes (byte ∷ [])) behind → mark_at byte left.text ≡ Ok behind.text
mark_there byte left behind passes = mark_reads byte left.text behind.text (pass_bytes left (byte ∷ []) behind passes)

abbrev put_left : Left → List ℕ → Result Left ℕ
put_left left text = Ok (at_left left text)

pub mark_in_front : (byte : ℕ) (left behind : Left) → Fits left → mark_in byte left ≡ Ok behind → Passes left (bytes (byte ∷ [])) behind
unfolding mark_in
mark_in_front byte left behind fits is =
    let rest = ok_bind (mark_at byte left.text) (put_left left) behind is in
    subst (Passes left (bytes (byte ∷ []))) (ok_is (at_left left rest.0) behind rest.2) (mark_front byte left rest.0 fits rest.1)

pub mark_in_there : (byte : ℕ) (left behind : Left) → Passes left (bytes (byte ∷ [])) behind → mark_in byte left ≡ Ok behind
unfolding mark_in
mark_in_there byte left behind passes =
    bind_ok (mark_at byte left.text) (put_left left) behind.text behind (mark_there byte left behind passes)
    (ap (λ (l : Left). Ok l) (pass_left left (byte ∷ []) behind passes))

pub no_mark : (byte b : ℕ) (text more : List ℕ) → text ≡ b ∷ more → b ≢ byte → (rest : List ℕ) → mark_at byte text ≡ Ok rest → ⊥
no_mark byte b text more is other rest marked =
    let there = mark_spells byte text rest marked in
    let same : b ∷ more ≡ byte ∷ rest = sym is ∙ there in
    other cc

pub no_mark_none : (byte : ℕ) (rest : List ℕ) → mark_at byte [] ≡ Ok rest → ⊥
no_mark_none byte rest marked = let there = mark_spells byte [] rest marked in cc

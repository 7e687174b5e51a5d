-- Runs of bytes among the pieces of a list or of a section.
use Rattle.std.proofs.Common.{◌≡◌, ◌≢◌, ℕ, suc, ◌<◌, ◌≤◌, Bool, true, false, List, [], ◌∷◌, ◌++◌, length, refl, ap, sym, ◌∙◌, subst, inl}
use Rattle.std.proofs.Common.{inr, arith, append_assoc, length-append}
use Rattle.std.proofs.lemmas.Bool.{cases_Bool}
use Rattle.std.specs.List.{AllByRecursion, flat_map}
use Rattle.imap_model.specs.Parts.{Part, bytes}
use Rattle.imap_model.specs.Values.{Piece, Open, Close, Single, Quoted, Octets, IsPiece, piece_parts, Closes, NotBracket}
use Rattle.imap_model.proofs.Cutting.{Stops as Ends}
use Rattle.imap_response.specs.Left.{Left}
use Rattle.imap_response.proofs.spelling.Passing.{Passes, text_of, split, text_joined}
use Rattle.imap_response.proofs.spelling.Runs.{AllPass}
use Rattle.imap_response.proofs.spelling.Values.{singles, singles_parts, pieces_joined}

-- no byte that passes comes first
abbrev pub PiecesStop : (ℕ → Bool) → List Piece → Type 0
PiecesStop p [] = Unit {0}
PiecesStop p (Open ∷ pieces) = Unit {0}
PiecesStop p (Close ∷ pieces) = Unit {0}
PiecesStop p (Single byte ∷ pieces) = p byte ≡ false
PiecesStop p (Quoted cs ∷ pieces) = Unit {0}
PiecesStop p (Octets digits octets ∷ pieces) = Unit {0}

pub record IsRun (p : ℕ → Bool) (pieces : List Piece) : Type 0 where
  pub text : List ℕ
  pub rest : List Piece
  pub whole : pieces ≡ singles text ++ rest
  pub all : AllPass p text
  pub stops : PiecesStop p rest

no_run : (p : ℕ → Bool) (pieces : List Piece) → PiecesStop p pieces → IsRun p pieces
no_run p pieces stops = record { text = []; rest = pieces; whole = refl; all = tt; stops = stops }

more_run : (p : ℕ → Bool) (b : ℕ) (pieces : List Piece) → p b ≡ true → IsRun p pieces → IsRun p (Single b ∷ pieces)
more_run p b pieces passes run = record {
  text = b ∷ run.text;
  rest = run.rest;
  whole =
      ap (λ (q : List Piece). Single b ∷ q) run.whole;
  all = (passes, run.all);
  stops = run.stops;
}

pub run_of : (p : ℕ → Bool) (pieces : List Piece) → IsRun p pieces
run_of p [] = no_run p [] tt
run_of p (Open ∷ pieces) = no_run p (Open ∷ pieces) tt
run_of p (Close ∷ pieces) = no_run p (Close ∷ pieces) tt
run_of p (Single byte ∷ pieces) = elim (cases_Bool (p byte)) [
  | inl passes ↦ more_run p byte pieces passes (run_of p pieces)
  | inr fails ↦ no_run p (Single byte ∷ pieces) fails
]
run_of p (Quoted cs ∷ pieces) = no_run p (Quoted cs ∷ pieces) tt
run_of p (Octets digits octets ∷ pieces) = no_run p (Octets digits octets ∷ pieces) tt

some_from : (p : ℕ → Bool) (b : ℕ) (pieces rest : List Piece) (text : List ℕ) → p b ≡ true → Single b ∷ pieces ≡ singles text ++ rest →
    PiecesStop p rest → text ≢ []
some_from p b pieces rest [] passes whole stops none =
    let fails : p b ≡ false = subst (PiecesStop p) (sym whole) stops in cc
some_from p b pieces rest (x ∷ text) passes whole stops none = cc

pub run_some : (p : ℕ → Bool) (b : ℕ) (pieces : List Piece) → p b ≡ true → (run : IsRun p (Single b ∷ pieces)) → run.text ≢ []
run_some p b pieces passes run = some_from p b pieces run.rest run.text passes run.whole run.stops

-- a test that the first bytes of the other pieces fail
pub record IsClear (p : ℕ → Bool) : Type 0 where
  pub open_ : p 40 ≡ false
  pub close : p 41 ≡ false
  pub quote : p 34 ≡ false
  pub brace : p 123 ≡ false

rest_ends : (p : ℕ → Bool) (rest : List Piece) (more : List ℕ) → IsClear p → PiecesStop p rest → (rest ≡ [] → Ends p more) →
    Ends p (text_of (flat_map piece_parts rest) ++ more)
rest_ends p [] more clear stops last = last refl
rest_ends p (Open ∷ rest) more clear stops last = clear.open_
rest_ends p (Close ∷ rest) more clear stops last = clear.close
rest_ends p (Single byte ∷ rest) more clear stops last = stops
rest_ends p (Quoted cs ∷ rest) more clear stops last = clear.quote
rest_ends p (Octets digits octets ∷ rest) more clear stops last = clear.brace

-- the run in front of a line
pub record IsRunFront (p : ℕ → Bool) (text : List ℕ) (rest : List Piece) (tail : List Part) (left behind : Left) : Type 0 where
  pub mid : Left
  pub front : Passes left (bytes text) mid
  pub back : Passes mid (flat_map piece_parts rest ++ tail) behind
  pub ends : Ends p mid.text

pub run_front : (p : ℕ → Bool) (pieces : List Piece) (run : IsRun p pieces) (tail : List Part) (left behind : Left) → IsClear p →
    (run.rest ≡ [] → Ends p (text_of tail ++ behind.text))
    → Passes left (flat_map piece_parts pieces ++ tail) behind → IsRunFront p run.text run.rest tail left behind
run_front p pieces run tail left behind clear last passes =
    let whole : flat_map piece_parts pieces ++ tail ≡ bytes run.text ++ (flat_map piece_parts run.rest ++ tail) =
    ap (λ (q : List Piece). flat_map piece_parts q ++ tail) run.whole
    ∙ ap (λ (q : List Part). q ++ tail) (pieces_joined (singles run.text) run.rest
    ∙ ap (λ (q : List Part). q ++ flat_map piece_parts run.rest) (singles_parts run.text))
    ∙ append_assoc (bytes run.text) (flat_map piece_parts run.rest) tail in
    let cut = split left (bytes run.text) (flat_map piece_parts run.rest ++ tail) behind (subst (λ (q : List Part). Passes left q behind) whole passes) in
    let text : cut.0.text ≡ text_of (flat_map piece_parts run.rest) ++ (text_of tail ++ behind.text) =
    cut.2.text ∙ ap (λ (t : List ℕ). t ++ behind.text) (text_joined (flat_map piece_parts run.rest) tail)
    ∙ append_assoc (text_of (flat_map piece_parts run.rest)) (text_of tail) behind.text in
    record {
      mid = cut.0;
      front = cut.1;
      back = cut.2;
      ends = subst (Ends p) (sym text)
          (rest_ends p run.rest (text_of tail ++ behind.text) clear run.stops last);
    }

-- what holds of the pieces behind a run
pub lawful_behind : (a b : List Piece) → AllByRecursion IsPiece (a ++ b) → AllByRecursion IsPiece b
lawful_behind [] b all = all
lawful_behind (p ∷ a) b all = lawful_behind a b all.1

pub other_behind : (a b : List Piece) → AllByRecursion NotBracket (a ++ b) → AllByRecursion NotBracket b
other_behind [] b all = all
other_behind (p ∷ a) b all = other_behind a b all.1

pub closes_behind : (text : List ℕ) (rest : List Piece) (depth : ℕ) → Closes (suc depth) (singles text ++ rest) → Closes (suc depth) rest
closes_behind [] rest depth closes = closes
closes_behind (b ∷ text) rest depth closes = closes_behind text rest depth closes

pub shorter : (left mid : Left) (parts : List Part) (more : ℕ) → Passes left parts mid → 0 < length (text_of parts) →
    length left.text ≤ suc more → length mid.text ≤ more
shorter left mid parts more passes some fits = omega (arith, ap length passes.text, length-append (text_of parts) mid.text, some, fits)

-- A part that was searched up to a place, and then behind it.
use Rattle.std.proofs.Common.{◌≡◌, ◌≢◌, ℕ, suc, ◌+◌, ◌-◌, ◌<◌, ◌≤◌, List, ◌∷◌, ◌++◌, length, take, drop, sym, ◌∙◌, ap, subst, arith}
use Rattle.std.proofs.Common.{get_or, length-drop, length-take, take-append-drop, get_or-drop, get_or-take}
use Rattle.std.proofs.lemmas.List.{drop-drop}
use Rattle.std.proofs.Math.Seq.{take-add, take-length}
use Rattle.std.proofs.Common.{None, Some, Option, true}
use Rattle.std.proofs.lemmas.Bool.Decides.{nat_tests}
use Rattle.std.specs.Prelude.{◌==◌, IfNone, IfSome}
use Rattle.memchr.specs.Find.{IsFirstByte, is_byte}
use Rattle.mail_base.specs.Frames.{NoLf}
use Rattle.mail_base.proofs.Lf.{no_lf-append, no_lf-index}
use Rattle.literal_feed.proofs.Parts.{cut}

-- the rest as code slices it
pub all_behind : (xs : List ℕ) (at : ℕ) → take (length xs - at) (drop at xs) ≡ drop at xs
all_behind xs at = ap (λ (k : ℕ). take k (drop at xs)) (sym (length-drop at xs)) ∙ take-length (drop at xs)

pub none_before : (xs : List ℕ) (at : ℕ) → at ≤ length xs → ((k : ℕ) → k < at → get_or xs k 0 ≢ 10) → NoLf (take at xs)
none_before xs at within h = no_lf-index (take at xs) (λ k lt e.
    let small : k < at = omega (arith, lt, length-take at xs, within) in
    h k small (sym (get_or-take at xs k 0 small) ∙ e))

is_lf : (x : ℕ) → x ≡ 10 → (x == 10) ≡ true
is_lf x e = grind (arith, nat_tests)

from_lf : (x : ℕ) → (x == 10) ≡ true → x ≡ 10
from_lf x e = grind (arith, nat_tests)

-- what a search for LF found
pub none_found : (xs : List ℕ) (r : Option ℕ) → IsFirstByte (is_byte 10) xs r → IfNone r (NoLf xs)
none_found xs None h = no_lf-index xs (λ k lt e. h k (omega arith) lt (is_lf (get_or xs k 0) e))
none_found xs (Some i) h = tt

pub lf_found : (xs : List ℕ) (r : Option ℕ) → IsFirstByte (is_byte 10) xs r → IfSome r (λ at. (at < length xs) × NoLf (take at xs) × (get_or xs at 0 ≡ 10))
lf_found xs None h = tt
lf_found xs (Some i) h = (
  h.0.high,
  none_before xs i (omega (arith, h.0.high))
      (λ k lt e. h.0.before k (omega arith) lt (is_lf (get_or xs k 0) e)),
  from_lf (get_or xs i 0) h.1,
)

module _ (line : List ℕ) (part searched : ℕ) (ordered : part ≤ searched) (within : searched ≤ length line)
    (plain : NoLf (take (searched - part) (drop part line))) where
  seam : drop (searched - part) (drop part line) ≡ drop searched line
  seam = let at : part + (searched - part) ≡ searched = omega (arith, ordered) in drop-drop (searched - part) part line ∙ ap (λ (k : ℕ). drop k line) at

  -- no LF in the rest either
  pub plain_all : NoLf (drop searched line) → NoLf (drop part line)
  plain_all rest = subst NoLf (take-append-drop (searched - part) (drop part line))
      (no_lf-append (take (searched - part) (drop part line)) (drop (searched - part) (drop part line)) plain (subst NoLf (sym seam) rest))

  module _ (found : ℕ) (there : found < length (drop searched line)) (before : NoLf (take found (drop searched line)))
      (lf : get_or (drop searched line) found 0 ≡ 10) where
    at_is : searched + found - part ≡ searched - part + found
    at_is = omega (arith, ordered)

    pub plain_before : NoLf (take (searched + found - part) (drop part line))
    plain_before = subst (λ (k : ℕ). NoLf (take k (drop part line))) (sym at_is)
        (subst NoLf (sym (take-add (searched - part) found (drop part line)))
        (no_lf-append (take (searched - part) (drop part line)) (take found (drop (searched - part) (drop part line))) plain
        (subst (λ (t : List ℕ). NoLf (take found t)) (sym seam) before)))

    lf_there : get_or (drop part line) (searched + found - part) 0 ≡ 10
    lf_there =
        let behind : part + (searched + found - part) ≡ searched + found = omega (arith, ordered) in
        get_or-drop part line (searched + found - part) 0 ∙ ap (λ (k : ℕ). get_or line k 0) behind ∙ sym (get_or-drop searched line found 0) ∙ lf

    pub ended_there : drop part line ≡ take (searched + found - part) (drop part line) ++ 10 ∷ drop (suc (searched + found - part)) (drop part line)
    ended_there =
        let n : ℕ = searched + found - part in
        let lt : n < length (drop part line) = omega (arith, length-drop part line, length-drop searched line, there, ordered, within) in
        cut (drop part line) n lt ∙ ap (λ (b : ℕ). take n (drop part line) ++ b ∷ drop (suc n) (drop part line)) lf_there

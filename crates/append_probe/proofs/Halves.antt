-- What is told to be found, by a list and by its halves.
use Rattle.std.proofs.Common.{◌≡◌, ◌↔◌, ◌⊎◌, inl, inr, ℕ, zero, suc, ◌<◌, ◌≤◌, List, [], ◌∷◌, ◌++◌, sym, ◌∙◌, ap, subst, arith}
use Rattle.std.proofs.Common.{take, drop, length}
use Rattle.std.specs.Prelude.{Contains, slice_index_or}
use Rattle.std.proofs.lemmas.List.{take-append-drop}
use Rattle.uid_sets.specs.UidSet.{Member}
use Rattle.uid_sets.specs.declared.uid.UidRange.{UidRange}
use Rattle.imap_model.proofs.Remarking.{here, there}
use Rattle.imap_model.specs.CarriedOut.{FoundTold}
use Rattle.imap_model.specs.declared.response.Response.{Response}
use Rattle.imap_model.specs.declared.response.Response.TheVariants as responses
use Rattle.append_probe.specs.Candidates.{AreCandidates, Finds, IsFound}

at_place : {A : Type 0} (x y : A) (xs : List A) (k : ℕ) → k < length (x ∷ xs) → slice_index_or (x ∷ xs) k y ≡ y → (x ≡ y) ⊎ Contains xs y
at_place x y xs zero l e = inl e
at_place x y xs (suc k) l e = inr (k, omega arith, e)

-- an item is the first, or one behind it
pub first_or_later : {A : Type 0} (x y : A) (xs : List A) → Contains (x ∷ xs) y → (x ≡ y) ⊎ Contains xs y
first_or_later x y xs c = at_place x y xs c.0 c.1 c.2

pub in_nothing : {A : Type 0} (y : A) → Contains [] y → ⊥
in_nothing y c = let l : c.0 < 0 = c.1 in absurd (omega arith)

found_halves : (uid : ℕ) (front back : List Response) → IsFound uid (front ++ back) ↔ (IsFound uid front ⊎ IsFound uid back)
found_halves uid [] back = (λ f. inr f, λ e. elim e [ inl n ↦ absurd n | inr f ↦ f ])
found_halves uid (r ∷ front) back =
    let both : IsFound uid (front ++ back) ↔ (IsFound uid front ⊎ IsFound uid back) = found_halves uid front back in (
      λ e. elim e [ inl h ↦ inl (inl h) | inr l ↦ elim (both.0 l) [ inl f ↦ inl (inr f) | inr b ↦ inr b ] ],
      λ e. elim e [ inl h ↦ elim h [ inl x ↦ inl x | inr f ↦ inr (both.1 (inl f)) ] | inr b ↦ inr (both.1 (inr b)) ],
    )

-- what either half tells to be found is what the whole tells
pub two_found : (told front back : List Response) (n : ℕ) (left right both : List UidRange) → front ≡ take n told → back ≡ drop n told →
    ((uid : ℕ) → Member left uid ↔ IsFound uid front) → ((uid : ℕ) → Member right uid ↔ IsFound uid back) →
    ((uid : ℕ) → Member both uid ↔ (Member left uid ⊎ Member right uid)) → (uid : ℕ) → Member both uid ↔ IsFound uid told
two_found told front back n left right both f b l r m uid =
    let whole : front ++ back ≡ told =
    ap (λ (x : List Response). x ++ back) f ∙ ap (λ (x : List Response). take n told ++ x) b ∙ take-append-drop n told in
    let halves : IsFound uid (front ++ back) ↔ (IsFound uid front ⊎ IsFound uid back) = found_halves uid front back in (
      λ x. subst (λ (y : List Response). IsFound uid y) whole
          (halves.1 (elim ((m uid).0 x) [ inl p ↦ inl ((l uid).0 p) | inr q ↦ inr ((r uid).0 q) ])),
      λ x. (m uid).1 (elim (halves.0 (subst (λ (y : List Response). IsFound uid y) (sym whole) x))
          [ inl p ↦ inl ((l uid).1 p) | inr q ↦ inr ((r uid).1 q) ]),
    )

told_by_one : (uid : ℕ) (r : Response) (told : List Response) → Finds uid r → FoundTold (r ∷ told) uid
told_by_one uid (responses.Found uids) told f = (uids, here (responses.Found uids) told, f)
told_by_one uid r told f = absurd f

found_is_told : (uid : ℕ) (told : List Response) → IsFound uid told → FoundTold told uid
found_is_told uid [] f = absurd f
found_is_told uid (r ∷ told) (inl f) = told_by_one uid r told f
found_is_told uid (r ∷ told) (inr f) =
    let h : FoundTold told uid = found_is_told uid told f in (h.0, there r (responses.Found h.0) told h.1, h.2)

told_is_found : (uid : ℕ) (uids : List UidRange) (told : List Response) → Member uids uid → Contains told (responses.Found uids) →
    IsFound uid told
told_is_found uid uids [] m c = absurd (in_nothing (responses.Found uids) c)
told_is_found uid uids (r ∷ told) m c =
    elim (first_or_later r (responses.Found uids) told c) [
      | inl e ↦ inl (subst (λ (x : Response). Finds uid x) (sym e) m)
      | inr l ↦ inr (told_is_found uid uids told m l)
    ]

-- the found UIDs from one on
pub those_from : (low : ℕ) (told : List Response) (found rest : List UidRange) → ((uid : ℕ) → Member found uid ↔ IsFound uid told) →
    ((uid : ℕ) → Member rest uid ↔ (Member found uid × (low ≤ uid))) → AreCandidates low told rest
those_from low told found rest f r uid = (
  λ m. let p : Member found uid × (low ≤ uid) = (r uid).0 m in (found_is_told uid told ((f uid).0 p.0), p.1),
  λ p. (r uid).1 ((f uid).1 (told_is_found uid p.0.0 told p.0.2 p.0.1), p.1),
)

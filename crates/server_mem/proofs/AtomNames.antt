-- Names that are atoms.
use Rattle.std.proofs.Common.{◌≡◌, ℕ, Bool, true, false, cond, List, [], ◌∷◌, length, refl}
use Rattle.std.specs.Prelude.{◌&&◌, nat_lt}
use Rattle.std.specs.List.{AllByRecursion, list_all}
use Rattle.flag_set.specs.Flag.{is_atom_byte}
use Rattle.server_mem.specs.Offers.{AreAtoms, atoms, is_atom}
use Rattle.response_lines.specs.Tellable.{IsAtomic}

-- those that are kept are atoms
kept_on : (p : List ℕ → Bool) (x : List ℕ) (b : Bool) → p x ≡ b → (ys : List (List ℕ)) → list_all p ys ≡ true → list_all p (cond b (x ∷ ys) ys) ≡ true
kept_on p x false e ys h = h
kept_on p x true e ys h = rw (e) h

pub atoms_are : (offers : List (List ℕ)) → AreAtoms (atoms offers)
atoms_are [] = refl
atoms_are (x ∷ xs) = kept_on is_atom x (is_atom x) refl (atoms xs) (atoms_are xs)

-- and each can be told
both : (a b : Bool) → (a && b) ≡ true → (a ≡ true) × (b ≡ true)
both false b e = absurd (cc)
both true b e = (refl, e)

atomic_one : (word : List ℕ) → is_atom word ≡ true → IsAtomic word
atomic_one [] e = absurd (cc)
atomic_one (x ∷ xs) e = (λ same. absurd (cc), (both (nat_lt 0 (length (x ∷ xs))) (list_all is_atom_byte (x ∷ xs)) e).1)

pub atoms_told : (offers : List (List ℕ)) → AreAtoms offers → AllByRecursion IsAtomic offers
atoms_told [] e = tt
atoms_told (x ∷ xs) e = let parts = both (is_atom x) (list_all is_atom xs) e in (atomic_one x parts.0, atoms_told xs parts.1)

pub atoms_of : (kept offers : List (List ℕ)) → kept ≡ atoms offers → AreAtoms kept
atoms_of kept offers e = rw (e) (atoms_are offers)

-- Two texts of one length in front of others.
use Rattle.std.proofs.Common.{◌≡◌, ℕ, List, [], ◌∷◌, ◌++◌, length, refl, arith}

pub length_same : (xs ys r s : List ℕ) → length xs ≡ length ys → xs ++ r ≡ ys ++ s → (xs ≡ ys) × (r ≡ s)
length_same [] [] r s len same = (refl, same)
length_same [] (y ∷ ys) r s len same = absurd (omega arith)
length_same (x ∷ xs) [] r s len same = absurd (omega arith)
length_same (x ∷ xs) (y ∷ ys) r s len same =
    let first : x ≡ y = cc in
    let rest : xs ++ r ≡ ys ++ s = cc in
    let both = length_same xs ys r s (omega arith) rest in
    let tails : xs ≡ ys = both.0 in
    (cc, both.1)

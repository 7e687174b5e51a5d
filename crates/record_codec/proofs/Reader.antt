-- How a reader goes on from one item to the next.
use Rattle.std.proofs.Common.{◌≡◌, ◌<◌, ◌≤◌, ℕ, zero, suc, ◌-◌, List, [], ◌∷◌, ◌++◌, Result, Ok, Err, refl, sym, ap, append_assoc, arith}
use Rattle.std.proofs.lemmas.List.{append-nil}
use Rattle.record_codec.specs.declared.misfit.Misfit.{Misfit}
use Rattle.record_codec.specs.declared.misfit.Misfit.TheVariants as misfits
use Rattle.record_codec.specs.Giving.{Fails}
use Rattle.record_codec.specs.Reading.{Reading, ◌>>=◌, many_at}

-- items that were read before, and what is read behind them
abbrev pub onto : {A : Type 0} → List A → Reading (List A) → Reading (List A)
onto xs (Ok r) = Ok (xs ++ r.0, r.1)
onto xs (Err left) = Err left

pub onto-nil : {A : Type 0} (r : Reading (List A)) → onto [] r ≡ r
onto-nil (Ok r) = refl
onto-nil (Err left) = refl

abbrev first_of_all : {A : Type 0} → A → Reading (List A) → Reading (List A)
first_of_all x (Ok others) = Ok (x ∷ others.0, others.1)
first_of_all x (Err left) = Err left

onto_first : {A : Type 0} (xs : List A) (x : A) (r : Reading (List A)) → onto xs (r >>= (λ others. Ok (x ∷ others.0, others.1))) ≡ onto (xs ++ x ∷ []) r
onto_first xs x (Ok r) = ap (λ ys. Ok (ys, r.1)) (sym (append_assoc xs (x ∷ []) r.0))
onto_first xs x (Err left) = refl

-- one more item
pub many_more : {A S : Type 0} (item : S → List ℕ → Reading A) (next : S → A → S) (left : ℕ) (s : S) (bytes : List ℕ) (x : A × List ℕ)
    (xs : List A) → 0 < left → item s bytes ≡ Ok x
    → onto xs (many_at item next left s bytes) ≡ onto (xs ++ x.0 ∷ []) (many_at item next (left - 1) (next s x.0) x.1)
unfolding many_at
many_more item next zero s bytes x xs some is = absurd (omega arith)
many_more item next (suc n) s bytes x xs some is =
    let fewer : suc n - 1 ≡ n = omega arith in
    rw (is, fewer) (onto_first xs x.0 (many_at item next n (next s x.0) x.1))

-- an item that doesn't fit
pub many_fails : {A S : Type 0} (item : S → List ℕ → Reading A) (next : S → A → S) (left : ℕ) (s : S) (bytes : List ℕ) (n : ℕ)
    (xs : List A) → 0 < left → item s bytes ≡ Err n
    → onto xs (many_at item next left s bytes) ≡ Err n
unfolding many_at
many_fails item next zero s bytes n xs some is = absurd (omega arith)
many_fails item next (suc m) s bytes n xs some is = rw is refl

-- no item is left
pub many_ends : {A S : Type 0} (item : S → List ℕ → Reading A) (next : S → A → S) (left : ℕ) (s : S) (bytes : List ℕ) (xs : List A) → left ≤ 0
    → onto xs (many_at item next left s bytes) ≡ Ok (xs, bytes)
unfolding many_at
many_ends item next zero s bytes xs none = ap (λ ys. Ok (ys, bytes)) (append-nil xs)
many_ends item next (suc n) s bytes xs none = absurd (omega arith)

-- a field of the field doesn't fit
pub fails_on : {A B : Type 0} (misfit : Misfit) (r : Result A ℕ) (q : Result B ℕ) → ((n : ℕ) → r ≡ Err n → q ≡ Err n) → Fails misfit r → Fails misfit q
fails_on misfits.Memory r q on fails = fails
fails_on (misfits.Left n) r q on fails = on n fails

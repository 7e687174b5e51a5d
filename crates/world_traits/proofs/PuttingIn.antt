-- Putting bytes at a place of a file: first it is made long enough, then the range is written over.
use Rattle.std.proofs.Common.{◌≡◌, ⊎_elim, ℕ, ◌+◌, ◌-◌, ◌≤◌, List, ◌++◌, length, take, drop, replicate, sym, ◌∙◌, ap, arith, length-append}
use Rattle.std.proofs.Math.Seq.{take-append-add}
use Rattle.std.proofs.lemmas.List.{take-append-le, take-replicate, length-replicate, take_all, drop_all, append-nil}
use Rattle.std.proofs.lemmas.Bool.{cases_lt}
use Rattle.world_traits.specs.Files.{put}

module _ (at : ℕ) (bytes old : List ℕ) where
  abbrev pub long : List ℕ
  long = old ++ replicate (at + length bytes - length old) 0

  nothing : (n : ℕ) → n ≡ 0 → (xs : List ℕ) → xs ++ replicate {A = ℕ} n 0 ≡ xs
  nothing n none xs = ap (λ (k : ℕ). xs ++ replicate {A = ℕ} k 0) none ∙ append-nil xs

  take_within : at ≤ length old → take at long ≡ take at old ++ replicate (at - length old) 0
  take_within le = take-append-le at old _ le ∙ sym (nothing (at - length old) (omega arith) (take at old))

  take_past : length old ≤ at → take at long ≡ take at old ++ replicate (at - length old) 0
  take_past le =
      let reach : at ≡ length old + (at - length old) = omega arith in
      let zeros = replicate {A = ℕ} (at + length bytes - length old) 0 in
      ap (λ (k : ℕ). take k long) reach
      ∙ take-append-add old zeros (at - length old)
      ∙ ap (λ (z : List ℕ). old ++ z) (take-replicate (at - length old) (at + length bytes - length old) 0 (omega arith))
      ∙ ap (λ (f : List ℕ). f ++ replicate {A = ℕ} (at - length old) 0) (sym (take_all at old le))

  pub take_long : take at long ≡ take at old ++ replicate (at - length old) 0
  take_long = ⊎_elim (λ lt. take_within (omega (arith, lt))) (λ ge. take_past ge) (cases_lt at (length old))

  pub drop_long : drop (at + length bytes) long ≡ drop (at + length bytes) old
  drop_long =
      ⊎_elim (λ lt. ap (drop (at + length bytes)) (nothing _ (omega (arith, lt)) old))
      (λ ge. drop_all _ long (omega (
        arith,
        length-append old (replicate (at + length bytes - length old) 0),
        length-replicate {A = ℕ} (at + length bytes - length old) 0,
      )) ∙ sym (drop_all _ old ge))
      (cases_lt (at + length bytes) (length old))

  pub put_long : take at long ++ bytes ++ drop (at + length bytes) long ≡ put at bytes old
  put_long = ap (λ (front : List ℕ). front ++ bytes ++ drop (at + length bytes) long) take_long
      ∙ ap (λ (back : List ℕ). take at old ++ replicate (at - length old) 0 ++ bytes ++ back) drop_long

-- a slice of a vector that was changed in place is all of the vector
pub all_back : (n : ℕ) (now before : List ℕ) → length now ≡ length before → n ≡ length before → take n (now ++ drop (length now) before) ≡ now
all_back n now before same is =
    ap (λ (back : List ℕ). take n (now ++ back)) (drop_all (length now) before (omega arith))
    ∙ ap (take n) (append-nil now)
    ∙ take_all n now (omega arith)

-- the same, where the slice became what putting makes
pub put_back : (at : ℕ) (bytes old before now : List ℕ) → before ≡ long at bytes old →
    now ≡ take at before ++ bytes ++ drop (at + length bytes) before → now ≡ put at bytes old
put_back at bytes old before now reached is = is ∙ ap (λ (l : List ℕ). take at l ++ bytes ++ drop (at + length bytes) l) reached ∙ put_long at bytes old

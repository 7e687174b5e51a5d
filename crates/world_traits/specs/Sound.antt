-- What a write and a sync make of a file's bytes is one of its images.
-- These lemmas stand beside the definitions, since the law of an impl cites them.
use Rattle.std.proofs.Common.{◌≡◌, inl, inr, ⊎_elim, ℕ, ◌+◌, ◌-◌, ◌≤◌, ◌<◌, max, List, ◌++◌, length, get_or, take, drop, replicate, refl}
use Rattle.std.proofs.Common.{◌∙◌, ap, arith, length-take, length-drop, length-append, get_or-take, get_or-drop}
use Rattle.std.proofs.lemmas.List.{get_or_append_left, get_or-append_right, length-replicate}
use Rattle.std.proofs.lemmas.Bool.{cases_lt}
use Rattle.world_traits.specs.Files.{Stored, MayHold, Touched, clean, touch, put}

-- the old length, or the end of the bytes put in, whichever is more
pub length-put : (at : ℕ) (bytes old : List ℕ) → length (put at bytes old) ≡ max (length old) (at + length bytes)
length-put at bytes old =
    omega (
      arith,
      length-append (take at old ++ replicate (at - length old) 0 ++ bytes) (drop (at + length bytes) old),
      length-append (take at old ++ replicate (at - length old) 0) bytes,
      length-append (take at old) (replicate (at - length old) 0),
      length-take at old,
      length-replicate {A = ℕ} (at - length old) 0,
      length-drop (at + length bytes) old,
    )

-- in front of the bytes put in the old ones stand
pub put_before : (at : ℕ) (bytes old : List ℕ) (k : ℕ) → k < at → k < length old → get_or (put at bytes old) k 0 ≡ get_or old k 0
put_before at bytes old k lt in_old =
    let a = take at old in
    let l1 : k < length (take at old) = omega (arith, length-take at old) in
    let l2 : k < length (take at old ++ replicate (at - length old) 0) = omega (arith, length-append (take at old) (replicate (at - length old) 0)) in
    let l3 : k < length (take at old ++ replicate (at - length old) 0 ++ bytes) =
    omega (arith, length-append (take at old ++ replicate (at - length old) 0) bytes) in
    get_or_append_left _ (drop (at + length bytes) old) 0 k l3
    ∙ get_or_append_left _ bytes 0 k l2
    ∙ get_or_append_left _ (replicate (at - length old) 0) 0 k l1
    ∙ get_or-take at old k 0 lt

-- and behind them
pub put_behind : (at : ℕ) (bytes old : List ℕ) (k : ℕ) → at + length bytes ≤ k → k < length old → get_or (put at bytes old) k 0 ≡ get_or old k 0
put_behind at bytes old k ge in_old =
    let front = take at old ++ replicate (at - length old) 0 ++ bytes in
    let long : length front ≡ at + length bytes = omega (
      arith,
      length-append (take at old ++ replicate (at - length old) 0) bytes,
      length-append (take at old) (replicate (at - length old) 0),
      length-take at old,
      length-replicate {A = ℕ} (at - length old) 0,
    ) in
    let there : at + length bytes + (k - (at + length bytes)) ≡ k = omega arith in
    get_or-append_right front (drop (at + length bytes) old) (at + length bytes) k 0 long ge
    ∙ get_or-drop (at + length bytes) old (k - (at + length bytes)) 0
    ∙ ap (λ (i : ℕ). get_or old i 0) there

-- the bytes after a write are an image of the file after it
pub holds_put : (file : Stored) (old : List ℕ) (at : ℕ) (bytes : List ℕ) → MayHold file old → MayHold (touch at (length bytes) file) (put at bytes old)
holds_put file old at bytes h =
    let a = h.no_shorter in
    let b = h.no_longer in
    record {
      no_shorter = omega (arith, length-put at bytes old);
      no_longer = omega (arith, length-put at bytes old);
      same = λ k lt away. other k lt away;
    }
  where
    other : (k : ℕ) → k < length file.synced → (Touched (touch at (length bytes) file).written k → ⊥) → get_or (put at bytes old) k 0 ≡ get_or file.synced k 0
    other k lt away =
        let in_old : k < length old = omega (arith, h.no_shorter) in
        let kept = h.same k lt (λ (t : Touched file.written k). away (inr t)) in
        ⊎_elim (λ before. put_before at bytes old k before in_old ∙ kept)
        (λ from. ⊎_elim (λ within. absurd (away (inl (from, within)))) (λ behind. put_behind at bytes old k behind in_old ∙ kept)
        (cases_lt k (at + length bytes)))
        (cases_lt k at)

-- and so are those of a sync
pub holds_clean : (bytes : List ℕ) → MayHold (clean bytes) bytes
holds_clean bytes = record { no_shorter = omega arith; no_longer = omega arith; same = λ k lt away. refl }

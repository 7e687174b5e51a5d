-- An image by draws, byte by byte, and that it is one that a stop may leave.
use Rattle.std.proofs.Common.{◌≡◌, inl, inr, ⊎_elim, ℕ, suc, zero, ◌+◌, ◌≤◌, ◌<◌, Bool, true, false, cond, leb, ltb, List, [], ◌∷◌, ◌++◌}
use Rattle.std.proofs.Common.{length, get_or, refl, ◌∙◌, ap, arith, add-one, length-append}
use Rattle.std.proofs.lemmas.List.{get_or_append_left, get_or_at}
use Rattle.std.proofs.lemmas.Bool.{cases_lt, and_parts, or_cases, leb-true, ltb-true, false_from_ne_true, cond-false}
use Rattle.std.specs.List.{list_any}
use Rattle.world_traits.specs.Files.{Range, Stored, furthest, Touched, MayHold}
use Rattle.world_mem.specs.Draws.{next, after}
use Rattle.world_mem.specs.Torn.{Torn}
use Rattle.world_mem.specs.Unsynced.{covers, is_unsynced, unsynced_before}
use Rattle.world_mem.specs.Image.{byte_by, byte_at, tabulated, reach, drawn_image}

length-tabulated : (f : ℕ → ℕ) (n : ℕ) → length (tabulated f n) ≡ n
length-tabulated f zero = refl
length-tabulated f (suc n) = omega (arith, length-append (tabulated f n) (f n ∷ []), length-tabulated f n)

get-tabulated : (f : ℕ → ℕ) (n k : ℕ) → k < n → get_or (tabulated f n) k 0 ≡ f k
get-tabulated f zero k lt = absurd (omega arith)
get-tabulated f (suc n) k lt =
    ⊎_elim (λ (before : k < n). get_or_append_left (tabulated f n) (f n ∷ []) 0 k (omega (arith, length-tabulated f n)) ∙ get-tabulated f n k before)
    (λ (last : n ≤ k). let is : n ≡ k = omega arith in get_or_at (tabulated f n) (f n) [] 0 k (length-tabulated f n ∙ is) ∙ ap f is)
    (cases_lt k n)

reach_more : (rs : List Range) (n : ℕ) → n ≤ furthest rs n
reach_more [] n = omega arith
reach_more (r ∷ rs) n = omega (arith, reach_more rs n)

touched_by : (k : ℕ) (rs : List Range) → list_any (covers k) rs ≡ true → Touched rs k
touched_by k [] is = absurd (cc)
touched_by k (r ∷ rs) is =
    ⊎_elim (λ (here : covers k r ≡ true). let both = and_parts (leb r.low k) (ltb k r.high) here in inl (leb-true r.low k both.0, ltb-true k r.high both.1))
    (λ (there : list_any (covers k) rs ≡ true). inr (touched_by k rs there))
    (or_cases (covers k r) (list_any (covers k) rs) is)

-- a synced byte outside all ranges is no unsynced one
stays : (file : Stored) (k : ℕ) → k < length file.synced → (Touched file.written k → ⊥) → is_unsynced file k ≡ false
stays file k lt away =
    false_from_ne_true (is_unsynced file k) (λ is.
    ⊎_elim (λ (past : leb (length file.synced) k ≡ true). absurd (omega (arith, leb-true (length file.synced) k past)))
    (λ (touched : list_any (covers k) file.written ≡ true). away (touched_by k file.written touched))
    (or_cases (leb (length file.synced) k) (list_any (covers k) file.written) is))

kept_byte : (x : ℕ) (file : Torn) (k : ℕ) → is_unsynced file.stored k ≡ false → byte_by x file k ≡ get_or file.stored.synced k 0
unfolding byte_by
kept_byte x file k is = cond-false (is_unsynced file.stored k) _ _ is

-- an image by draws is one that a stop may leave
pub drawn_holds : (x : ℕ) (file : Torn) → MayHold file.stored (drawn_image x file)
drawn_holds x file =
    let f = byte_at x file in
    let long : length (tabulated f (reach file)) ≡ reach file = length-tabulated f (reach file) in
    let more : length file.stored.synced ≤ reach file = reach_more file.stored.written (length file.stored.synced) in
    record {
      no_shorter = omega arith;
      no_longer = omega arith;
      same = λ k lt away. get-tabulated f (reach file) k (omega arith) ∙ kept_byte _ file k (stays file.stored k lt away);
    }

-- one byte more
pub tabulated_more : (f : ℕ → ℕ) (n : ℕ) (image : List ℕ) (byte : ℕ) → image ≡ tabulated f n → byte ≡ f n → image ++ byte ∷ [] ≡ tabulated f (n + 1)
tabulated_more f n image byte is here = rw (add-one) (ap (λ (l : List ℕ). l ++ byte ∷ []) is ∙ ap (λ (b : ℕ). tabulated f n ++ b ∷ []) here)

after_cond : (b : Bool) (u x : ℕ) → cond b (next (after u x)) (after u x) ≡ after (cond b (suc u) u) x
after_cond true u x = refl
after_cond false u x = refl

-- and the draw for it, if it took one
pub drawn_more : (file : Stored) (at x y z : ℕ) → y ≡ after (unsynced_before file at) x → z ≡ cond (is_unsynced file at) (next y) y →
    z ≡ after (unsynced_before file (at + 1)) x
drawn_more file at x y z is here = rw (add-one) (here ∙ ap (λ (n : ℕ). cond (is_unsynced file at) (next n) n) is
    ∙ after_cond (is_unsynced file at) (unsynced_before file at) x)

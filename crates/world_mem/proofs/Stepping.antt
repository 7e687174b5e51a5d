-- A script goes on where it was left.
use Rattle.std.proofs.Common.{◌≡◌, ℕ, zero, suc, ◌+◌, ◌-◌, ◌*◌, ◌/◌, ◌%◌, ◌<◌, ◌≤◌, min, Bool, true, false, List, [], ◌∷◌, ◌++◌}
use Rattle.std.proofs.Common.{take, drop, length, Some, IfSome, IfOk, Result, Ok, Err, refl, sym, ap, ap₂, subst, ◌∙◌, arith}
use Rattle.std.proofs.Common.{take_all, take-take, length-append, length-take, length-take-le, length-drop, append-nil, ltb-true, ltb-false}
use Rattle.std.proofs.Math.Nat.{le-mul_of_pos_right, div-add-mod, mod-lt}
use Rattle.std.proofs.Math.Seq.{take-add, take-append-add, drop-nil}
use Rattle.std.proofs.lemmas.List.{drop-append-le}
use Rattle.std.specs.Prelude.{nat_lt, if◌then◌else◌}
use Rattle.world_mem.specs.Scripts.{again, next_of, rest_at, coming}
use Rattle.world_mem.specs.Scripted.{Scripted, connection_with, connection_of, coming_in}
use Rattle.world_mem.specs.declared.script.Script.{Script}
use Rattle.world_mem.specs.declared.script.Script.TheVariants.{Piece, Endless}

assoc : (xs ys zs : List ℕ) → (xs ++ ys) ++ zs ≡ xs ++ (ys ++ zs)
assoc [] ys zs = refl
assoc (x ∷ xs) ys zs = ap (λ (l : List ℕ). x ∷ l) (assoc xs ys zs)

-- again and again, first so often, then so often
again_more : (i j : ℕ) (b : List ℕ) → again (i + j) b ≡ again i b ++ again j b
again_more zero j b = ap (λ (n : ℕ). again n b) (omega arith)
again_more (suc i) j b =
    let turn : suc i + j ≡ suc (i + j) = omega arith in
    ap (λ (n : ℕ). again n b) turn ∙ ap (λ (l : List ℕ). b ++ l) (again_more i j b) ∙ sym (assoc b (again i b) (again j b))

long_again : (i : ℕ) (b : List ℕ) → length (again i b) ≡ i * length b
long_again zero b = omega arith
long_again (suc i) b = omega (arith, length-append b (again i b), long_again i b)

-- no more rounds are needed than hold it
front_more : (m i j : ℕ) (b : List ℕ) → m ≤ i * length b → take m (again (i + j) b) ≡ take m (again i b)
front_more m i j b h =
    ap (take m) (again_more i j b) ∙ front m (again i b) (again j b) (omega (arith, long_again i b))
  where
    front : (n : ℕ) (xs ys : List ℕ) → n ≤ length xs → take n (xs ++ ys) ≡ take n xs
    front zero xs ys le = refl
    front (suc n) [] ys le = absurd (omega arith)
    front (suc n) (x ∷ xs) ys le = ap (λ (l : List ℕ). x ∷ l) (front n xs ys (omega arith))

fronts_same : (m i j : ℕ) (b : List ℕ) → m ≤ i * length b → m ≤ j * length b → take m (again i b) ≡ take m (again j b)
fronts_same m i j b hi hj =
    let turn : i + j ≡ j + i = omega arith in
    sym (front_more m i j b hi) ∙ ap (λ (n : ℕ). take m (again n b)) turn ∙ front_more m j i b hj

-- behind whole rounds the bytes come from their front
round_front : (q r m : ℕ) (b : List ℕ) → m ≡ q * length b + r → r ≤ length b → take m (again (suc q) b) ≡ again q b ++ take r b
round_front q r m b is le =
    let turn : suc q ≡ q + 1 = omega arith in
    let long : m ≡ length (again q b) + r = omega (arith, long_again q b) in
    ap (λ (n : ℕ). take m (again n b)) turn
    ∙ ap (take m) (again_more q 1 b)
    ∙ ap (λ (n : ℕ). take n (again q b ++ again 1 b)) long
    ∙ take-append-add (again q b) (again 1 b) r
    ∙ ap (λ (l : List ℕ). again q b ++ take r l) (append-nil b)

-- the pieces of such rounds
rounds : (n k : ℕ) (b : List ℕ) → 0 < length b → k ≤ length (drop (n % length b) b) →
    take (n + k) (again (n + k) b) ≡ take n (again n b) ++ take k (drop (n % length b) b)
rounds n k b some le =
    let len = length b in
    let q = n / len in
    let r = n % len in
    let below : r < len = mod-lt n some in
    let room : k ≤ len - r = omega (arith, length-drop r b) in
    let whole : n ≡ q * len + r = omega (arith, div-add-mod n len) in
    let wide : n + k ≤ (n + k) * len = le-mul_of_pos_right (n + k) some in
    let wide_n : n ≤ n * len = le-mul_of_pos_right n some in
    let more : n + k ≤ suc q * len = omega arith in
    let less : n ≤ suc q * len = omega arith in
    fronts_same (n + k) (n + k) (suc q) b wide more
    ∙ round_front q (r + k) (n + k) b (omega arith) (omega arith)
    ∙ ap (λ (l : List ℕ). again q b ++ l) (take-add r k b)
    ∙ sym (assoc (again q b) (take r b) (take k (drop r b)))
    ∙ ap (λ (l : List ℕ). l ++ take k (drop r b)) (sym (fronts_same n n (suc q) b wide_n less ∙ round_front q r n b whole (omega arith)))

-- none of no bytes
again_none : (n : ℕ) → again n [] ≡ []
again_none zero = refl
again_none (suc n) = again_none n

take_none : (n : ℕ) → ◌≡◌ {A = List ℕ} (take n []) []
take_none n = take_all n [] (omega arith)

round_none : (n k i : ℕ) → take (n + k) (again (n + k) []) ≡ take n (again n []) ++ take k (drop i [])
round_none n k i =
    ap (take (n + k)) (again_none (n + k)) ∙ take_none (n + k)
    ∙ sym (ap₂ (λ (x y : List ℕ). x ++ y) (ap (take n) (again_none n) ∙ take_none n) (ap (take k) (drop-nil i) ∙ take_none k))

endless : (n k : ℕ) (b : List ℕ) → k ≤ length (drop (n % length b) b) →
    take (n + k) (again (n + k) b) ≡ take n (again n b) ++ take k (drop (n % length b) b)
endless n k [] le = round_none n k (n % 0)
endless n k (x ∷ b) le = rounds n k (x ∷ b) (omega arith) le

-- nothing is nothing
pub none_of : (script : List Script) → next_of 0 script ≡ []
none_of [] = refl
none_of (Piece bytes ∷ script) = ap (λ (n : ℕ). next_of n script) (omega arith) ∙ none_of script
none_of (Endless bytes ∷ script) = refl

-- in a piece
inside : (n k : ℕ) (b : List ℕ) (script : List Script) → n < length b → k ≤ length (drop n b) →
    take (n + k) b ++ next_of (n + k - length b) script ≡ (take n b ++ next_of (n - length b) script) ++ take k (drop n b)
inside n k b script lt le =
    let room : k ≤ length b - n = omega (arith, length-drop n b) in
    let none_behind : n + k - length b ≡ 0 = omega arith in
    let none_before : n - length b ≡ 0 = omega arith in
    let front : take n b ++ next_of (n - length b) script ≡ take n b =
    ap (λ (m : ℕ). take n b ++ next_of m script) none_before
    ∙ ap (λ (l : List ℕ). take n b ++ l) (none_of script) ∙ append-nil (take n b) in
    ap (λ (m : ℕ). take (n + k) b ++ next_of m script) none_behind
    ∙ ap (λ (l : List ℕ). take (n + k) b ++ l) (none_of script) ∙ append-nil (take (n + k) b)
    ∙ take-add n k b
    ∙ ap (λ (l : List ℕ). l ++ take k (drop n b)) (sym front)

-- behind a piece
behind : (n k : ℕ) (b : List ℕ) (script : List Script) (rest : List ℕ) → length b ≤ n →
    next_of (n - length b + k) script ≡ next_of (n - length b) script ++ rest →
    take (n + k) b ++ next_of (n + k - length b) script ≡ (take n b ++ next_of (n - length b) script) ++ rest
behind n k b script rest le goes =
    let same : n + k - length b ≡ n - length b + k = omega arith in
    ap₂ (λ (x y : List ℕ). x ++ y) (take_all (n + k) b (omega arith) ∙ sym (take_all n b le)) (ap (λ (m : ℕ). next_of m script) same ∙ goes)
    ∙ sym (assoc (take n b) (next_of (n - length b) script) rest)

-- bytes of the rest of a piece come behind what was given
pub goes_on : (n k : ℕ) (script : List Script) → k ≤ length (rest_at n script) →
    next_of (n + k) script ≡ next_of n script ++ take k (rest_at n script)
goes_on n k [] le = sym (take_none k)
goes_on n k (Piece bytes ∷ script) le =
    let b = bytes.items in
    elim (nat_lt n (length b)) as (λ v. nat_lt n (length b) ≡ v → k ≤ length (if v then drop n b else rest_at (n - length b) script) →
    take (n + k) b ++ next_of (n + k - length b) script
    ≡ (take n b ++ next_of (n - length b) script) ++ take k (if v then drop n b else rest_at (n - length b) script)) [
      | true ↦ λ e h. inside n k b script (ltb-true _ _ e) h
      | false ↦ λ e h. behind n k b script (take k (rest_at (n - length b) script)) (ltb-false _ _ e) (goes_on (n - length b) k script h)
    ] refl le
goes_on n k (Endless bytes ∷ script) le = endless n k bytes.items le

-- what comes is the rest of a piece, or a front of it
coming_is : (g n : ℕ) (script : List Script) → n ≤ length (coming g script) →
    (n ≤ length (rest_at g script)) × (take n (coming g script) ≡ take n (rest_at g script))
coming_is g n script le =
    let left = 18446744073709551615 - g in
    let room : n ≤ min left (length (rest_at g script)) = omega (arith, length-take left (rest_at g script)) in
    (omega arith, take-take n left (rest_at g script) (omega arith))

-- so many bytes more are given
pub gives_more : (g n : ℕ) (script : List Script) → length (next_of g script) ≡ g → n ≤ length (coming g script) →
    length (next_of (g + n) script) ≡ g + n
gives_more g n script is le =
    let next = coming_is g n script le in
    ap (λ (l : List ℕ). length l) (goes_on g n script next.0)
    ∙ length-append (next_of g script) (take n (rest_at g script))
    ∙ ap₂ (λ (x y : ℕ). x + y) is (length-take-le n (rest_at g script) next.0)

-- and received, in a connection
received_more : (on : Bool) (g began n : ℕ) (script : List Script) → length (next_of g script) ≡ g → began ≤ g → n ≤ length (coming g script) →
    IfSome (connection_with on (drop began (next_of g script)))
    (λ c. connection_with on (drop began (next_of (g + n) script)) ≡ Some (record c { received = c.received ++ take n (coming g script) }))
received_more false g began n script is before le = tt
received_more true g began n script is before le =
    let next = coming_is g n script le in
    ap (λ (x : List ℕ). Some (record { received = x }))
    (ap (drop began) (goes_on g n script next.0)
    ∙ drop-append-le began (next_of g script) (take n (rest_at g script)) (omega (arith, is))
    ∙ ap (λ (x : List ℕ). drop began (next_of g script) ++ x) (sym next.1))

pub receives_more : (p : Scripted) (n : ℕ) → length (next_of p.given p.script) ≡ p.given → p.began ≤ p.given → n ≤ length (coming_in p) →
    IfSome (connection_of p)
    (λ c. connection_of (record p { given = p.given + n }) ≡ Some (record c { received = c.received ++ take n (coming_in p) }))
receives_more p n is before le = received_more p.on p.given p.began n p.script is before le

-- received as they stand in the buffer
pub received_as : {E : Type 0} (r : Result ℕ E) (p q : Scripted) (into coming : List ℕ) → IfOk r (λ n. take n into ≡ take n coming) →
    IfOk r (λ n. IfSome (connection_of p) (λ c. connection_of q ≡ Some (record c { received = c.received ++ take n coming }))) →
    IfOk r (λ n. IfSome (connection_of p) (λ c. connection_of q ≡ Some (record c { received = c.received ++ take n into })))
received_as (Err e) p q into coming same h = tt
received_as (Ok n) p q into coming same h =
    subst (λ (x : List ℕ). IfSome (connection_of p) (λ c. connection_of q ≡ Some (record c { received = c.received ++ x }))) (sym same) h

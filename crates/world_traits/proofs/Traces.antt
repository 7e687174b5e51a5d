-- Two things that are known of the same moments are known together.
use Rattle.std.proofs.Common.{◌≡◌, ◌+◌, List, [], ◌∷◌, length, refl, sym, ◌∙◌, ap, subst, arith}
use Rattle.world_traits.specs.Moments.{Moment, Clock, grow, Chain, Since}

past_grow : (c : Clock) (xs : List Moment) → length (grow c xs).past ≡ length c.past + length xs
past_grow c [] = omega arith
past_grow c (x ∷ xs) = omega (arith, past_grow c xs)

same_heads : (x y : Moment) (xs ys : List Moment) → x ∷ xs ≡ y ∷ ys → x ≡ y
same_heads x y xs ys e = cc

same_tails : (x y : Moment) (xs ys : List Moment) → x ∷ xs ≡ y ∷ ys → xs ≡ ys
same_tails x y xs ys e = cc

same_clock : (k l : Clock) → k.now ≡ l.now → k.past ≡ l.past → k ≡ l
same_clock k l n p = ap (λ (m : Moment). record { now = m; past = k.past }) n ∙ ap (λ (ms : List Moment). record { now = l.now; past = ms }) p

-- a list of moments tells which were added
pub grow_same : (c : Clock) (xs ys : List Moment) → grow c xs ≡ grow c ys → xs ≡ ys
grow_same c [] [] e = refl
grow_same c [] (y ∷ ys) e = absurd (omega (arith, past_grow c ys, ap (λ (k : Clock). length k.past) e))
grow_same c (x ∷ xs) [] e = absurd (omega (arith, past_grow c xs, ap (λ (k : Clock). length k.past) e))
grow_same c (x ∷ xs) (y ∷ ys) e =
    let pasts = ap (λ (k : Clock). k.past) e in
    let same = same_clock (grow c xs) (grow c ys) (same_heads (grow c xs).now (grow c ys).now (grow c xs).past (grow c ys).past pasts)
    (same_tails (grow c xs).now (grow c ys).now (grow c xs).past (grow c ys).past pasts) in
    ap (λ (m : Moment). m ∷ xs) (ap (λ (k : Clock). k.now) e) ∙ ap (λ (ms : List Moment). y ∷ ms) (grow_same c xs ys same)

module _ (P Q : Moment → Type 0) (S T : Moment → Moment → Type 0) where
  chain_both : (c : Clock) (xs : List Moment) → Chain P S c xs → Chain Q T c xs → Chain (λ m. P m × Q m) (λ m n. S m n × T m n) c xs
  chain_both c [] a b = tt
  chain_both c (x ∷ xs) a b = ((a.0, b.0), (a.1, b.1), chain_both c xs a.2 b.2)

  -- both at once
  pub since_both : (old new : Clock) → Since P S old new → Since Q T old new → Since (λ m. P m × Q m) (λ m n. S m n × T m n) old new
  since_both old new a b = record {
    added = a.added;
    grown = a.grown;
    each = chain_both old a.added a.each (subst (λ (xs : List Moment). Chain Q T old xs) (grow_same old b.added a.added (sym b.grown ∙ a.grown)) b.each);
  }

-- what holds at the start and is handed on by each step holds now, of each added moment, and of the moment before each step
module _ (P Q : Moment → Type 0) (S : Moment → Moment → Type 0) (hand_on : (m n : Moment) → P n → S m n → Q m → Q n) (c : Clock) (at_first : Q c.now) where
  carry_now : (ms : List Moment) → Chain P S c ms → Q (grow c ms).now
  carry_now [] each = at_first
  carry_now (m ∷ ms) each = hand_on (grow c ms).now m each.0 each.1 (carry_now ms each.2)

  carry_all : (ms : List Moment) → Chain P S c ms → Chain (λ m. P m × Q m) (λ m n. Q m × S m n) c ms
  carry_all [] each = tt
  carry_all (m ∷ ms) each = ((each.0, carry_now (m ∷ ms) each), (carry_now ms each.2, each.1), carry_all ms each.2)

  pub since_carry : (new : Clock) → Since P S c new → Since (λ m. P m × Q m) (λ m n. Q m × S m n) c new
  since_carry new s = record { added = s.added; grown = s.grown; each = carry_all s.added s.each }

  pub carried_now : (new : Clock) → Since P S c new → Q new.now
  carried_now new s = subst (λ (k : Clock). Q k.now) (sym s.grown) (carry_now s.added s.each)

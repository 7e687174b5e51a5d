-- What is known of a run is known of its parts.
use Rattle.std.proofs.Common.{◌≡◌, List, [], ◌∷◌, ◌++◌, refl, sym, ◌∙◌, ap, subst}
use Rattle.world_traits.specs.Links.{Any}
use Rattle.world_traits.specs.Moments.{Moment, Clock, tick, grow, Chain, Since, Became}
use Rattle.world_traits.proofs.Passing.{since_start, since_then, since_weaker}
use Rattle.world_traits.proofs.Traces.{grow_same}
use Rattle.play_driver.specs.Joining.{Grows, AnyTwo}

pub grow_more : (c : Clock) (xs ys : List Moment) → grow (grow c xs) ys ≡ grow c (ys ++ xs)
grow_more c xs [] = refl
grow_more c xs (y ∷ ys) = ap (λ (k : Clock). tick k y) (grow_more c xs ys)

-- the first part of a run, and the second one
module _ (Q : Moment → Type 0) (T : Moment → Moment → Type 0) where
  chain_first : (c : Clock) (xs ys : List Moment) → Chain Q T c (ys ++ xs) → Chain Q T c xs
  chain_first c xs [] h = h
  chain_first c xs (y ∷ ys) h = chain_first c xs ys h.2

  chain_second : (c : Clock) (xs ys : List Moment) → Chain Q T c (ys ++ xs) → Chain Q T (grow c xs) ys
  chain_second c xs [] h = tt
  chain_second c xs (y ∷ ys) h = (h.0, subst (λ (k : Clock). T k.now y) (sym (grow_more c xs ys)) h.1, chain_second c xs ys h.2)

  parts : (old mid new : Clock) (a : Grows old mid) (b : Grows mid new) (w : Since Q T old new) → w.added ≡ b.added ++ a.added
  parts old mid new a b w =
      grow_same old w.added (b.added ++ a.added) (sym w.grown ∙ b.grown ∙ ap (λ (c : Clock). grow c b.added) a.grown ∙ grow_more old a.added b.added)

  pub since_first : (old mid new : Clock) → Grows old mid → Grows mid new → Since Q T old new → Since Q T old mid
  since_first old mid new a b w = record {
    added = a.added;
    grown = a.grown;
    each = chain_first old a.added b.added (subst (λ (xs : List Moment). Chain Q T old xs) (parts old mid new a b w) w.each);
  }

  pub since_second : (old mid new : Clock) → Grows old mid → Grows mid new → Since Q T old new → Since Q T mid new
  since_second old mid new a b w = record {
    added = b.added;
    grown = b.grown;
    each = subst (λ (c : Clock). Chain Q T c b.added) (sym a.grown)
        (chain_second old a.added b.added (subst (λ (xs : List Moment). Chain Q T old xs) (parts old mid new a b w) w.each));
  }

-- any run grows
pub grows : (P : Moment → Type 0) (S : Moment → Moment → Type 0) (old new : Clock) → Since P S old new → Grows old new
grows P S old new s = since_weaker P Any S AnyTwo (λ m p. tt) (λ m n q. tt) old new s

pub grows_start : (k : Clock) → Grows k k
grows_start k = since_start Any AnyTwo k

pub grows_then : (k l m : Clock) → Grows k l → Grows l m → Grows k m
grows_then k l m a b = since_then Any AnyTwo k l m a b

-- a step with R within a call from k to l is one within a run around it
pub became_within : (P : Moment → Type 0) (S R : Moment → Moment → Type 0) (e k l m : Clock) → Grows e k → Became P S R k l → Grows l m →
    Became Any AnyTwo R e m
became_within P S R e k l m before b after = record {
  at = b.at;
  to = b.to;
  before = grows_then e k b.at before (grows P S k b.at b.before);
  has = tt;
  step = tt;
  after = grows_then (tick b.at b.to) l m (grows P S (tick b.at b.to) l b.after) after;
  is = b.is;
}

-- a step with R within the first of two runs, and within the second
pub became_later : (R : Moment → Moment → Type 0) (old mid new : Clock) → Became Any AnyTwo R old mid → Grows mid new → Became Any AnyTwo R old new
became_later R old mid new b more = became_within Any AnyTwo R old old mid new (grows_start old) b more

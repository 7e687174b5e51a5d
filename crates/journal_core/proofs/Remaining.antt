-- Moments whose images stay of one kind.
use Rattle.std.proofs.Common.{◌≡◌, ◌⊎◌, ⊎_elim, ℕ, zero, suc, List, [], ◌∷◌}
use Rattle.world_traits.specs.Files.{Files}
use Rattle.world_traits.specs.Moments.{Moment, Clock, AtPhase, Chain, Only, GoesOn, Since, grow}
use Rattle.world_traits.proofs.Passing.{since_weaker}
use Rattle.journal_core.specs.Gates.{Passes, Remains}
use Rattle.journal_core.proofs.GateOpens.{old_is_either, old_to_old}

pub remains : (B : Files → Type 0) (m n : Moment) → n.outside ≡ m.outside → Only B m → Only B n → Remains B m n
remains B m n same a b = record { outside = same; at_from = a; at_to = b }

-- of a kind that leads to another
module _ (B C : Files → Type 0) (bc : (files : Files) → B files → C files) where
  pub only_of : (m : Moment) → Only B m → Only C m
  only_of m o = record {
    each = record { each = λ files h. bc files (o.each.each files h) };
    some = record { files = o.some.files; leaves = o.some.leaves; has = bc o.some.files o.some.has };
  }

  pub remains_of : (m n : Moment) → Remains B m n → Remains C m n
  remains_of m n r = record { outside = r.outside; at_from = only_of m r.at_from; at_to = only_of n r.at_to }

  pub stay_of : (k l : Clock) → Since (Only B) (Remains B) k l → Since (Only C) (Remains C) k l
  stay_of k l s = since_weaker (Only B) (Only C) (Remains B) (Remains C) only_of remains_of k l s

-- the first part of a way to another kind
pub stay_passes : (B A : Files → Type 0) (k l : Clock) → Since (Only B) (Remains B) k l → Passes B A k l
stay_passes B A k l s = since_weaker (Only B) _ (Remains B) (GoesOn B A) (old_is_either B A) (λ m n r. old_to_old B A m n r.outside r.at_from r.at_to) k l s

-- ---- a way from one kind to another is no change to who asks for less

module _ (P Q : Moment → Type 0) (S T : Moment → Moment → Type 0) (q : (m n : Moment) → S m n → Q n) (st : (m n : Moment) → S m n → T m n) where
  chain_by : (c : Clock) (xs : List Moment) → Chain P S c xs → Chain Q T c xs
  chain_by c [] a = tt
  chain_by c (x ∷ xs) a = (q (grow c xs).now x a.1, st (grow c xs).now x a.1, chain_by c xs a.2)

  -- what is known of each step leads to what is to be known of the moments
  since_by : (old new : Clock) → Since P S old new → Since Q T old new
  since_by old new a = record { added = a.added; grown = a.grown; each = chain_by old a.added a.each }

module _ (B A C : Files → Type 0) (bc : (files : Files) → B files → C files) (ac : (files : Files) → A files → C files) where
  phase_one : (n : ℕ) (m : Moment) → AtPhase B A n m → Only C m
  phase_one zero m o = only_of B C bc m o
  phase_one (suc zero) m o = record {
    each = record { each = λ files h. ⊎_elim (λ (b : B files). bc files b) (λ (a : A files). ac files a) (o.each.each files h) };
    some = record { files = o.before.files; leaves = o.before.leaves; has = bc o.before.files o.before.has };
  }
  phase_one (suc (suc n)) m o = only_of A C ac m o

  -- where both kinds are of a third one, the images stay of that one
  pub passes_one : (k l : Clock) → Passes B A k l → Since (Only C) (Remains C) k l
  passes_one k l s = since_by _ _ _ _ (λ m n g. phase_one g.to n g.at_to)
      (λ m n g. record { outside = g.outside; at_from = phase_one g.from m g.at_from; at_to = phase_one g.to n g.at_to }) k l s

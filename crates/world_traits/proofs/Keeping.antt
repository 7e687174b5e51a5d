-- What holds of each image with the server is kept by disk calls and by link calls.
use Rattle.std.proofs.Common.{◌≡◌, ◌⊎◌, inl, inr, List, [], ◌∷◌, refl, sym, ◌∙◌, subst}
use Rattle.imap_model.specs.Talking.{Peer}
use Rattle.world_traits.specs.Files.{Files}
use Rattle.world_traits.specs.Moments.{Moment, Clock, tick, grow, Chain, Since, Images, GoesOn, Keeps}
use Rattle.world_traits.proofs.Passing.{since_weaker}

-- what holds at the start and is handed on by each step holds of each added moment and now
module _ (P Q : Moment → Type 0) (S : Moment → Moment → Type 0) (hand_on : (m n : Moment) → P n → S m n → Q m → Q n) (c : Clock) (at_first : Q c.now) where
  chain_now : (ms : List Moment) → Chain P S c ms → Q (grow c ms).now
  chain_now [] each = at_first
  chain_now (m ∷ ms) each = hand_on (grow c ms).now m each.0 each.1 (chain_now ms each.2)

  chain_all : (ms : List Moment) → Chain P S c ms → Chain (λ m. P m × Q m) S c ms
  chain_all [] each = tt
  chain_all (m ∷ ms) each = ((each.0, chain_now (m ∷ ms) each), each.1, chain_all ms each.2)

  pub since_all : (new : Clock) → Since P S c new → Since (λ m. P m × Q m) S c new
  since_all new s = record { added = s.added; grown = s.grown; each = chain_all s.added s.each }

  pub since_now : (new : Clock) → Since P S c new → Q new.now
  since_now new s = subst (λ (k : Clock). Q k.now) (sym s.grown) (chain_now s.added s.each)

-- what holds of a clock and is handed on by each step holds of the clock now
module _ (P : Moment → Type 0) (S : Moment → Moment → Type 0) (Q : Clock → Type 0)
    (hand_on : (k : Clock) (n : Moment) → P n → S k.now n → Q k → Q (tick k n)) (c : Clock) (at_first : Q c) where
  chain_clock : (ms : List Moment) → Chain P S c ms → Q (grow c ms)
  chain_clock [] each = at_first
  chain_clock (m ∷ ms) each = hand_on (grow c ms) m each.0 each.1 (chain_clock ms each.2)

  pub since_clock : (new : Clock) → Since P S c new → Q new
  since_clock new s = subst Q (sym s.grown) (chain_clock s.added s.each)

-- Disk calls that take the files from B to A keep what holds of both with the outside of entry.
module _ (B A : Files → Type 0) (Good : Files → Peer → Type 0) (old : Clock)
    (before : (files : Files) → B files → Good files old.now.outside) (after : (files : Files) → A files → Good files old.now.outside) where
  abbrev Passes : Moment → Type 0
  Passes = Images (λ (files : Files). B files ⊎ A files)

  abbrev pub Outer : Moment → Type 0
  Outer m = m.outside ≡ old.now.outside

  good : (o : Peer) → o ≡ old.now.outside → (files : Files) → B files ⊎ A files → Good files o
  good o same files (inl b) = subst (Good files) (sym same) (before files b)
  good o same files (inr a) = subst (Good files) (sym same) (after files a)

  hand : (m n : Moment) → Passes n → GoesOn B A m n → Outer m → Outer n
  hand m n images step same = step.outside ∙ same

  kept : (m : Moment) → Passes m × Outer m → Keeps Good m
  kept m both = record { each = λ files h. good m.outside both.1 files (both.0.each files h) }

  pub disk_keeps : (new : Clock) → Since Passes (GoesOn B A) old new → Since (Keeps Good) (GoesOn B A) old new
  disk_keeps new s = since_weaker (λ m. Passes m × Outer m) (Keeps Good) (GoesOn B A) (GoesOn B A) kept (λ m n step. step) old new
      (since_all Passes Outer (GoesOn B A) hand old refl new s)

  pub disk_outside : (new : Clock) → Since Passes (GoesOn B A) old new → new.now.outside ≡ old.now.outside
  disk_outside new s = since_now Passes Outer (GoesOn B A) hand old refl new s

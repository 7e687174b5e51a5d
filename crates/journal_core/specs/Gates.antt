-- What stands behind a gate counts once the gate is open.
use Rattle.std.specs.Prelude.{◌≡◌, ◌≢◌, ◌⊎◌, ℕ, List, ◌∷◌, ◌++◌, length, Result, OnOk}
use Rattle.world_traits.specs.Files.{Files, file_of, other}
use Rattle.world_traits.specs.Moments.{Moment, Clock, Images, Only, Rests, GoesOn, Since}
use Rattle.world_traits.specs.declared.disk.Side.{Side}

-- a closed gate behind these bytes, and whatever stands behind the gate
pub record IsShut (front bytes : List ℕ) : Type 0 where
  pub gate : ℕ
  pub rest : List ℕ
  pub closed : gate ≢ 1
  pub is : bytes ≡ front ++ gate ∷ rest

-- an open gate behind these bytes, and these fresh ones behind the gate
pub record IsOpened (front fresh bytes : List ℕ) : Type 0 where
  pub rest : List ℕ
  pub is : bytes ≡ front ++ 1 ∷ (fresh ++ rest)

-- one side's file is so, and the other's has these bytes
pub record Beside (side : Side) (others : List ℕ) (P : List ℕ → Type 0) (files : Files) : Type 0 where
  pub here : P (file_of side files)
  pub there : file_of (other side) files ≡ others

-- from images of one kind to those of the other, by way of moments that have both
abbrev pub Passes : (Files → Type 0) → (Files → Type 0) → Clock → Clock → Type 0
Passes B A old new = Since (Images (λ files. B files ⊎ A files)) (GoesOn B A) old new

-- from one moment to the next the images stay of one kind, and the outside stays
pub record Remains (B : Files → Type 0) (m n : Moment) : Type 0 where
  pub outside : n.outside ≡ m.outside
  pub at_from : Only B m
  pub at_to : Only B n

-- Fresh bytes are put behind a closed gate, and then it is opened. The other side stays.
pub record OpensGate {T E : Type 0} (side : Side) (place : ℕ) (fresh : List ℕ) (old new : Clock) (seen seen_after : Files) (result : Result T E) : Type 0 where
  pub passing : (front : List ℕ) → Rests old.now seen → IsShut front (file_of side seen) → place ≡ length front →
      Passes (Beside side (file_of (other side) seen) (IsShut front)) (Beside side (file_of (other side) seen) (IsOpened front fresh)) old new
  pub rests : (front : List ℕ) → Rests old.now seen → IsShut front (file_of side seen) → place ≡ length front →
      OnOk result (Rests new.now seen_after)
  pub done : (front : List ℕ) → Rests old.now seen → IsShut front (file_of side seen) → place ≡ length front →
      OnOk result (Beside side (file_of (other side) seen) (IsOpened front fresh) seen_after)

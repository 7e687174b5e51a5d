-- What a stop can't take from a journal: what each image of a moment holds.
use Rattle.std.specs.Prelude.{◌≡◌, ℕ, List, slice_get, Some}
use Rattle.world_traits.specs.Files.{Files}
use Rattle.world_traits.specs.Moments.{Moment, Images}
use Rattle.journal_core.specs.declared.version.Version.{Version}
use Rattle.journal_core.specs.Holds.{Holds}

-- the files hold bodies, of which this one stands at this place, counted from 0
pub record HoldsAt (place : ℕ) (body : List ℕ) (files : Files) : Type 0 where
  pub version : Version
  pub bodies : List (List ℕ)
  pub holds : Holds version bodies files
  pub there : slice_get bodies place ≡ Some body

-- each image of the moment holds this body at this place
abbrev pub HasHeld : ℕ → List ℕ → Moment → Type 0
HasHeld place body m = Images (HoldsAt place body) m

-- what is held stays held, at its place
pub record StaysHeld (m n : Moment) : Type 0 where
  pub stays : (place : ℕ) (body : List ℕ) → HasHeld place body m → HasHeld place body n

-- A step of the disk: what is held stays held, and what isn't on the disk stays.
pub record DiskKeepsHeld (m n : Moment) : Type 0 where
  pub held : StaysHeld m n
  pub outside : n.outside ≡ m.outside

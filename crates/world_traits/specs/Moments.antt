-- Moments of a world, and the list of them, which only grows.
use Rattle.std.specs.Prelude.{◌≡◌, ◌⊎◌, ℕ, zero, suc, ◌+◌, ◌≤◌, List, [], ◌∷◌}
use Rattle.imap_model.specs.Talking.{Peer}
use Rattle.world_traits.specs.Files.{Stored, MayHold, Files, clean}
use Rattle.world_traits.specs.declared.disk.Side.{Side}
use Rattle.world_traits.specs.declared.disk.Side.TheVariants.{Left, Right}

-- what a stop would find: the two files, each between two syncs, and the server with its connection, which a stop leaves
pub record Moment : Type 0 where
  pub left : Stored
  pub right : Stored
  pub outside : Peer

-- the file on one side
abbrev pub stored : Side → Moment → Stored
stored Left m = m.left
stored Right m = m.right

-- the moment with another file on one side
abbrev pub with_stored : Side → Stored → Moment → Moment
with_stored Left file m = record m { left = file }
with_stored Right file m = record m { right = file }

-- a stop at this moment may leave these files
pub record MayLeave (m : Moment) (files : Files) : Type 0 where
  pub left : MayHold m.left files.left
  pub right : MayHold m.right files.right

-- the moment now, and those before it, the newest first
pub record Clock : Type 0 where
  pub now : Moment
  pub past : List Moment

-- one moment more
abbrev pub tick : Clock → Moment → Clock
tick c m = record { now = m; past = c.now ∷ c.past }

-- these moments more, of which the first is the newest
abbrev pub grow : Clock → List Moment → Clock
grow c [] = c
grow c (m ∷ ms) = tick (grow c ms) m

-- each of the added moments has P, and S leads to it from the moment before it
abbrev pub Chain : (Moment → Type 0) → (Moment → Moment → Type 0) → Clock → List Moment → Type 0
Chain P S c [] = Unit {0}
Chain P S c (m ∷ ms) = P m × S (grow c ms).now m × Chain P S c ms

-- new is old with moments added, each with P, and each led to by S
pub record Since (P : Moment → Type 0) (S : Moment → Moment → Type 0) (old new : Clock) : Type 0 where
  pub added : List Moment
  pub grown : new ≡ grow old added
  pub each : Chain P S old added

-- each image of the moment has Q
pub record Images (Q : Files → Type 0) (m : Moment) : Type 0 where
  pub each : (files : Files) → MayLeave m files → Q files

-- at most one side has ranges that were written since its last sync: this other side has none
pub record OneSideAtRest (m : Moment) : Type 0 where
  pub side : Side
  pub rests : (stored side m).written ≡ []

-- all that the files read as is on the disk
pub record Rests (m : Moment) (seen : Files) : Type 0 where
  pub left : m.left ≡ clean seen.left
  pub right : m.right ≡ clean seen.right

-- some image of the moment has Q
pub record Occurs (Q : Files → Type 0) (m : Moment) : Type 0 where
  pub files : Files
  pub leaves : MayLeave m files
  pub has : Q files

-- the images of the moment are of one kind
pub record Only (Q : Files → Type 0) (m : Moment) : Type 0 where
  pub each : Images Q m
  pub some : Occurs Q m

-- or of two kinds, and both occur
pub record Both (B A : Files → Type 0) (m : Moment) : Type 0 where
  pub each : Images (λ files. B files ⊎ A files) m
  pub before : Occurs B m
  pub after : Occurs A m

-- How far a change of the files has come, from those with B to those with A: not begun (0), begun (1), firm (2).
abbrev pub AtPhase : (B A : Files → Type 0) → ℕ → Moment → Type 0
AtPhase B A zero m = Only B m
AtPhase B A (suc zero) m = Both B A m
AtPhase B A (suc (suc n)) m = Only A m

-- from one moment to the next the change stays where it is or goes one phase on, and the outside stays
pub record GoesOn (B A : Files → Type 0) (m n : Moment) : Type 0 where
  pub outside : n.outside ≡ m.outside
  pub from : ℕ
  pub to : ℕ
  pub at_from : AtPhase B A from m
  pub at_to : AtPhase B A to n
  pub forward : from ≤ to
  pub one : to ≤ from + 1

-- each image of the moment is good with the moment's outside
pub record Keeps (Good : Files → Peer → Type 0) (m : Moment) : Type 0 where
  pub each : (files : Files) → MayLeave m files → Good files m.outside

-- each image of n is one of m, and the outside is the same
pub record Within (m n : Moment) : Type 0 where
  pub each : (files : Files) → MayLeave n files → MayLeave m files
  pub outside : n.outside ≡ m.outside

-- moments whose images are all images of the first, each of the next among those of the one before
abbrev pub Narrows : Clock → Clock → Type 0
Narrows old new = Since (Within old.now) Within old new

-- At some time between the two the moment had Q. (It stays so as time goes on: `saw_later`.)
pub record Saw (P : Moment → Type 0) (S : Moment → Moment → Type 0) (Q : Moment → Type 0) (old new : Clock) : Type 0 where
  pub at : Clock
  pub before : Since P S old at
  pub after : Since P S at new
  pub is : Q at.now

-- At some time between the two a moment became the next one by a step with R.
pub record Became (P : Moment → Type 0) (S R : Moment → Moment → Type 0) (old new : Clock) : Type 0 where
  pub at : Clock
  pub to : Moment
  pub before : Since P S old at
  pub has : P to
  pub step : S at.now to
  pub after : Since P S (tick at to) new
  pub is : R at.now to

-- the moment after a stop that left these files
abbrev pub restarted : Files → Moment → Moment
restarted files m = record m { left = clean files.left; right = clean files.right }

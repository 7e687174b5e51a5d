-- What an append does at every moment.
use Rattle.std.specs.Prelude.{◌≡◌, ℕ, ◌+◌, min, List, [], ◌∷◌, ◌++◌, ◌-◌, ◌^◌, Result, OnOk}
use Rattle.world_traits.specs.Files.{Files}
use Rattle.world_traits.specs.Moments.{Clock}
use Rattle.mail_base.specs.Bodies.{IsBody, frame_of}
use Rattle.journal_core.specs.Holds.{Holds}
use Rattle.journal_core.specs.Gates.{Passes}
use Rattle.journal_core.specs.Standing.{Standing, IsStill}

-- the place behind the closed gate behind the records, once so many bytes are added
abbrev pub end_with : ℕ → Standing → ℕ
end_with size journal = journal.place + 1 + size

-- the same in a u64
abbrev pub told_end : ℕ → ℕ
told_end end = min end (2 ^ 64 - 1)

-- the bytes are a frame: a body's length, the body, and a closed gate
pub record IsFrame (bytes : List ℕ) : Type 0 where
  pub body : List ℕ
  pub size : IsBody body
  pub is : bytes ≡ frame_of body

-- Whatever bodies were read: the moments go from images that hold these to images that hold these and the new one;
-- and after Ok the journal stands behind the new one.
pub record Appends {T E : Type 0} (journal after : Standing) (frame : List ℕ) (old new : Clock) (seen seen_after : Files) (result : Result T E) : Type 0 where
  pub passing : (bodies : List (List ℕ)) (body : List ℕ) → IsStill journal bodies old.now seen → IsBody body → frame ≡ frame_of body →
      Passes (Holds journal.version bodies) (Holds journal.version (bodies ++ body ∷ [])) old new
  pub done : (bodies : List (List ℕ)) (body : List ℕ) → IsStill journal bodies old.now seen → IsBody body → frame ≡ frame_of body →
      OnOk result (IsStill after (bodies ++ body ∷ []) new.now seen_after)

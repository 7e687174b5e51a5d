-- What reading a journal's events one by one answers.
use Rattle.std.specs.Prelude.{◌≡◌, ℕ, ◌+◌, List, [], ◌∷◌, ◌++◌, length, Option, Some}
use Rattle.world_traits.specs.Files.{Files}
use Rattle.world_traits.specs.Moments.{Moment}
use Rattle.journal_core.specs.declared.version.Version.{Version}
use Rattle.journal_core.specs.declared.fault.Place9.{Place9}
use Rattle.journal_core.specs.declared.fault.Place9.TheVariants as places
use Rattle.journal_core.specs.Appending.{told_end}
use Rattle.journal_core.specs.Records.{records}
use Rattle.journal_core.specs.Standing.{Standing, IsStill}
use Rattle.store_core.specs.Keeping.{Keeping}
use Rattle.store_core.specs.Books.{Make}
use Rattle.store_core.specs.Broken.{IsUndue}

-- the body spells an event that may come next in a journal of this version, and the book after it is this one
pub record Enters (K : Keeping) (version : Version) (book : Option K.Book) (body : List ℕ) (after : K.Book) : Type 0 where
  pub event : K.Event
  pub spelled : K.Spelled body event
  pub may : K.MayCome version book event
  pub is : after ≡ K.next_book book event

-- the same of bodies one behind the other
abbrev pub EntersAll : (K : Keeping) → Version → K.Book → List (List ℕ) → K.Book → Type 0
EntersAll K version book [] after = after ≡ book
EntersAll K version book (body ∷ bodies) after = (next : K.Book) × Enters K version (Some book) body next × EntersAll K version next bodies after

-- the journal stands behind bodies that make this book
pub record ReadsBook (K : Keeping) (book : K.Book) (journal : Standing) (m : Moment) (seen : Files) : Type 0 where
  pub bodies : List (List ℕ)
  pub make : Make K journal.version bodies (Some book)
  pub still : IsStill journal bodies m seen

-- One of the bodies is the first that may not come. Where the gate of the first body is at this place, the fault tells
-- the place of its gate.
pub record UndueAt (K : Keeping) (version : Version) (book : K.Book) (at : ℕ) (why : Place9) (bodies : List (List ℕ)) : Type 0 where
  pub before : List (List ℕ)
  pub so_far : K.Book
  pub enter : EntersAll K version book before so_far
  pub body : List ℕ
  pub bad : IsUndue K version (Some so_far) body
  pub later : List (List ℕ)
  pub is : bodies ≡ before ++ body ∷ later
  pub there : why ≡ places.Record (told_end (at + length (records before)))

-- A journal goes on in its version; and whether the disk failed in an append stays.
pub record SameJournal (old new : Standing) : Type 0 where
  pub sound : new.failed ≡ old.failed
  pub version : new.version ≡ old.version

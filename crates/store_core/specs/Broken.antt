-- Why files hold no book.
use Rattle.std.specs.Prelude.{◌≡◌, ℕ, List, Option, None}
use Rattle.world_traits.specs.Files.{Files}
use Rattle.journal_core.specs.declared.version.Version.{Version}
use Rattle.journal_core.specs.declared.fault.Place9.{Place9}
use Rattle.journal_core.specs.declared.fault.Place9.TheVariants as places
use Rattle.journal_core.specs.Reading.{IsNoJournal}
use Rattle.journal_core.specs.Broken.{BrokenBehind}
use Rattle.store_core.specs.Keeping.{Keeping}
use Rattle.store_core.specs.Books.{Make}

-- the body spells no event that may come next
abbrev pub IsUndue : (K : Keeping) → Version → Option K.Book → List ℕ → Type 0
IsUndue K version book body = (event : K.Event) → K.Spelled body event → K.MayCome version book event → ⊥

-- Up to this place the journal's bodies make a book, or there are none; and there no body stands that may come next, or
-- none at all, and no book has begun.
pub record BrokenAt (K : Keeping) (place : ℕ) (files : Files) : Type 0 where
  pub version : Version
  pub before : List (List ℕ)
  pub book : Option K.Book
  pub make : Make K version before book
  pub broken : BrokenBehind version (IsUndue K version book) (book ≡ None) before place files

-- why the files hold no book
abbrev pub IsBroken : Keeping → Place9 → Files → Type 0
IsBroken K (places.Record at) files = BrokenAt K at files
IsBroken K places.Absent files = IsNoJournal places.Absent files
IsBroken K places.Header files = IsNoJournal places.Header files
IsBroken K places.Generations files = IsNoJournal places.Generations files

-- Which book two files hold: the fold of the events that their bodies spell.
use Rattle.std.specs.Prelude.{◌≡◌, ℕ, List, [], ◌∷◌, Option, Some, None, ⊤}
use Rattle.world_traits.specs.Files.{Files}
use Rattle.journal_core.specs.declared.version.Version.{Version}
use Rattle.journal_core.specs.Holds.{Holds}
use Rattle.journal_core.specs.Creating.{IsUnbegun}
use Rattle.store_core.specs.Keeping.{Keeping}

-- each body spells the event in its place
abbrev pub AreSpelled : (K : Keeping) → List (List ℕ) → List K.Event → Type 0
AreSpelled K [] [] = ⊤
AreSpelled K [] (event ∷ events) = ⊥
AreSpelled K (body ∷ bodies) [] = ⊥
AreSpelled K (body ∷ bodies) (event ∷ events) = K.Spelled body event × AreSpelled K bodies events

-- these events may come one behind the other in a journal of this version, and make this of a book
abbrev pub Folds : (K : Keeping) → Version → Option K.Book → List K.Event → Option K.Book → Type 0
Folds K version b [] c = c ≡ b
Folds K version b (event ∷ events) c = K.MayCome version b event × Folds K version (Some (K.next_book b event)) events c

-- these bodies spell events that may come one behind the other from the first on, and make this; without a body there is
-- no book
pub record Make (K : Keeping) (version : Version) (bodies : List (List ℕ)) (book : Option K.Book) : Type 0 where
  pub events : List K.Event
  pub spelled : AreSpelled K bodies events
  pub folds : Folds K version None events book

-- the files hold bodies that make this book in the journal's version
pub record HasBook (K : Keeping) (book : K.Book) (files : Files) : Type 0 where
  pub version : Version
  pub bodies : List (List ℕ)
  pub holds : Holds version bodies files
  pub make : Make K version bodies (Some book)

-- the files hold this book; no book stands for files of which no side was begun
abbrev pub HoldsBook : (K : Keeping) → Option K.Book → Files → Type 0
HoldsBook K None files = IsUnbegun files
HoldsBook K (Some book) files = HasBook K book files

-- What a program says of its book, for all that is said of a book on a journal.
use Rattle.std.specs.Prelude.{ℕ, List, Option}
use Rattle.journal_core.specs.declared.version.Version.{Version}

-- the types of its events and of its book, which body spells an event, which event may come next in a journal of a
-- version, and the book after it; no book stands for a journal without events
pub record Keeping : Type 1 where
  pub Event : Type 0
  pub Book : Type 0
  pub Spelled : List ℕ → Event → Type 0
  pub MayCome : Version → Option Book → Event → Type 0
  pub next_book : Option Book → Event → Book

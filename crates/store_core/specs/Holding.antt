-- What a store is seen as.
use Rattle.std.specs.Prelude.{◌≡◌, ℕ, true, List, Some}
use Rattle.world_traits.specs.Files.{Files}
use Rattle.world_traits.specs.Moments.{Moment}
use Rattle.journal_core.specs.Standing.{Standing, IsStill}
use Rattle.store_core.specs.Keeping.{Keeping}
use Rattle.store_core.specs.Books.{Make}

-- its journal, behind whose last record it stands, and its book
pub record Holding (K : Keeping) : Type 0 where
  pub journal : Standing
  pub book : K.Book

-- The disk stands as the store's last call left it: so does its journal; all was read, and the bodies there make its book.
pub record IsAsLeft (K : Keeping) (store : Holding K) (m : Moment) (seen : Files) : Type 0 where
  pub bodies : List (List ℕ)
  pub make : Make K store.journal.version bodies (Some store.book)
  pub still : IsStill store.journal bodies m seen
  pub all_read : store.journal.all_read ≡ true

-- What is counted of a journal in memory, and what files still hold that a book was told anew on.
use Rattle.std.specs.Prelude.{◌≡◌, ℕ, List, []}
use Rattle.world_traits.specs.Files.{Files}
use Rattle.action_queue.specs.Book.{Meaning}
use Rattle.action_queue.specs.Queues.{due}
use Rattle.store_core.specs.Mail.{mail}
use Rattle.store_core.specs.Books.{HasBook}

-- the files of which the left one has these bytes, and the right one none
abbrev pub left_alone : List ℕ → Files
left_alone bytes = record { left = bytes; right = [] }

-- so many actions of the book in the left file are settled
pub record HasSettled (bytes : List ℕ) (count : ℕ) : Type 0 where
  pub book : Meaning
  pub holds : HasBook mail book (left_alone bytes)
  pub settled : count ≡ due book.queue

-- files that hold one book, before and after
pub record HoldTheSame (before after : Files) : Type 0 where
  pub book : Meaning
  pub first : HasBook mail book before
  pub last : HasBook mail book after

-- Files on which a store stands hold its book.
use Rattle.std.proofs.Common.{◌≡◌, subst}
use Rattle.world_traits.specs.Files.{Files}
use Rattle.world_traits.specs.Moments.{Moment}
use Rattle.journal_core.proofs.HeldBodies.{still_holds}
use Rattle.action_queue.specs.Book.{Meaning}
use Rattle.store_core.specs.Mail.{mail}
use Rattle.store_core.specs.Books.{HasBook}
use Rattle.store_core.specs.Holding.{Holding, IsAsLeft}
use Rattle.mail_bench.specs.Settled.{HoldTheSame}

left_holds : (store : Holding mail) (m : Moment) (seen : Files) → IsAsLeft mail store m seen → HasBook mail store.book seen
left_holds store m seen left = record {
  version = store.journal.version;
  bodies = left.bodies;
  holds = still_holds store.journal left.bodies m seen left.still left.all_read;
  make = left.make;
}

pub hold_the_same : (before : Files) (book : Meaning) (store : Holding mail) (m : Moment) (seen : Files) → HasBook mail book before → store.book ≡ book →
    IsAsLeft mail store m seen → HoldTheSame before seen
hold_the_same before book store m seen first same left = record {
  book = book;
  first = first;
  last = subst (λ (b : Meaning). HasBook mail b seen) same (left_holds store m seen left);
}

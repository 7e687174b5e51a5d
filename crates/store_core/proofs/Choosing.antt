-- Which of the books that a stop could have left an opening finds.
use Rattle.std.proofs.Common.{◌≡◌, inl, inr, ⊎_elim, Option, Some, None, ap}
use Rattle.world_traits.specs.Files.{Files, file_of}
use Rattle.journal_core.proofs.Choice.{open_head}
use Rattle.world_traits.specs.Moments.{Moment, MayLeave, Only}
use Rattle.world_traits.proofs.Choosing.{rests_only}
use Rattle.journal_core.proofs.HeldBodies.{still_holds}
use Rattle.store_core.specs.Steps.{Books, Firm, Begun}
use Rattle.store_core.specs.Keeping.{Keeping}
use Rattle.store_core.specs.Books.{HasBook, HoldsBook}
use Rattle.store_core.specs.Holding.{Holding, IsAsLeft}
use Rattle.store_core.specs.Taking.{HasBooks, IsOneOf}
use Rattle.store_core.proofs.Folding.{OneEvent, one_held}

pub same_book : (K : Keeping) → OneEvent K → (b : Option K.Book) (files : Files) (book : K.Book) → HoldsBook K b files → HasBook K book files → Some book ≡ b
same_book K one None files book free h = absurd (free h.holds.side (open_head h.version h.holds.generation (file_of h.holds.side files) h.holds.present.set_up))
same_book K one (Some b) files book held h = ap Some (one_held K one files book b h held)

-- what the files read as is an image, so its book is one of them
pub one_of : (K : Keeping) → OneEvent K → (books : Books K) (m : Moment) (seen : Files) (book : K.Book) → MayLeave m seen → HasBooks K books m →
    HasBook K book seen → IsOneOf K (Some book) books
one_of K one (Firm b) m seen book leaves have h = same_book K one b seen book (have.each.each seen leaves) h
one_of K one (Begun b c) m seen book leaves have h =
    ⊎_elim (λ (old : HoldsBook K b seen). inl (same_book K one b seen book old h))
    (λ (new : HoldsBook K c seen). inr (same_book K one c seen book new h)) (have.each.each seen leaves)

-- where the disk stands as a store left it each stop leaves its book
pub only_left : (K : Keeping) (store : Holding K) (m : Moment) (seen : Files) → IsAsLeft K store m seen → Only (HasBook K store.book) m
only_left K store m seen left =
    rests_only (HasBook K store.book) m seen left.still.rests
    (record {
      version = store.journal.version;
      bodies = left.bodies;
      holds =
          still_holds store.journal left.bodies m seen left.still left.all_read;
      make = left.make;
    })

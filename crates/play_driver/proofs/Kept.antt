-- A moment is kept where each of its books is in the relation, and only there.
use Rattle.std.proofs.Common.{◌≡◌, ⊎_elim, Option, Some, None, refl, sym, subst}
use Rattle.world_traits.specs.Files.{Files}
use Rattle.world_traits.specs.Moments.{Moment, Occurs}
use Rattle.store_core.specs.Keeping.{Keeping}
use Rattle.store_core.specs.Books.{HoldsBook}
use Rattle.store_core.proofs.Choosing.{same_book}
use Rattle.store_core.proofs.Folding.{OneEvent}
use Rattle.store_core.specs.Steps.{Books, Firm, Begun, EachBook}
use Rattle.store_core.specs.Taking.{HasBooks}
use Rattle.play_driver.specs.Machine.{Relation}
use Rattle.play_driver.specs.Joining.{IsKept}

-- the same files hold one book, or none
pub same_held : (K : Keeping) → OneEvent K → (b c : Option K.Book) (files : Files) → HoldsBook K b files → HoldsBook K c files → b ≡ c
same_held K one None None files p q = refl
same_held K one None (Some c) files p q = sym (same_book K one None files c p q)
same_held K one (Some b) None files p q = same_book K one None files b q p
same_held K one (Some b) (Some c) files p q = sym (same_book K one (Some b) files c p q)

module _ (K : Keeping) (R : Relation K) where
  -- a moment whose books are in the relation is kept
  pub books_kept : (x : Books K) (m : Moment) → HasBooks K x m → EachBook K (λ (b : Option K.Book). R b m.outside.server m.outside.waiting) x → IsKept K R m
  books_kept (Firm b) m h good = record { each = λ files l. record { book = b; holds = h.each.each files l; related = good } }
  books_kept (Begun b c) m h good = record {
    each = λ files l. ⊎_elim (λ (p : HoldsBook K b files). record { book = b; holds = p; related = good.0 })
        (λ (q : HoldsBook K c files). record { book = c; holds = q; related = good.1 }) (h.each.each files l);
  }

  module _ (one : OneEvent K) where
    good_in : (b : Option K.Book) (m : Moment) → IsKept K R m → Occurs (HoldsBook K b) m → R b m.outside.server m.outside.waiting
    good_in b m k o =
        let g = k.each o.files o.leaves in
        subst (λ (c : Option K.Book). R c m.outside.server m.outside.waiting) (same_held K one g.book b o.files g.holds o.has) g.related

    -- and the books of a kept moment are
    pub kept_books : (x : Books K) (m : Moment) → IsKept K R m → HasBooks K x m → EachBook K (λ (b : Option K.Book). R b m.outside.server m.outside.waiting) x
    kept_books (Firm b) m k h = good_in b m k h.some
    kept_books (Begun b c) m k h = (good_in b m k h.before, good_in c m k h.after)

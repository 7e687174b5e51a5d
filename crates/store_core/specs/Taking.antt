-- How the books that a stop may leave go on while an event is recorded.
use Rattle.std.specs.Prelude.{◌≡◌, ◌⊎◌, Bool, Option, Some, None}
use Rattle.world_traits.specs.Moments.{Moment, Clock, Images, Only, Both, GoesOn, Since, Within}
use Rattle.world_traits.specs.Links.{Any}
use Rattle.journal_core.specs.declared.version.Version.{Version}
use Rattle.journal_core.specs.Gates.{Passes}
use Rattle.store_core.specs.Keeping.{Keeping}
use Rattle.store_core.specs.Steps.{Books, Firm, Begun, Begins, MakesFirm, Chooses}
use Rattle.store_core.specs.Books.{HoldsBook}

-- these are the books of what a stop may leave now: each image holds one of them, and each occurs
abbrev pub HasBooks : (K : Keeping) → Books K → Moment → Type 0
HasBooks K (Firm b) m = Only (HoldsBook K b) m
HasBooks K (Begun b c) m = Both (HoldsBook K b) (HoldsBook K c) m

-- this is one of the books
abbrev pub IsOneOf : (K : Keeping) → Option K.Book → Books K → Type 0
IsOneOf K book (Firm b) = book ≡ b
IsOneOf K book (Begun b c) = (book ≡ b) ⊎ (book ≡ c)

-- From one moment to the next the books stay, or this event, which may come in a journal of this version, is begun, or made
-- firm. What isn't on the disk stays.
pub record TakesStep (K : Keeping) (version : Version) (event : K.Event) (m n : Moment) : Type 0 where
  pub old : Books K
  pub new : Books K
  pub at_old : HasBooks K old m
  pub at_new : HasBooks K new n
  pub step : (new ≡ old) ⊎ Begins K version event old new ⊎ MakesFirm K old new
  pub outside : n.outside ≡ m.outside

-- the images of a moment hold this book, or the one after the event
abbrev pub IsTaking : (K : Keeping) → Option K.Book → K.Event → Moment → Type 0
IsTaking K b event m = Images (λ files. HoldsBook K b files ⊎ HoldsBook K (Some (K.next_book b event)) files) m

-- The moments of a call that takes a book to the one after an event: not begun, begun, firm.
abbrev pub Takes : (K : Keeping) → Option K.Book → K.Event → Clock → Clock → Type 0
Takes K b event old new = Passes (HoldsBook K b) (HoldsBook K (Some (K.next_book b event))) old new

-- while a book is begun by an event a stop leaves what one at entry could have left, or no book, or that of the event
abbrev pub IsCreating : (K : Keeping) → K.Event → Moment → Moment → Type 0
IsCreating K event entry m = Within entry m ⊎ IsTaking K None event m

-- First syncs leave some of the images that were there. Then the images go from those with no side begun to those that
-- hold the event's book.
abbrev pub Creates : (K : Keeping) → K.Event → Clock → Clock → Type 0
Creates K event old new =
    Since (IsCreating K event old.now) (λ m n. Within m n ⊎ GoesOn (HoldsBook K None) (HoldsBook K (Some (K.next_book None event))) m n) old new

-- From one moment to the next the books stay, or one of two is chosen. What isn't on the disk stays.
pub record ChoosesStep (K : Keeping) (m n : Moment) : Type 0 where
  pub old : Books K
  pub new : Books K
  pub at_old : HasBooks K old m
  pub at_new : HasBooks K new n
  pub step : (new ≡ old) ⊎ ((first : Bool) × Chooses K first old new)
  pub outside : n.outside ≡ m.outside

-- a step of the first syncs, or of the event that begins a book in a journal of this version
abbrev pub BeginsStep : (K : Keeping) → Version → K.Event → Moment → Moment → Type 0
BeginsStep K version event m n = ChoosesStep K m n ⊎ TakesStep K version event m n

-- Up to a clock between the two the books stay, or one is chosen. Behind it the moments go from no book to that of the event.
pub record BeginsBehind (K : Keeping) (event : K.Event) (old new : Clock) : Type 0 where
  pub at : Clock
  pub chooses : Since Any (ChoosesStep K) old at
  pub takes : Takes K None event at new

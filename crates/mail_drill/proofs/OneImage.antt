-- The book that an image of the moment now holds, and what is counted of it.
use Rattle.std.proofs.Common.{◌≡◌, ℕ, List, Option, Some, Result, Ok, Err, IfOk, OnOk, refl, sym, ◌∙◌, ap, subst}
use Rattle.std.specs.Prelude.{IsErrOf}
use Rattle.imap_model.specs.declared.deed.Deed.{Deed}
use Rattle.action_queue.specs.Book.{Meaning}
use Rattle.action_queue.specs.declared.queued.Queued.{Queued}
use Rattle.journal_core.specs.declared.fault.Place9.{Place9}
use Rattle.store_core.proofs.Folding.{one_held}
use Rattle.store_core.proofs.MailBook.{one_mail_event}
use Rattle.store_core.specs.Books.{HasBook}
use Rattle.store_core.specs.Mail.{mail}
use Rattle.store_core.specs.Steps.{Firm}
use Rattle.store_core.specs.Taking.{HasBooks}
use Rattle.store_core.specs.declared.fault.StoreFault.{StoreFault}
use Rattle.store_core.specs.declared.fault.StoreFault.TheVariants as faults
use Rattle.world_traits.specs.Files.{Files}
use Rattle.world_traits.specs.Moments.{MayLeave, Moment}
use Rattle.world_traits.specs.Replay.{State, start}
use Rattle.mail_drill.specs.Counted.{missing_in, settled_in, twice_in}
use Rattle.mail_drill.specs.declared.tally.Counts.{Counts as Tally}

-- where each image holds a book, it is what any image holds
pub one_image : (b found : Meaning) (m : Moment) (files : Files) → HasBooks mail (Firm (Some b)) m → MayLeave m files → HasBook mail found files → found ≡ b
one_image b found m files has leaves holds = sym (one_held mail one_mail_event files b found (has.each.each files leaves) holds)

abbrev both_files : List ℕ → List ℕ → Files
both_files left right = record { left = left; right = right }

-- what was found on a disk that has the bytes of an image
module _ (b found : Meaning) (m : Moment) (files : Files) (has : HasBooks mail (Firm (Some b)) m) (leaves : MayLeave m files) (left right : List ℕ)
    (left_is : left ≡ files.left) (right_is : right ≡ files.right) (state : State) (begins : state ≡ start left right)
    (holds : HasBook mail found state.files) where
  pub same_files : state.files ≡ files
  same_files =
      ap (λ (s : State). s.files) begins ∙ ap (λ (l : List ℕ). both_files l right) left_is ∙ ap (both_files files.left) right_is

  pub found_is : found ≡ b
  found_is = one_image b found m files has leaves (subst (λ (x : Files). HasBook mail found x) same_files holds)

  -- is counted as it is of the book that each stop leaves
  pub counted : (k : Tally) (queue : List Queued) (told history : List Deed) → queue ≡ found.queue → told ≡ history → k.settled ≡ settled_in queue →
      k.twice ≡ twice_in queue told → k.missing ≡ missing_in queue told →
      (k.settled ≡ settled_in b.queue) × (k.twice ≡ twice_in b.queue history) × (k.missing ≡ missing_in b.queue history)
  counted k queue told history is told_is settled twice missing =
      let same : queue ≡ b.queue = is ∙ ap (λ (x : Meaning). x.queue) found_is in (
        settled ∙ ap settled_in same,
        twice ∙ ap (λ (qs : List Queued). twice_in qs told) same ∙ ap (twice_in b.queue) told_is,
        missing ∙ ap (λ (qs : List Queued). missing_in qs told) same ∙ ap (missing_in b.queue) told_is,
      )

-- Where each image holds a book, a store is opened over a disk that has the bytes of one, or memory is wanting.
module _ (b : Meaning) (m : Moment) (files : Files) (has : HasBooks mail (Firm (Some b)) m) (leaves : MayLeave m files) (left right : List ℕ)
    (left_is : left ≡ files.left) (right_is : right ≡ files.right) (state : State) (begins : state ≡ start left right) where
  there : HasBook mail b state.files
  there = subst (λ (f : Files). HasBook mail b f)
      (sym (ap (λ (s : State). s.files) begins ∙ ap (λ (l : List ℕ). both_files l right) left_is ∙ ap (both_files files.left) right_is))
      (has.each.each files leaves)

  module _ {T : Type 0} (r : Result T StoreFault)
      (whole : (book : Meaning) → HasBook mail book state.files → (why : Place9) → IsErrOf r (faults.NotAJournal why) → ⊥)
      (only : (IsErrOf r faults.Already → ⊥) × ((end wanted : ℕ) → IsErrOf r (faults.Full end wanted) → ⊥)) where
    wanting : (fault : StoreFault) → r ≡ Err fault → (fault ≡ faults.Memory → ⊥) → (fault ≡ faults.Disk → ⊥) → ⊥
    wanting faults.Memory is no_want no_room = no_want refl
    wanting faults.Disk is no_want no_room = no_room refl
    wanting faults.Already is no_want no_room = only.0 is
    wanting (faults.Full end wanted) is no_want no_room = only.1 end wanted is
    wanting (faults.NotAJournal why) is no_want no_room = whole b there why is

    pub opened : {E : Type 0} (Q : Option Tally → Type 0) (fault : StoreFault) → r ≡ Err fault → (told : Result (Option Tally) E) →
        OnOk told ((fault ≡ faults.Memory → ⊥) × (fault ≡ faults.Disk → ⊥)) → IfOk told Q
    opened Q fault is (Ok found) others = absurd (wanting fault is others.0 others.1)
    opened Q fault is (Err want) others = tt

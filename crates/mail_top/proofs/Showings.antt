-- What becomes of a book that is to be shown.
use Rattle.std.proofs.Common.{◌≡◌, ℕ, List, Option, None, Result, Ok, Err, refl, sym, ◌∙◌, ap, subst}
use Rattle.std.specs.Result.{IsErrAnd}
use Rattle.mail_base.specs.declared.status.Status.TheVariants as status
use Rattle.world_traits.specs.Moments.{Within}
use Rattle.journal_core.specs.declared.fault.Place9.{Place9}
use Rattle.action_queue.specs.Book.{Meaning}
use Rattle.store_core.specs.Mail.{mail}
use Rattle.store_core.specs.Broken.{IsBroken}
use Rattle.store_core.specs.declared.fault.StoreFault.{StoreFault}
use Rattle.store_core.specs.declared.fault.StoreFault.TheVariants as stores
use Rattle.mail_top.specs.Course.{Course, Keeps, Stays}
use Rattle.mail_top.specs.Ending.{EndsRows, EndsShown}
use Rattle.mail_top.specs.Faults.{of_store}
use Rattle.mail_top.specs.Showing.{EndsShowing, IsOfReading, Shows, ShowsRows}
use Rattle.mail_top.specs.Telling.{status_of, text_of}
use Rattle.mail_top.specs.Texts.{refused}
use Rattle.mail_top.specs.declared.reason.Reason.TheVariants as reasons
use Rattle.mail_top.specs.declared.refusal.Refusal.{Refusal}
use Rattle.mail_top.specs.declared.refusal.Refusal.TheVariants as refusals
use Rattle.mail_top.proofs.Openings.{raised}

-- The journal isn't opened.
module _ {S T : Type 0} (o : Result S StoreFault) (r : Result T Refusal) (x : StoreFault) (was : o ≡ Err x)
    (given : IsErrAnd r (λ refusal. refusal ≡ of_store x))
    (only : (o ≡ Err stores.Already → ⊥) × ((end wanted : ℕ) → o ≡ Err (stores.Full end wanted) → ⊥)) where
  at : (y : StoreFault) → x ≡ y → o ≡ Err y
  at y is = was ∙ ap (λ (f : StoreFault). Err f) is

  back : (y : StoreFault) → o ≡ Err y → x ≡ y
  back y is = cc (was, is)

  of_reading : (y : StoreFault) → x ≡ y → IsOfReading (of_store y)
  of_reading stores.Memory is = tt
  of_reading stores.Disk is = tt
  of_reading stores.Already is = only.0 (at stores.Already is)
  of_reading (stores.Full end wanted) is = only.1 end wanted (at (stores.Full end wanted) is)
  of_reading (stores.NotAJournal why) is = tt

  pub reading_refusal : (refusal : Refusal) → r ≡ Err refusal → IsOfReading refusal
  reading_refusal refusal is = subst IsOfReading (cc (raised r (of_store x) given, is)) (of_reading x refl)

  module _ (k : Course) (within : Within k.old.now k.new.now) (reads : (o ≡ Err stores.Disk → ⊥) → k.seen_after ≡ k.seen)
      (broken : (why : Place9) → o ≡ Err (stores.NotAJournal why) → IsBroken mail why k.seen) (Fits : Meaning → T → Type 0) where
    keeps : (x ≡ stores.Disk → ⊥) → Keeps k
    keeps other = record { leaves = within; reads = reads (λ is. other (back stores.Disk is)) }

    by_fault : (y : StoreFault) → x ≡ y → EndsShowing Fits k (Err (of_store y))
    by_fault stores.Memory is = record { keeps = keeps (λ e. cc (is, e)); text_is = refl }
    by_fault stores.Disk is = record { leaves = within; text_is = refl }
    by_fault stores.Already is = only.0 (at stores.Already is)
    by_fault (stores.Full end wanted) is = only.1 end wanted (at (stores.Full end wanted) is)
    by_fault (stores.NotAJournal why) is =
        record { keeps = keeps (λ e. cc (is, e)); why = why; broken = broken why (at (stores.NotAJournal why) is); text_is = refl }

    pub unopened_showing : EndsShowing Fits k r
    unopened_showing = subst (EndsShowing Fits k) (sym (raised r (of_store x) given)) (by_fault x refl)

-- memory is wanting for what shows it
pub memory_showing : {T : Type 0} (r : Result T Refusal) (k : Course) (Fits : Meaning → T → Type 0) → Within k.old.now k.new.now → k.seen_after ≡ k.seen →
    IsErrAnd r (λ refusal. refusal ≡ refusals.Memory) → EndsShowing Fits k r
memory_showing r k Fits within same given =
    subst (EndsShowing Fits k) (sym (raised r refusals.Memory given)) (record { keeps = record { leaves = within; reads = same }; text_is = refl })

-- this shows it
pub shown_showing : {T : Type 0} (Fits : Meaning → T → Type 0) (k : Course) (b : Meaning) → Stays k b → (c : Meaning) (shown : T) → c ≡ b → Fits c shown →
    Shows Fits k shown
shown_showing Fits k b stays c shown same fits = record { book = b; stays = stays; fits = subst (λ (d : Meaning). Fits d shown) same fits }

-- so a text is shown
pub showing_ends : (text_of_book : Meaning → List ℕ) (k : Course) (r : Result (List ℕ) Refusal) → EndsShowing (λ b text. text ≡ text_of_book b) k r →
    EndsShown text_of_book k (status_of r) (text_of (λ text. text) r)
showing_ends shown k (Ok text) s = record { book = s.book; stays = s.stays; text_is = s.fits }
showing_ends shown k (Err (refusals.NotAJournal why)) s = s
showing_ends shown k (Err refusals.Memory) s = s
showing_ends shown k (Err refusals.Disk) s = s
showing_ends shown k (Err refusals.Input) s = absurd s
showing_ends shown k (Err refusals.Already) s = absurd s
showing_ends shown k (Err (refusals.Reason reason)) s = absurd s
showing_ends shown k (Err refusals.Actions) s = absurd s
showing_ends shown k (Err (refusals.Full end)) s = absurd s
showing_ends shown k (Err refusals.Generation) s = absurd s

-- a mailbox that isn't one of the book's
pub unlisted_ends : (name : List ℕ) (k : Course) (shown : Option (List ℕ)) → shown ≡ None → Shows (ShowsRows name) k shown →
    EndsRows name k status.Reason (refused reasons.NoMailbox)
unlisted_ends name k shown none s =
    let none_shown = subst (λ (t : Option (List ℕ)). Shows (ShowsRows name) k t) none s in
    record { book = none_shown.book; stays = none_shown.stays; unknown = none_shown.fits; text_is = refl }

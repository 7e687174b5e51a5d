-- What becomes of a journal that is to be set up, at each of its ends.
use Rattle.std.proofs.Common.{◌≡◌, inl, inr, ℕ, List, Some, Result, Err, refl, sym, ◌∙◌, ap, subst}
use Rattle.std.specs.Result.{IsErrAnd}
use Rattle.mail_base.specs.Lines.{ready}
use Rattle.world_traits.specs.Files.{Files}
use Rattle.world_traits.specs.LinkState.{LinkState}
use Rattle.world_traits.specs.Links.{Any}
use Rattle.world_traits.specs.Moments.{Clock, Moment, Since}
use Rattle.world_traits.proofs.Narrowing.{within_self}
use Rattle.journal_core.specs.declared.fault.Place9.{Place9}
use Rattle.journal_core.specs.declared.fault.Place9.TheVariants as places
use Rattle.journal_core.specs.Creating.{IsTaken, IsUnbegun}
use Rattle.journal_core.specs.Reading.{AnyWrong}
use Rattle.action_queue.specs.Book.{Meaning, begun}
use Rattle.action_queue.specs.Events.{AreNames}
use Rattle.action_queue.specs.declared.event.Event.TheVariants as events
use Rattle.store_core.specs.Mail.{mail}
use Rattle.store_core.specs.Holding.{Holding, IsAsLeft}
use Rattle.store_core.specs.Steps.{Firm}
use Rattle.store_core.specs.HeldActions.{KeepsActions}
use Rattle.store_core.specs.Taking.{HasBooks, IsCreating, BeginsBehind}
use Rattle.store_core.specs.declared.fault.StoreFault.{StoreFault}
use Rattle.store_core.specs.declared.fault.StoreFault.TheVariants as stores
use Rattle.store_core.proofs.Choosing.{only_left}
use Rattle.mail_top.specs.Ending.{EndsInit}
use Rattle.mail_top.specs.Saying.{SaysReady}
use Rattle.mail_top.specs.Telling.{line_of, status_of, text_of, status_of_refusal, text_of_refusal}
use Rattle.mail_top.specs.Course.{Course, Keeps}
use Rattle.mail_top.specs.Faults.{of_store}
use Rattle.mail_top.specs.Leaving.{MayBeLeft, KeepsStep, RequestStep}
use Rattle.mail_top.specs.Words.{Init}
use Rattle.mail_top.specs.declared.refusal.Refusal.{Refusal}
use Rattle.mail_top.specs.declared.refusal.Refusal.TheVariants as refusals
use Rattle.mail_top.proofs.Moving.{begins_steps, keeps_steps}
use Rattle.mail_top.proofs.Openings.{raised}

module _ (names : List (List ℕ)) (k : Course) where
  -- it isn't set up
  pub uncreated : (x : StoreFault) → IsCreating mail (events.Begin names) k.old.now k.new.now → ((x ≡ stores.Disk → ⊥) → Keeps k) →
      (x ≡ stores.Already → IsTaken k.seen) → ((end wanted : ℕ) → x ≡ stores.Full end wanted → ⊥) →
      ((why : Place9) → x ≡ stores.NotAJournal why → (why ≡ places.Header) × AnyWrong k.seen) →
      EndsInit names k (status_of_refusal (of_store x)) (text_of_refusal (of_store x))
  uncreated stores.Memory leaves keeps taken not_full header = record { keeps = keeps (λ e. cc e); text_is = refl }
  uncreated stores.Disk leaves keeps taken not_full header = record { leaves = leaves; text_is = refl }
  uncreated stores.Already leaves keeps taken not_full header = record { keeps = keeps (λ e. cc e); taken = inr (taken refl, refl) }
  uncreated (stores.Full end wanted) leaves keeps taken not_full header = absurd (not_full end wanted refl)
  uncreated (stores.NotAJournal why) leaves keeps taken not_full header =
      let wrong = header why refl in record { keeps = keeps (λ e. cc e); taken = inl (wrong.1, ap line_of wrong.0) }

  -- it is
  pub created : (store : Holding mail) → store.book ≡ begun names → IsAsLeft mail store k.new.now k.seen_after → IsUnbegun k.seen → SaysReady names k ready
  created store book left unbegun = record {
    unbegun = unbegun;
    leaves = subst (λ (b : Meaning). HasBooks mail (Firm (Some b)) k.new.now) book (only_left mail store k.new.now k.seen_after left);
    text_is = refl;
  }

-- At a result that handed a store's fault on.
pub uncreated_init : {S T : Type 0} (names : List (List ℕ)) (k : Course) (o : Result S StoreFault) (r : Result T Refusal) (x : StoreFault) → o ≡ Err x →
    IsErrAnd r (λ refusal. refusal ≡ of_store x) → (told : T → List ℕ) → IsCreating mail (events.Begin names) k.old.now k.new.now → ((o ≡ Err stores.Disk → ⊥) →
    Keeps k) →
    (o ≡ Err stores.Already → IsTaken k.seen) → ((end wanted : ℕ) → o ≡ Err (stores.Full end wanted) → ⊥) →
    ((why : Place9) → o ≡ Err (stores.NotAJournal why) → (why ≡ places.Header) × AnyWrong k.seen) → EndsInit names k (status_of r) (text_of told r)
uncreated_init {S} {T} names k o r x was given told leaves keeps taken not_full header =
    subst (λ (q : Result T Refusal). EndsInit names k (status_of q) (text_of told q)) (sym (raised r (of_store x) given))
    (uncreated names k x leaves (λ other. keeps (λ is. other (cc (was, is)))) (λ is. taken (at stores.Already is))
    (λ end wanted is. not_full end wanted (at (stores.Full end wanted) is)) (λ why is. header why (at (stores.NotAJournal why) is)))
  where
    at : (y : StoreFault) → x ≡ y → o ≡ Err y
    at y is = was ∙ ap (λ (f : StoreFault). Err f) is

-- At a result of which nothing was done for want of memory.
pub out_of_memory : {T : Type 0} (names : List (List ℕ)) (c : Clock) (files : Files) (l : LinkState) (r : Result T Refusal) (told : T → List ℕ) →
    IsErrAnd r (λ refusal. refusal ≡ refusals.Memory) →
    EndsInit names (record { old = c; new = c; seen = files; seen_after = files; link = l; link_after = l }) (status_of r) (text_of told r)
out_of_memory {T} names c files l r told given =
    subst (λ (q : Result T Refusal).
    EndsInit names (record { old = c; new = c; seen = files; seen_after = files; link = l; link_after = l }) (status_of q) (text_of told q))
    (sym (raised r refusals.Memory given)) (record { keeps = record { leaves = within_self c.now; reads = refl }; text_is = refl })

-- The same under the names that the texts write.
module _ (names wanted : List (List ℕ)) (same : names ≡ wanted) where
  pub uncreated_named : {S T : Type 0} (k : Course) (o : Result S StoreFault) (r : Result T Refusal) (x : StoreFault) → o ≡ Err x →
      IsErrAnd r (λ refusal. refusal ≡ of_store x) → (told : T → List ℕ) → IsCreating mail (events.Begin names) k.old.now k.new.now →
      ((o ≡ Err stores.Disk → ⊥) → Keeps k) → (o ≡ Err stores.Already → IsTaken k.seen) →
      ((end wanted : ℕ) → o ≡ Err (stores.Full end wanted) → ⊥) →
      ((why : Place9) → o ≡ Err (stores.NotAJournal why) → (why ≡ places.Header) × AnyWrong k.seen) →
      EndsInit wanted k (status_of r) (text_of told r)
  uncreated_named k o r x was given told leaves keeps taken not_full header =
      subst (λ (ns : List (List ℕ)). EndsInit ns k (status_of r) (text_of told r)) same
      (uncreated_init names k o r x was given told leaves keeps taken not_full header)

  pub created_named : (k : Course) (store : Holding mail) → store.book ≡ begun names → IsAsLeft mail store k.new.now k.seen_after → IsUnbegun k.seen →
      SaysReady wanted k ready
  created_named k store book left unbegun =
      subst (λ (ns : List (List ℕ)). SaysReady ns k ready) same (created names k store book left unbegun)

  pub keeps_named : (entry : Moment) (seen : Files) (k l : Clock) → Since (IsCreating mail (events.Begin names) entry) KeepsActions k l →
      Since (MayBeLeft (Init wanted) entry seen) (KeepsStep (Init wanted)) k l
  keeps_named entry seen k l s = subst (λ (ns : List (List ℕ)). Since (MayBeLeft (Init ns) entry seen) (KeepsStep (Init ns)) k l) same
      (keeps_steps (Init names) (IsCreating mail (events.Begin names) entry) (MayBeLeft (Init names) entry seen) (λ m p. p) k l s)

  pub steps_named : (k l : Clock) → AreNames wanted → BeginsBehind mail (events.Begin names) k l → Since Any (RequestStep (Init wanted)) k l
  steps_named k l are b =
      subst (λ (ns : List (List ℕ)). Since Any (RequestStep (Init ns)) k l) same (begins_steps names k l (subst AreNames (sym same) are) b)

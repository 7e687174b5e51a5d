-- What becomes of a command that opens the journal, at each of its ends.
use Rattle.std.proofs.Common.{◌≡◌, inl, inr, ℕ, ◌≤◌, ◌<◌, List, [], ◌∷◌, ◌++◌, length, Some, None, Result, Ok, Err, refl, sym}
use Rattle.std.proofs.Common.{◌∙◌, ap}
use Rattle.std.proofs.Common.{subst, arith}
use Rattle.std.specs.Prelude.{slice_get}
use Rattle.std.specs.Result.{IsErrAnd}
use Rattle.mail_base.specs.declared.limits.TheConstants.{MAX_ACTIONS}
use Rattle.mail_base.specs.Lines.{accepted, error_disk, error_memory, limit_journal}
use Rattle.mail_base.specs.declared.status.Status.{Status}
use Rattle.mail_base.specs.declared.status.Status.TheVariants as status
use Rattle.world_traits.specs.Calls.{Rose}
use Rattle.world_traits.specs.Files.{Files}
use Rattle.world_traits.specs.Moments.{Moment, Within}
use Rattle.journal_core.specs.declared.fault.Place9.{Place9}
use Rattle.journal_core.specs.Appending.{told_end}
use Rattle.journal_core.specs.Holds.{Holds}
use Rattle.journal_core.specs.Limits.{max_accepted}
use Rattle.journal_core.proofs.HeldBodies.{still_holds}
use Rattle.action_queue.specs.Book.{Meaning, after}
use Rattle.action_queue.specs.Queues.{accepted as queued}
use Rattle.action_queue.specs.declared.action.Action.{Action}
use Rattle.action_queue.specs.declared.queued.Queued.{Queued}
use Rattle.store_core.specs.Mail.{mail}
use Rattle.store_core.specs.Books.{HasBook}
use Rattle.store_core.specs.Broken.{IsBroken}
use Rattle.store_core.specs.HeldActions.{IsHeld}
use Rattle.store_core.specs.Holding.{Holding, IsAsLeft}
use Rattle.store_core.specs.Steps.{Firm}
use Rattle.store_core.specs.Taking.{HasBooks}
use Rattle.store_core.specs.declared.fault.StoreFault.{StoreFault}
use Rattle.store_core.specs.declared.fault.StoreFault.TheVariants as stores
use Rattle.store_core.specs.declared.fault.CommitFault.{CommitFault}
use Rattle.store_core.specs.declared.fault.CommitFault.TheVariants as commits
use Rattle.store_core.proofs.Choosing.{only_left}
use Rattle.mail_top.specs.Ending.{EndsAct}
use Rattle.mail_top.specs.Saying.{PassesPlace, SaysMemory, SaysBroken, SaysAccepted}
use Rattle.mail_top.specs.Telling.{line_of, status_of, text_of, status_of_refusal, text_of_refusal}
use Rattle.mail_top.specs.Actions.{Becomes, accepts}
use Rattle.mail_top.specs.Course.{Course, Stays, StaysWritten, end_behind}
use Rattle.mail_top.specs.Faults.{of_store, of_commit}
use Rattle.mail_top.specs.Leaving.{MayBeLeft}
use Rattle.mail_top.specs.Reasons.{IsFree}
use Rattle.mail_top.specs.Weighing.{Admits, HasNumber, Weighed}
use Rattle.mail_top.specs.Words.{Wanted, Act}
use Rattle.mail_top.specs.declared.refusal.Refusal.{Refusal}
use Rattle.mail_top.specs.declared.refusal.Refusal.TheVariants as refusals

-- a fault that was handed on is the result
pub raised : {T : Type 0} (r : Result T Refusal) (x : Refusal) → IsErrAnd r (λ refusal. refusal ≡ x) → r ≡ Err x
raised (Ok y) x given = absurd given
raised (Err refusal) x given = ap (λ (f : Refusal). Err f) given

-- what was done is no fault
pub never_err : {T E : Type 0} (x : T) (e : E) → ◌≡◌ {A = Result T E} (Ok x) (Err e) → ⊥
never_err x e same = cc same

-- a count that rose later rose
pub rose_later : (k l m : ℕ) → k ≤ l → Rose l m → Rose k m
rose_later k l m first rose under = omega (arith, first, rose under)

-- The journal isn't opened. (What an end says is the same for each command at these statuses.)
module _ (E : Status → List ℕ → Type 0) (k : Course) (on_memory : SaysMemory k error_memory → E status.Memory error_memory)
    (on_disk : Within k.old.now k.new.now → E status.Disk error_disk)
    (on_broken : (why : Place9) → SaysBroken k (line_of why) → E status.Journal (line_of why)) where
  pub unopened : (x : StoreFault) → Within k.old.now k.new.now → ((x ≡ stores.Disk → ⊥) → k.seen_after ≡ k.seen) → (x ≡ stores.Already → ⊥) →
      ((end wanted : ℕ) → x ≡ stores.Full end wanted → ⊥) → ((why : Place9) → x ≡ stores.NotAJournal why → IsBroken mail why k.seen) →
      E (status_of_refusal (of_store x)) (text_of_refusal (of_store x))
  unopened stores.Memory within reads not_there not_full broken =
      on_memory (record { keeps = record { leaves = within; reads = reads (λ e. cc e) }; text_is = refl })
  unopened stores.Disk within reads not_there not_full broken = on_disk within
  unopened stores.Already within reads not_there not_full broken = absurd (not_there refl)
  unopened (stores.Full end wanted) within reads not_there not_full broken = absurd (not_full end wanted refl)
  unopened (stores.NotAJournal why) within reads not_there not_full broken =
      on_broken why (record { keeps = record { leaves = within; reads = reads (λ e. cc e) }; why = why; broken = broken why refl; text_is = refl })

-- the files as read hold the book of a store that was opened on them
abbrev pub opened_book : (store : Holding mail) (m : Moment) (seen files : Files) → IsAsLeft mail store m seen → seen ≡ files → HasBook mail store.book files
opened_book store m seen files left same = record {
  version = store.journal.version;
  bodies = left.bodies;
  holds = subst (Holds store.journal.version left.bodies) same (still_holds store.journal left.bodies m seen left.still left.all_read);
  make = left.make;
}

-- and from now on each stop leaves it
pub opened_stays : (k : Course) (store : Holding mail) → IsAsLeft mail store k.new.now k.seen_after → k.seen_after ≡ k.seen → Stays k store.book
opened_stays k store left same = record {
  holds = opened_book store k.new.now k.seen_after k.seen left same;
  leaves = only_left mail store k.new.now k.seen_after left;
  reads = same;
}

-- an action stands behind the others
last_there : (qs : List Queued) (q : Queued) → slice_get (qs ++ q ∷ []) (length qs) ≡ Some q
last_there [] q = refl
last_there (x ∷ qs) q = last_there qs q

pub held_last : (b : Meaning) (action : Action) (m : Moment) → HasBooks mail (Firm (Some (after b (accepts b action)))) m →
    IsHeld (length b.queue) action None m
held_last b action m have = record {
  each = λ files leaves. record {
    book = after b (accepts b action);
    holds = have.each.each files leaves;
    has = record { queued = queued action; there = last_there b.queue (queued action); asked = refl; ended = tt };
  };
}

-- what the opened book says of an action that is asked for
module _ (wanted : Wanted) (k : Course) (b : Meaning) (within : Within k.old.now k.new.now) (stays : Stays k b) where
  pub weighed_ends : (x : Refusal) → Weighed wanted b (Err x) → EndsAct wanted k (status_of_refusal x) (text_of_refusal x)
  weighed_ends (refusals.Reason reason) w = record { book = b; stays = stays; reason = reason; is = w; text_is = refl }
  weighed_ends refusals.Input w = record { book = b; stays = stays; awaits = w; text_is = refl }
  weighed_ends refusals.Actions w = absurd w
  weighed_ends refusals.Memory w = inl (record { keeps = record { leaves = within; reads = stays.reads }; text_is = refl })
  weighed_ends refusals.Disk w = absurd w
  weighed_ends refusals.Already w = absurd w
  weighed_ends (refusals.NotAJournal why) w = absurd w
  weighed_ends (refusals.Full end) w = absurd w
  weighed_ends refusals.Generation w = absurd w

-- the action was recorded
pub recorded : (wanted : Wanted) (k : Course) (b : Meaning) (id : ℕ) (action : Action) (holds : HasBook mail b k.seen) → Admits wanted b id action →
    end_behind holds (accepts b action) ≤ max_accepted → HasBooks mail (Firm (Some (after b (accepts b action)))) k.new.now →
    SaysAccepted wanted k (accepted id)
recorded wanted k b id action holds takes within leaves = record {
  book = b;
  holds = holds;
  free = takes.free;
  few = takes.few;
  action = action;
  is = takes.is;
  within = within;
  leaves = leaves;
  held =
      held_last b action k.new.now leaves;
  text_is = ap accepted takes.number;
}

-- The same at a result that handed a store's fault on.
module _ {S T : Type 0} (o : Result S StoreFault) (r : Result T Refusal) (x : StoreFault) (was : o ≡ Err x) (given : IsErrAnd r
    (λ refusal. refusal ≡ of_store x))
    (told : T → List ℕ) (k : Course) (within : Within k.old.now k.new.now) (reads : (o ≡ Err stores.Disk → ⊥) → k.seen_after ≡ k.seen)
    (only : (o ≡ Err stores.Already → ⊥) × ((end wanted : ℕ) → o ≡ Err (stores.Full end wanted) → ⊥))
    (broken : (why : Place9) → o ≡ Err (stores.NotAJournal why) → IsBroken mail why k.seen) where
  at : (y : StoreFault) → x ≡ y → o ≡ Err y
  at y is = was ∙ ap (λ (f : StoreFault). Err f) is

  back : o ≡ Err stores.Disk → x ≡ stores.Disk
  back is = cc (was, is)

  pub unopened_act : (wanted : Wanted) → EndsAct wanted k (status_of r) (text_of told r)
  unopened_act wanted = subst (λ (q : Result T Refusal). EndsAct wanted k (status_of q) (text_of told q)) (sym (raised r (of_store x) given))
      (unopened (EndsAct wanted k) k (λ s. inl s) (λ w. record { leaves = inl (inl w); text_is = refl }) (λ why s. s) x within
      (λ other. reads (λ is. other (back is))) (λ is. only.0 (at stores.Already is)) (λ end wanted is. only.1 end wanted (at (stores.Full end wanted) is))
      (λ why is. broken why (at (stores.NotAJournal why) is)))

-- so it is told by a result that hands a refusal on
pub act_told : {T : Type 0} (wanted : Wanted) (k : Course) (told : T → List ℕ) (r : Result T Refusal) (x : Refusal) → IsErrAnd r (λ refusal. refusal ≡ x) →
    EndsAct wanted k (status_of_refusal x) (text_of_refusal x) → EndsAct wanted k (status_of r) (text_of told r)
act_told {T} wanted k told r x given ends =
    subst (λ (q : Result T Refusal). EndsAct wanted k (status_of q) (text_of told q)) (sym (raised r x given)) ends

-- At a result that handed on what the book says of an action.
pub weighed_act : {T : Type 0} (wanted : Wanted) (k : Course) (b : Meaning) (within : Within k.old.now k.new.now) (stays : Stays k b) (told : T → List ℕ)
    (w : Result Action Refusal) (r : Result T Refusal) (x : Refusal) → w ≡ Err x → IsErrAnd r (λ refusal. refusal ≡ x) → Weighed wanted b w →
    EndsAct wanted k (status_of r) (text_of told r)
weighed_act {T} wanted k b within stays told w r x was given weighs =
    subst (λ (q : Result T Refusal). EndsAct wanted k (status_of q) (text_of told q)) (sym (raised r x given))
    (weighed_ends wanted k b within stays x (subst (Weighed wanted b) was weighs))

-- At a result that handed a fault of the recording on: after a failure of the disk the action may be there or not, and after
-- another all is as it was.
module _ {S T : Type 0} (wanted : Wanted) (k : Course) (told : T → List ℕ) (o : Result S CommitFault) (r : Result T Refusal) (x : CommitFault) (was : o ≡ Err x)
    (given : IsErrAnd r (λ refusal. refusal ≡ of_commit x)) (leaves : MayBeLeft (Act wanted) k.old.now k.seen k.new.now) where
  pub unrecorded_act : (b : Meaning) (action : Action) → IsFree wanted b → length b.queue < MAX_ACTIONS → Becomes wanted b action →
      (holds : HasBook mail b k.seen) →
      ((o ≡ Err commits.Disk → ⊥) → (s : StaysWritten k b) × (s.holds ≡ holds)) →
      ((end place : ℕ) → o ≡ Err (commits.Full end place) →
      (max_accepted < end_behind holds (accepts b action)) × (place ≡ told_end (end_behind holds (accepts b action)))) →
      EndsAct wanted k (status_of r) (text_of told r)
  unrecorded_act b action free few becomes holds kept full =
      subst (λ (q : Result T Refusal). EndsAct wanted k (status_of q) (text_of told q)) (sym (raised r (of_commit x) given)) (by_fault x was)
    where
      by_fault : (y : CommitFault) → o ≡ Err y → EndsAct wanted k (status_of_refusal (of_commit y)) (text_of_refusal (of_commit y))
      by_fault commits.Disk is = record { leaves = leaves; text_is = refl }
      by_fault commits.Memory is =
          let all = kept (λ e. let never : Err commits.Memory ≡ Err commits.Disk = sym is ∙ e in cc) in
          inr (record { book = b; stays = all.0; text_is = refl })
      by_fault (commits.Full end place) is =
          let all = kept (λ e. let never : Err (commits.Full end place) ≡ Err commits.Disk = sym is ∙ e in cc) in
          let past = full end place is in
          record {
            book = b;
            free = free;
            past = inl (record {
              stays = all.0;
              past = inr (subst (λ (h : HasBook mail b k.seen). PassesPlace wanted k b h (limit_journal place)) (sym all.1)
                  (record { few = few; action = action; is = becomes; past = past.0; text_is = ap limit_journal past.1 }));
            });
          }

-- The queue would have too many actions.
module _ (wanted : Wanted) (k : Course) (b : Meaning) (free : IsFree wanted b) (stays : StaysWritten k b) where
  full_ends : (x : Refusal) → HasNumber b.queue (Err x) → EndsAct wanted k (status_of_refusal x) (text_of_refusal x)
  full_ends refusals.Actions n = record { book = b; free = free; past = inl (record { stays = stays; past = inl (n, refl) }) }
  full_ends (refusals.Reason reason) n = absurd n
  full_ends refusals.Memory n = absurd n
  full_ends refusals.Input n = absurd n
  full_ends refusals.Disk n = absurd n
  full_ends refusals.Already n = absurd n
  full_ends (refusals.NotAJournal why) n = absurd n
  full_ends (refusals.Full end) n = absurd n
  full_ends refusals.Generation n = absurd n

  pub full_act : {T : Type 0} (told : T → List ℕ) (o : Result ℕ Refusal) (r : Result T Refusal) (x : Refusal) → o ≡ Err x →
      IsErrAnd r (λ refusal. refusal ≡ x) → HasNumber b.queue o → EndsAct wanted k (status_of r) (text_of told r)
  full_act {T} told o r x was given number =
      subst (λ (q : Result T Refusal). EndsAct wanted k (status_of q) (text_of told q)) (sym (raised r x given))
      (full_ends x (subst (HasNumber b.queue) was number))

-- A number isn't wanting for another cause.
module _ {T : Type 0} (queue : List Queued) (o : Result ℕ Refusal) (r : Result T Refusal) (x : Refusal) (was : o ≡ Err x)
    (given : IsErrAnd r (λ refusal. refusal ≡ x)) (number : HasNumber queue o) where
  numbered : (y : Refusal) → r ≡ Err y → HasNumber queue (Err y)
  numbered y is =
      let same : x ≡ y = cc (raised r x given, is) in
      subst (λ (z : Refusal). HasNumber queue (Err z)) same (subst (HasNumber queue) was number)

  pub number_disk : r ≡ Err refusals.Disk → ⊥
  number_disk is = numbered refusals.Disk is

  pub number_input : r ≡ Err refusals.Input → ⊥
  number_input is = numbered refusals.Input is

  pub number_already : r ≡ Err refusals.Already → ⊥
  number_already is = numbered refusals.Already is

-- which fault of a part it was
store_disk_back : (x : StoreFault) → of_store x ≡ refusals.Disk → x ≡ stores.Disk
store_disk_back stores.Memory is = absurd cc
store_disk_back stores.Disk is = refl
store_disk_back stores.Already is = absurd cc
store_disk_back (stores.Full end wanted) is = absurd cc
store_disk_back (stores.NotAJournal why) is = absurd cc

store_already_back : (x : StoreFault) → of_store x ≡ refusals.Already → x ≡ stores.Already
store_already_back stores.Memory is = absurd cc
store_already_back stores.Disk is = absurd cc
store_already_back stores.Already is = refl
store_already_back (stores.Full end wanted) is = absurd cc
store_already_back (stores.NotAJournal why) is = absurd cc

store_input_back : (x : StoreFault) → of_store x ≡ refusals.Input → ⊥
store_input_back stores.Memory is = absurd cc
store_input_back stores.Disk is = absurd cc
store_input_back stores.Already is = absurd cc
store_input_back (stores.Full end wanted) is = absurd cc
store_input_back (stores.NotAJournal why) is = absurd cc

commit_disk_back : (x : CommitFault) → of_commit x ≡ refusals.Disk → x ≡ commits.Disk
commit_disk_back commits.Memory is = absurd cc
commit_disk_back commits.Disk is = refl
commit_disk_back (commits.Full end wanted) is = absurd cc

commit_already_back : (x : CommitFault) → of_commit x ≡ refusals.Already → ⊥
commit_already_back commits.Memory is = absurd cc
commit_already_back commits.Disk is = absurd cc
commit_already_back (commits.Full end wanted) is = absurd cc

commit_input_back : (x : CommitFault) → of_commit x ≡ refusals.Input → ⊥
commit_input_back commits.Memory is = absurd cc
commit_input_back commits.Disk is = absurd cc
commit_input_back (commits.Full end wanted) is = absurd cc

module _ {S T : Type 0} (o : Result S StoreFault) (r : Result T Refusal) (x : StoreFault) (was : o ≡ Err x) (given : IsErrAnd r
    (λ refusal. refusal ≡ of_store x)) where
  pub store_input : r ≡ Err refusals.Input → ⊥
  store_input is = let same : of_store x ≡ refusals.Input = cc (raised r (of_store x) given, is) in store_input_back x same

  pub store_disk : r ≡ Err refusals.Disk → o ≡ Err stores.Disk
  store_disk is = let same : of_store x ≡ refusals.Disk = cc (raised r (of_store x) given, is) in was ∙ ap (λ (f : StoreFault). Err f) (store_disk_back x same)

  pub store_failed : o ≡ Err stores.Disk → r ≡ Err refusals.Disk
  store_failed is =
      let same : x ≡ stores.Disk = cc (was, is) in raised r (of_store x) given ∙ ap (λ (f : StoreFault). Err (of_store f)) same

  pub store_already : r ≡ Err refusals.Already → o ≡ Err stores.Already
  store_already is =
      let same : of_store x ≡ refusals.Already = cc (raised r (of_store x) given, is) in was ∙ ap (λ (f : StoreFault). Err f) (store_already_back x same)

module _ {S T : Type 0} (o : Result S CommitFault) (r : Result T Refusal) (x : CommitFault) (was : o ≡ Err x)
    (given : IsErrAnd r (λ refusal. refusal ≡ of_commit x)) where
  pub commit_disk : r ≡ Err refusals.Disk → o ≡ Err commits.Disk
  commit_disk is = let same : of_commit x ≡ refusals.Disk = cc (raised r (of_commit x) given, is) in was
      ∙ ap (λ (f : CommitFault). Err f) (commit_disk_back x same)

  pub commit_failed : o ≡ Err commits.Disk → r ≡ Err refusals.Disk
  commit_failed is =
      let same : x ≡ commits.Disk = cc (was, is) in raised r (of_commit x) given ∙ ap (λ (f : CommitFault). Err (of_commit f)) same

  pub commit_input : r ≡ Err refusals.Input → ⊥
  commit_input is = let same : of_commit x ≡ refusals.Input = cc (raised r (of_commit x) given, is) in commit_input_back x same

  pub commit_already : r ≡ Err refusals.Already → ⊥
  commit_already is = let same : of_commit x ≡ refusals.Already = cc (raised r (of_commit x) given, is) in commit_already_back x same

-- what the book says of an action is no fault of the disk
module _ {T : Type 0} (wanted : Wanted) (b : Meaning) (w : Result Action Refusal) (r : Result T Refusal) (x : Refusal) (was : w ≡ Err x)
    (given : IsErrAnd r (λ refusal. refusal ≡ x)) (weighs : Weighed wanted b w) where
  pub weighed_disk : r ≡ Err refusals.Disk → ⊥
  weighed_disk is =
      let same : x ≡ refusals.Disk = cc (raised r x given, is) in
      subst (λ (y : Refusal). Weighed wanted b (Err y)) same (subst (Weighed wanted b) was weighs)

  pub weighed_already : r ≡ Err refusals.Already → ⊥
  weighed_already is =
      let same : x ≡ refusals.Already = cc (raised r x given, is) in
      subst (λ (y : Refusal). Weighed wanted b (Err y)) same (subst (Weighed wanted b) was weighs)

-- a refusal is handed on as it is
module _ {S T : Type 0} (w : Result S Refusal) (r : Result T Refusal) (x : Refusal) (was : w ≡ Err x) (given : IsErrAnd r (λ refusal. refusal ≡ x)) where
  pub handed_back : (y : Refusal) → r ≡ Err y → w ≡ Err y
  handed_back y is = let same : x ≡ y = cc (raised r x given, is) in was ∙ ap (λ (z : Refusal). Err z) same

  pub handed_on : (y : Refusal) → w ≡ Err y → r ≡ Err y
  handed_on y is = let same : x ≡ y = cc (was, is) in raised r x given ∙ ap (λ (z : Refusal). Err z) same

-- and so is an input that failed
pub weighed_input : {S T : Type 0} (w : Result S Refusal) (r : Result T Refusal) (x : Refusal) → w ≡ Err x → IsErrAnd r (λ refusal. refusal ≡ x) →
    r ≡ Err refusals.Input → w ≡ Err refusals.Input
weighed_input w r x was given is = handed_back w r x was given refusals.Input is

-- How a journal is made ready for playback: it is opened, and then told anew, or not.
use Rattle.std.proofs.Common.{◌≡◌, ◌≢◌, ◌⊎◌, ⊎_elim, inl, inr, ℕ, ◌-◌, List, Some, Result, Err, refl, sym, ◌∙◌, ap, subst, arith}
use Rattle.std.specs.Result.{IsErrAnd}
use Rattle.imap_model.specs.Talking.{Peer}
use Rattle.world_traits.specs.Files.{Files}
use Rattle.world_traits.specs.Links.{Any}
use Rattle.world_traits.specs.Moments.{Moment, Clock, Within}
use Rattle.world_traits.proofs.Choosing.{rests_only}
use Rattle.world_traits.proofs.Keeping.{since_now}
use Rattle.world_traits.proofs.Narrowing.{within_keeps, within_self}
use Rattle.world_traits.proofs.Passing.{since_then, since_weaker}
use Rattle.journal_core.specs.Appending.{end_with}
use Rattle.journal_core.specs.Creating.{end_of}
use Rattle.journal_core.specs.Sides.{version_written}
use Rattle.journal_core.specs.Standing.{Standing}
use Rattle.journal_core.specs.declared.fault.Place9.{Place9}
use Rattle.journal_core.specs.declared.version.Version.TheVariants.{First}
use Rattle.journal_core.proofs.AtRest.{each_then}
use Rattle.journal_core.proofs.HeldBodies.{narrowed}
use Rattle.journal_core.proofs.Unique.{one_book, one_version}
use Rattle.journal_core.proofs.UpTo.{up_to_here}
use Rattle.action_queue.specs.Book.{Meaning}
use Rattle.record_codec.specs.Restated.{restated_end}
use Rattle.book_laws.specs.Kept.{Kept}
use Rattle.store_core.specs.Anew.{told_on}
use Rattle.store_core.specs.Mail.{mail}
use Rattle.store_core.specs.Books.{HasBook}
use Rattle.store_core.specs.Broken.{IsBroken}
use Rattle.store_core.specs.HeldActions.{KeepsActions}
use Rattle.store_core.specs.Holding.{Holding, IsAsLeft}
use Rattle.store_core.specs.Moments.{OpensStore, TellsAnew}
use Rattle.store_core.specs.Steps.{Firm}
use Rattle.store_core.specs.Taking.{HasBooks, ChoosesStep}
use Rattle.store_core.specs.declared.fault.StoreFault.{StoreFault}
use Rattle.store_core.specs.declared.fault.StoreFault.TheVariants as stores
use Rattle.store_core.proofs.Choosing.{only_left}
use Rattle.store_core.proofs.Folding.{one_held}
use Rattle.store_core.proofs.MailBook.{one_mail_event}
use Rattle.play_driver.specs.Joining.{Relates}
use Rattle.play_driver.proofs.Kept.{books_kept, kept_books}
use Rattle.mail_top.specs.Course.{Course, Keeps}
use Rattle.mail_top.specs.Faults.{of_store}
use Rattle.mail_top.specs.KeptNow.{IsKeptNow}
use Rattle.mail_top.specs.Readying.{IsDueFor, IsLong, IsLongFor, IsOpened, IsToldAnew, IsTurnDue, IsUnready, LeavesRead, NoTurnDue, Readies}
use Rattle.mail_top.specs.Takeover.{taken_over}
use Rattle.mail_top.specs.declared.refusal.Refusal.{Refusal}
use Rattle.mail_top.proofs.Openings.{opened_book, raised}
use Rattle.mail_top.proofs.PlayServed.{same_peer}
use Rattle.mail_top.proofs.Takeovers.{first_older, same_generation, taken_anew, written_or_first}

-- an opening alone
pub readies_opening : (seen : Files) (k l : Clock) → OpensStore k l → Readies k l seen
readies_opening seen k l opens = record {
  keeps = since_weaker (Within k.now) (LeavesRead k.now seen) KeepsActions KeepsActions (λ m w. inl w) (λ m n step. step) k l opens.held;
  chooses = opens.chooses;
  one_side = opens.one_side;
  each_one_side = opens.each_one_side;
  kept = λ kept. within_keeps (Relates mail Kept) k.now l.now kept (narrowed k l opens.told);
}

-- and behind it the book is told anew
module _ (b : Meaning) (seen : Files) (k l n : Clock) (holds : HasBook mail b seen) (leaves : HasBooks mail (Firm (Some b)) l.now) (opens : Readies k l seen)
    (anew : TellsAnew b l n) where
  left_now : HasBooks mail (Firm (Some b)) n.now
  left_now = since_now (HasBooks mail (Firm (Some b))) (HasBooks mail (Firm (Some b))) KeepsActions (λ m o here step before. here) l leaves n anew.held

  still_kept : IsKeptNow l.now → IsKeptNow n.now
  still_kept kept =
      let here = kept_books mail Kept one_mail_event (Firm (Some b)) l.now kept leaves in
      books_kept mail Kept (Firm (Some b)) n.now left_now
      (subst (λ (p : Peer). Kept (Some b) p.server p.waiting) (sym (same_peer (HasBooks mail (Firm (Some b))) l n anew.held)) here)

  pub readies_anew : Readies k n seen
  readies_anew = record {
    keeps = since_then (LeavesRead k.now seen) KeepsActions k l n opens.keeps
        (since_weaker (HasBooks mail (Firm (Some b))) (LeavesRead k.now seen) KeepsActions KeepsActions
        (λ m here. inr (record { book = b; holds = holds; leaves = here })) (λ m o step. step) l n anew.held);
    chooses = λ one books have. since_then Any (ChoosesStep mail) k l n (opens.chooses one books have)
        (since_weaker (HasBooks mail (Firm (Some b))) Any (ChoosesStep mail) (ChoosesStep mail) (λ m here. tt) (λ m o step. step) l n anew.stays);
    one_side = λ one. anew.one_side;
    each_one_side = λ one. each_then k l n (opens.each_one_side one) anew.each_one_side;
    kept = λ kept. still_kept (opens.kept kept);
  }

-- What a stop leaves where the disk stands as a store left it: a journal that is to be told anew, where the store's is.
module _ (store : Holding mail) (m : Moment) (seen : Files) (left : IsAsLeft mail store m seen) where
  ends_here : end_of left.bodies ≡ end_with 0 store.journal
  ends_here = omega (arith, (up_to_here left.bodies store.journal m seen left.still).there)

  abbrev here : HasBook mail store.book seen
  here = opened_book store m seen seen left refl

  -- of a journal that the files hold the store's has the version, the end, the generation and the book
  module _ (book : Meaning) (holds : HasBook mail book seen) where
    version_here : holds.version ≡ store.journal.version
    version_here = one_version holds.version store.journal.version holds.bodies left.bodies seen holds.holds here.holds

    long_here : IsLong (end_of holds.bodies) holds.holds.generation book → IsLongFor store
    long_here long =
        let bodies = one_book holds.version store.journal.version holds.bodies left.bodies seen holds.holds here.holds in
        let end : end_of holds.bodies ≡ end_with 0 store.journal = ap (λ (l : List (List ℕ)). end_of l) bodies ∙ ends_here in
        let generation = same_generation holds.holds.side store.journal.side holds.version store.journal.version holds.holds.generation
        store.journal.generation seen holds.holds.present left.still.present in
        let same = one_held mail one_mail_event seen book store.book holds here in
        subst (λ (n : ℕ). IsLong n store.journal.generation store.book) end
        (subst (λ (g : ℕ). IsLong (end_of holds.bodies) g store.book) generation
        (subst (λ (b : Meaning). IsLong (end_of holds.bodies) holds.holds.generation b) same long))

  due_here : IsTurnDue seen → IsDueFor store
  due_here due = ⊎_elim
      (λ (older : due.holds.version ≢ version_written). inl (λ (is : store.journal.version ≡ version_written). older (version_here due.book due.holds ∙ is)))
      (λ (long : IsLong (end_of due.holds.bodies) due.holds.holds.generation due.book). inr (long_here due.book due.holds long))
      due.due

  long_there : IsLongFor store → IsLong (end_of left.bodies) here.holds.generation store.book
  long_there long =
      let generation = same_generation here.holds.side store.journal.side here.version store.journal.version here.holds.generation
      store.journal.generation seen here.holds.present left.still.present in
      subst (λ (g : ℕ). IsLong (end_of left.bodies) g store.book) (sym generation)
      (subst (λ (n : ℕ). IsLong n store.journal.generation store.book) (sym ends_here) long)

  pub due_there : IsDueFor store → IsTurnDue seen
  due_there due = record {
    book = store.book;
    holds = here;
    due = ⊎_elim (λ (older : store.journal.version ≢ version_written). inl older) (λ (long : IsLongFor store). inr (long_there long)) due;
  }

  pub none_due : (IsDueFor store → ⊥) → NoTurnDue m
  none_due never = (rests_only (λ files. IsTurnDue files → ⊥) m seen left.still.rests (λ due. never (due_here due))).each

  -- nor does it where the book was told anew just now
  pub none_due_anew : (read : Files) → IsToldAnew read store → NoTurnDue m
  none_due_anew read told =
      let place : store.journal.place ≡ restated_end store.book - 1 = ap (λ (j : Standing). j.place) told.is in
      none_due
      (λ due. ⊎_elim (λ (older : store.journal.version ≢ version_written). older (ap (λ (j : Standing). j.version) told.is))
      (λ (long : IsLongFor store). absurd (omega (arith, place, long.half, long.long))) due)

-- the store as it was opened
pub opened_read : (entry m : Moment) (seen files : Files) (store : Holding mail) → Within entry m → IsAsLeft mail store m files → files ≡ seen →
    (IsDueFor store → ⊥) → IsOpened entry seen store
opened_read entry m seen files store within left same never = record {
  holds = opened_book store m files seen left same;
  at = m;
  files = files;
  stood = left;
  leaves = inl within;
  ready = none_due store m files left never;
  how = inl (record {
    never = λ due. never (due_here store m seen (subst (λ (f : Files). IsAsLeft mail store m f) same left) due);
    within = within;
    same = same;
  });
}

-- and where its book was told anew
module _ (before store : Holding mail) (same : store.book ≡ before.book) (moved : store.journal ≡ told_on (restated_end before.book) before.journal)
    (seen files : Files) (m : Moment) (left : IsAsLeft mail before m files) (read : files ≡ seen) (due : IsDueFor before) where
  there : IsAsLeft mail before m seen
  there = subst (λ (f : Files). IsAsLeft mail before m f) read left

  pub told_anew : IsToldAnew seen store
  told_anew = record {
    due = due_there before m seen there due;
    before = before;
    at = m;
    stood = there;
    is = moved ∙ ap (λ (b : Meaning). told_on (restated_end b) before.journal) (sym same);
  }

  pub opened_anew : (entry n : Moment) (after : Files) → HasBook mail before.book seen → IsAsLeft mail store n after → IsOpened entry seen store
  opened_anew entry n after holds stood =
      let holds_now = subst (λ (b : Meaning). HasBook mail b seen) (sym same) holds in
      record {
        holds = holds_now;
        at = n;
        files = after;
        stood = stood;
        leaves = inr (record { book = store.book; holds = holds_now; leaves = only_left mail store n after stood });
        ready = none_due_anew store n after stood seen told_anew;
        how = inr told_anew;
      }

-- A store that was opened, and then taken over where its journal was of an older version; no turn is due for its length.
module _ (entry m n : Moment) (seen files after : Files) (before store : Holding mail) (within : Within entry m) (left : IsAsLeft mail before m files)
    (read : files ≡ seen) (stood : IsAsLeft mail store n after) (taken : store ≡ taken_over before) (book : store.book ≡ before.book)
    (written : store.journal.version ≡ version_written) (stays : before.journal.version ≡ version_written → (n ≡ m) × (after ≡ files))
    (never : IsLongFor store → ⊥) where
  never_due : IsDueFor store → ⊥
  never_due due = ⊎_elim (λ (older : store.journal.version ≢ version_written). older written) (λ (long : IsLongFor store). never long) due

  pub none_due_taken : NoTurnDue n
  none_due_taken = none_due store n after stood never_due

  pub opened_taken : IsOpened entry seen store
  opened_taken = by_version (written_or_first before.journal.version)
    where
      by_version : (before.journal.version ≡ version_written) ⊎ (before.journal.version ≡ First) → IsOpened entry seen store
      by_version (inl is) =
          let all = stays is in
          opened_read entry n seen after store (subst (λ (o : Moment). Within entry o) (sym all.0) within) stood (all.1 ∙ read) never_due
      by_version (inr first) =
          opened_anew before store book (taken_anew before store taken first) seen files m left read (inl (first_older before.journal.version first)) entry n
          after (opened_book before m files seen left read) stood

-- what a stop leaves at the end of it
pub ready_left : (seen : Files) (k l : Clock) → Readies k l seen → LeavesRead k.now seen l.now
ready_left seen k l r =
    since_now (LeavesRead k.now seen) (LeavesRead k.now seen) KeepsActions (λ m n here step before. here) k (inl (within_self k.now)) l r.keeps

-- what was left as an opening left it is as before
pub keeps_still : (k : Course) (m : Moment) (files : Files) → Within k.old.now m → files ≡ k.seen → k.new.now ≡ m → k.seen_after ≡ files → Keeps k
keeps_still k m files within read same reads = record {
  leaves = subst (λ (n : Moment). Within k.old.now n) (sym same) within;
  reads = reads ∙ read;
}

-- Why it isn't ready: it isn't opened.
pub unready_open : {T : Type 0} (k : Course) (o : Result T StoreFault) (x : StoreFault) → o ≡ Err x → Within k.old.now k.new.now →
    ((o ≡ Err stores.Disk → ⊥) → k.seen_after ≡ k.seen) →
    (o ≡ Err stores.Already → ⊥) × ((end wanted : ℕ) → o ≡ Err (stores.Full end wanted) → ⊥) →
    ((why : Place9) → o ≡ Err (stores.NotAJournal why) → IsBroken mail why k.seen) → IsUnready k (of_store x)
unready_open k o stores.Memory was within reads only broken = record { leaves = within; reads = reads (λ is. cc (was, is)) }
unready_open k o stores.Disk was within reads only broken = inl within
unready_open k o stores.Already was within reads only broken = absurd (only.0 was)
unready_open k o (stores.Full end wanted) was within reads only broken = absurd (only.1 end wanted was)
unready_open k o (stores.NotAJournal why) was within reads only broken =
    (record { leaves = within; reads = reads (λ is. cc (was, is)) }, broken why was)

-- Or its book isn't told anew.
pub unready_turn : {T : Type 0} (k : Course) (o : Result T StoreFault) (x : StoreFault) → o ≡ Err x → LeavesRead k.old.now k.seen k.new.now →
    ((o ≡ Err stores.Disk → ⊥) → Keeps k) → (o ≡ Err stores.Already → ⊥) × ((why : Place9) → o ≡ Err (stores.NotAJournal why) → ⊥) →
    ((end wanted : ℕ) → o ≡ Err (stores.Full end wanted) → ⊥) → IsUnready k (of_store x)
unready_turn k o stores.Memory was leaves keeps only full = keeps (λ is. cc (was, is))
unready_turn k o stores.Disk was leaves keeps only full = leaves
unready_turn k o stores.Already was leaves keeps only full = absurd (only.0 was)
unready_turn k o (stores.Full end wanted) was leaves keeps only full = absurd (full end wanted was)
unready_turn k o (stores.NotAJournal why) was leaves keeps only full = absurd (only.1 why was)

-- so it is told by a result that hands a fault on
pub unready_told : {T : Type 0} (k : Course) (r : Result T Refusal) (x y : Refusal) → IsErrAnd r (λ refusal. refusal ≡ x) → r ≡ Err y → IsUnready k x →
    IsUnready k y
unready_told k r x y given is unready = let same : x ≡ y = cc (raised r x given, is) in subst (IsUnready k) same unready

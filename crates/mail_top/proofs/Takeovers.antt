-- A journal of an older version is taken over, or it isn't.
use Rattle.std.proofs.Common.{◌≡◌, ◌⊎◌, inl, inr, Bool, true, false, ℕ, ◌<◌, ◌≢◌, ◌^◌, ◌-◌, Some, Result, Err, refl, sym, ◌∙◌, ap, subst, arith}
use Rattle.std.specs.Prelude.{IfErr}
use Rattle.std.specs.Result.{IsErrAnd}
use Rattle.world_traits.specs.Files.{Files}
use Rattle.world_traits.specs.Moments.{Moment, Within}
use Rattle.world_traits.specs.declared.disk.Side.{Side}
use Rattle.world_traits.specs.declared.disk.Side.TheVariants.{Left, Right}
use Rattle.journal_core.specs.Appending.{told_end}
use Rattle.journal_core.specs.Holds.{IsPresent}
use Rattle.journal_core.specs.Sides.{version_written}
use Rattle.journal_core.specs.Standing.{Standing}
use Rattle.journal_core.specs.declared.fault.Place9.{Place9}
use Rattle.journal_core.specs.declared.version.Version.{Version}
use Rattle.journal_core.specs.declared.version.Version.TheVariants.{First, Second}
use Rattle.journal_core.proofs.Choice.{one_generation}
use Rattle.journal_core.proofs.UpTo.{up_to_here}
use Rattle.action_queue.specs.Book.{Meaning}
use Rattle.action_queue.specs.declared.event.Event.{Event}
use Rattle.record_codec.specs.Restated.{restated_end}
use Rattle.store_core.specs.Anew.{told_on}
use Rattle.store_core.specs.Books.{HasBook, Make}
use Rattle.store_core.specs.Holding.{Holding, IsAsLeft}
use Rattle.store_core.specs.Mail.{mail}
use Rattle.store_core.specs.Room.{end_after}
use Rattle.store_core.specs.Steps.{Firm}
use Rattle.store_core.specs.Taking.{HasBooks}
use Rattle.store_core.specs.declared.fault.StoreFault.{StoreFault}
use Rattle.store_core.specs.declared.fault.StoreFault.TheVariants as stores
use Rattle.store_core.proofs.Choosing.{only_left}
use Rattle.mail_top.specs.Course.{Course, Keeps, Stays, StaysWritten, end_behind, end_written}
use Rattle.mail_top.specs.Ending.{EndsAct}
use Rattle.mail_top.specs.Faults.{of_store}
use Rattle.mail_top.specs.Leaving.{MayBeLeft}
use Rattle.mail_top.specs.Readying.{IsLongFor, IsUnready, LeavesRead}
use Rattle.mail_top.specs.Reasons.{IsFree}
use Rattle.mail_top.specs.Takeover.{IsNotTaken, IsNotTakenAs, taken_as, taken_over}
use Rattle.mail_top.specs.Telling.{status_of_refusal, text_of_refusal}
use Rattle.mail_top.specs.Words.{Wanted, Act}
use Rattle.mail_top.specs.declared.refusal.Refusal.{Refusal}
use Rattle.mail_top.specs.declared.refusal.Refusal.TheVariants as refusals
use Rattle.mail_top.proofs.Openings.{opened_book, raised}

-- there are two versions, and one is written
pub written_or_first : (v : Version) → (v ≡ version_written) ⊎ (v ≡ First)
written_or_first First = inr refl
written_or_first Second = inl refl

pub first_older : (v : Version) → v ≡ First → v ≡ version_written → ⊥
first_older v first written = let never : First ≡ Second = sym first ∙ written in cc never

pub first_of : (v : Version) → v ≢ version_written → v ≡ First
first_of First older = refl
first_of Second older = absurd (older refl)

pub never_failed : (failed : Bool) → (failed ≡ true → ⊥) → failed ≡ false
never_failed true sound = absurd (sound refl)
never_failed false sound = refl

-- nothing is done to one of the version that is written
pub untouched : (store : Holding mail) → store.journal.version ≡ version_written → store ≡ taken_over store
untouched store written = sym (ap (λ (v : Version). taken_as v store) written)

-- what is done to a store of the version that is written, and to another one
module _ (store later : Holding mail) (taken : later ≡ taken_over store) where
  pub taken_same : store.journal.version ≡ version_written → later ≡ store
  taken_same written = taken ∙ ap (λ (v : Version). taken_as v store) written

  pub taken_anew : store.journal.version ≡ First → later.journal ≡ told_on (restated_end store.book) store.journal
  taken_anew first = ap (λ (h : Holding mail). h.journal) (taken ∙ ap (λ (v : Version). taken_as v store) first)

  -- a journal that was taken over isn't long
  pub long_as_read : IsLongFor later → later.book ≡ store.book → store.journal.version ≡ version_written
  long_as_read long book = by_version (written_or_first store.journal.version)
    where
      by_version : (store.journal.version ≡ version_written) ⊎ (store.journal.version ≡ First) → store.journal.version ≡ version_written
      by_version (inl written) = written
      by_version (inr first) =
          let place : later.journal.place ≡ restated_end store.book - 1 = ap (λ (j : Standing). j.place) (taken_anew first) in
          absurd (omega (arith, place, long.half, long.long, ap restated_end book))

-- a store whose book was told anew
pub taken_told : (store later : Holding mail) → store.journal.version ≡ First → later.book ≡ store.book →
    later.journal ≡ told_on (restated_end store.book) store.journal → later ≡ taken_over store
taken_told store later first book journal =
    (ap (λ (b : Meaning). record { journal = later.journal; book = b }) book
    ∙ ap (λ (j : Standing). record { journal = j; book = store.book }) journal)
    ∙ sym (ap (λ (v : Version). taken_as v store) first)

-- why a turn doesn't take it over
module _ {T : Type 0} (store : Holding mail) (o : Result T StoreFault) (older : store.journal.version ≢ version_written)
    (over : 2 ^ 30 < restated_end store.book → o ≡ Err (stores.Full 0 (told_end (restated_end store.book))))
    (full : (end wanted : ℕ) → o ≡ Err (stores.Full end wanted) → 2 ^ 30 < restated_end store.book)
    (only : (o ≡ Err stores.Already → ⊥) × ((why : Place9) → o ≡ Err (stores.NotAJournal why) → ⊥)) where
  pub not_taken : (x : StoreFault) → o ≡ Err x → IsNotTaken store (of_store x)
  not_taken stores.Memory is = older
  not_taken stores.Disk is = older
  not_taken stores.Already is = absurd (only.0 is)
  not_taken (stores.Full end wanted) is =
      let past = full end wanted is in
      let both : Err (stores.Full end wanted) ≡ Err (stores.Full 0 (told_end (restated_end store.book))) = sym is ∙ over past in
      record { older = older; past = past; is = cc both }
  not_taken (stores.NotAJournal why) is = absurd (only.1 why is)

  -- the same of a result that hands it on
  pub not_taken_told : {S : Type 0} (r : Result S Refusal) (x : StoreFault) → o ≡ Err x → IsErrAnd r (λ refusal. refusal ≡ of_store x) → IfErr r (IsNotTaken store)
  not_taken_told {S = S} r x is given = subst (λ (q : Result S Refusal). IfErr q (IsNotTaken store)) (sym (raised r (of_store x) given)) (not_taken x is)

-- other refusals don't come
module _ {T : Type 0} (store : Holding mail) (r : Result T Refusal) (x : Refusal) (given : IsErrAnd r (λ refusal. refusal ≡ x)) (why : IsNotTaken store x) where
  pub untaken_already : r ≡ Err refusals.Already → ⊥
  untaken_already is = let same : x ≡ refusals.Already = cc (raised r x given, is) in subst (IsNotTaken store) same why

  pub untaken_input : r ≡ Err refusals.Input → ⊥
  untaken_input is = let same : x ≡ refusals.Input = cc (raised r x given, is) in subst (IsNotTaken store) same why

-- the side that is the journal has one generation
pub same_generation : (s t : Side) (v w : Version) (g h : ℕ) (files : Files) → IsPresent s v g files → IsPresent t w h files → g ≡ h
same_generation Left Left v w g h files p q = one_generation v w g h files.left p.set_up q.set_up
same_generation Right Right v w g h files p q = one_generation v w g h files.right p.set_up q.set_up
same_generation Left Right v w g h files p q = let x = p.newer w h q.set_up in let y = q.newer v g p.set_up in absurd (omega (arith, x, y))
same_generation Right Left v w g h files p q = let x = p.newer w h q.set_up in let y = q.newer v g p.set_up in absurd (omega (arith, x, y))

-- A store that was opened on the files, and isn't taken over: so it is with the book that they hold.
module _ (store : Holding mail) (m : Moment) (seen files : Files) (left : IsAsLeft mail store m seen) (same : seen ≡ files) where
  abbrev holds : HasBook mail store.book files
  holds = opened_book store m seen files left same

  pub not_taken_read : (x : Refusal) → IsNotTaken store x → IsNotTakenAs holds.version holds.holds.generation store.book x
  not_taken_read x why =
      let there = subst (λ (f : Files). IsPresent store.journal.side store.journal.version store.journal.generation f) same left.still.present in
      let generation = same_generation holds.holds.side store.journal.side holds.version store.journal.version holds.holds.generation store.journal.generation
      files holds.holds.present there in
      subst (λ (g : ℕ). IsNotTakenAs store.journal.version g store.book x) (sym generation) why

  -- its journal ends behind an event more, once it is taken over
  module _ (later : Holding mail) (taken : later ≡ taken_over store) (book : later.book ≡ store.book) (event : Event) where
    pub end_taken : end_behind holds event ≡ end_after event later
    end_taken = by_version (written_or_first store.journal.version)
      where
        by_version : (store.journal.version ≡ version_written) ⊎ (store.journal.version ≡ First) → end_behind holds event ≡ end_after event later
        by_version (inl written) =
            let end = ap (λ (v : Version). end_written v left.bodies store.book) written in
            let place = ap (λ (h : Holding mail). h.journal.place) (taken_same store later taken written) in
            omega (arith, end, place, (up_to_here left.bodies store.journal m seen left.still).there)
        by_version (inr first) =
            let end = ap (λ (v : Version). end_written v left.bodies store.book) first in
            let place : later.journal.place ≡ restated_end store.book - 1 = ap (λ (j : Standing). j.place) (taken_anew store later taken first) in
            omega (arith, end, place)

-- what it leaves where it isn't taken over
module _ (k : Course) (store : Holding mail) (m : Moment) (seen : Files) (left : IsAsLeft mail store m seen) (same : seen ≡ k.seen)
    (within : Within k.old.now m) where
  pub stays_read : k.new.now ≡ m → k.seen_after ≡ seen → Stays k store.book
  stays_read now reads = record {
    holds = opened_book store m seen k.seen left same;
    leaves = subst (λ (n : Moment). HasBooks mail (Firm (Some store.book)) n) (sym now) (only_left mail store m seen left);
    reads = reads ∙ same;
  }

  pub keeps_read : k.new.now ≡ m → k.seen_after ≡ seen → Keeps k
  keeps_read now reads = record { leaves = subst (λ (n : Moment). Within k.old.now n) (sym now) within; reads = reads ∙ same }

  pub unready_taken : (x : Refusal) → IsNotTaken store x → LeavesRead k.old.now k.seen k.new.now →
      ((x ≡ refusals.Disk → ⊥) → (k.new.now ≡ m) × (k.seen_after ≡ seen)) → IsUnready k x
  unfolding stays_read
  unready_taken refusals.Memory why leaves stays = let all = stays (λ e. cc e) in keeps_read all.0 all.1
  unready_taken refusals.Disk why leaves stays = leaves
  unready_taken (refusals.Full end) why leaves stays =
      let all = stays (λ e. cc e) in
      record {
        book = store.book;
        stays = stays_read all.0 all.1;
        limit = not_taken_read store m seen k.seen left same (refusals.Full end) why;
      }
  unready_taken refusals.Generation why leaves stays =
      let all = stays (λ e. cc e) in
      record {
        book = store.book;
        stays = stays_read all.0 all.1;
        limit = not_taken_read store m seen k.seen left same refusals.Generation why;
      }
  unready_taken refusals.Input why leaves stays = absurd why
  unready_taken refusals.Already why leaves stays = absurd why
  unready_taken (refusals.NotAJournal place) why leaves stays = absurd why
  unready_taken (refusals.Reason reason) why leaves stays = absurd why
  unready_taken refusals.Actions why leaves stays = absurd why

  -- what becomes of an action that is asked for
  pub untaken_act : (wanted : Wanted) (x : Refusal) → IsFree wanted store.book → IsNotTaken store x → MayBeLeft (Act wanted) k.old.now k.seen k.new.now →
      ((x ≡ refusals.Disk → ⊥) → (k.new.now ≡ m) × (k.seen_after ≡ seen)) → EndsAct wanted k (status_of_refusal x) (text_of_refusal x)
  unfolding stays_read
  untaken_act wanted refusals.Memory free why leaves stays =
      let all = stays (λ e. cc e) in inl (record { keeps = keeps_read all.0 all.1; text_is = refl })
  untaken_act wanted refusals.Disk free why leaves stays = record { leaves = leaves; text_is = refl }
  untaken_act wanted (refusals.Full end) free why leaves stays =
      let all = stays (λ e. cc e) in
      record {
        book = store.book;
        free = free;
        past = inr (record {
          stays = stays_read all.0 all.1;
          refusal = refusals.Full end;
          limit = not_taken_read store m seen k.seen left same (refusals.Full end) why;
          is_limit = refl;
          text_is = refl;
        });
      }
  untaken_act wanted refusals.Generation free why leaves stays =
      let all = stays (λ e. cc e) in
      record {
        book = store.book;
        free = free;
        past = inr (record {
          stays = stays_read all.0 all.1;
          refusal = refusals.Generation;
          limit = not_taken_read store m seen k.seen left same refusals.Generation why;
          is_limit = refl;
          text_is = refl;
        });
      }
  untaken_act wanted refusals.Input free why leaves stays = absurd why
  untaken_act wanted refusals.Already free why leaves stays = absurd why
  untaken_act wanted (refusals.NotAJournal place) free why leaves stays = absurd why
  untaken_act wanted (refusals.Reason reason) free why leaves stays = absurd why
  untaken_act wanted refusals.Actions free why leaves stays = absurd why

  -- and where it is taken over
  pub stays_taken : (later : Holding mail) → later.book ≡ store.book → later.journal.version ≡ version_written →
      IsAsLeft mail later k.new.now k.seen_after → (store.journal.version ≡ version_written → k.seen_after ≡ seen) →
      (s : StaysWritten k store.book) × (s.holds ≡ opened_book store m seen k.seen left same)
  stays_taken later book written stands reads =
      let there = opened_book later k.new.now k.seen_after k.seen_after stands refl in (
        record {
          holds = opened_book store m seen k.seen left same;
          leaves = subst (λ (b : Meaning). HasBooks mail (Firm (Some b)) k.new.now) book (only_left mail later k.new.now k.seen_after stands);
          reads = λ is. reads is ∙ same;
          after = record {
            version = later.journal.version;
            bodies = there.bodies;
            holds = there.holds;
            make = subst (λ (b : Meaning). Make mail later.journal.version there.bodies (Some b)) book there.make;
          };
          written = written;
        },
        refl,
      )

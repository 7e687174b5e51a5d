-- A book that is told anew stays, at each moment.
use Rattle.std.proofs.Common.{◌≡◌, ◌+◌, ◌-◌, ◌≤◌, ◌<◌, inl, refl, sym, ◌∙◌, ap, subst, arith, true, false, length, List, ℕ, Some, Result, Ok, OnOk}
use Rattle.world_traits.specs.Files.{Files}
use Rattle.world_traits.specs.Moments.{Moment, Clock, Only, Since}
use Rattle.world_traits.proofs.Passing.{since_weaker}
use Rattle.journal_core.specs.Sides.{version_written}
use Rattle.journal_core.specs.Gates.{Remains}
use Rattle.journal_core.specs.Creating.{end_of}
use Rattle.journal_core.specs.Holds.{Holds}
use Rattle.journal_core.specs.Records.{records}
use Rattle.journal_core.specs.declared.turning.TurnFault.{TurnFault}
use Rattle.journal_core.specs.declared.turning.TurnFault.TheVariants as turning
use Rattle.journal_core.specs.declared.version.Version.{Version}
use Rattle.journal_core.specs.declared.version.Version.TheVariants.{First, Second}
use Rattle.action_queue.specs.declared.rule.Version.TheVariants as rules
use Rattle.action_queue.proofs.AnewStays.{well_in_second}
use Rattle.journal_core.specs.Standing.{Standing, IsStill}
use Rattle.journal_core.specs.Turning.{Turns, turned}
use Rattle.journal_core.proofs.Remaining.{passes_one}
use Rattle.action_queue.specs.Book.{Meaning}
use Rattle.action_queue.specs.Restating.{IsWellBook}
use Rattle.record_codec.specs.Restated.{restated_end}
use Rattle.store_core.specs.Keeping.{Keeping}
use Rattle.store_core.specs.Mail.{mail, rules_of}
use Rattle.store_core.specs.Anew.{Restates, told_on}
use Rattle.store_core.specs.Books.{Make, HasBook}
use Rattle.store_core.specs.Steps.{Firm}
use Rattle.store_core.specs.Holding.{Holding, IsAsLeft}
use Rattle.store_core.specs.Taking.{HasBooks, ChoosesStep}
use Rattle.store_core.specs.HeldActions.{KeepsActions}
use Rattle.store_core.specs.Faults.{of_turning}
use Rattle.store_core.specs.declared.fault.StoreFault.{StoreFault}
use Rattle.store_core.specs.declared.fault.StoreFault.TheVariants as faults
use Rattle.world_traits.specs.Files.{other}
use Rattle.store_core.proofs.Holds.{has_in, holds_as}
use Rattle.store_core.proofs.Restated.{restates_end, restates_makes}

module _ (K : Keeping) (now : Holding K) (bodies : List (List ℕ)) (make : Make K version_written bodies (Some now.book)) (k l : Clock) (f g : Files)
    (left : IsAsLeft K now k.now f) (store : Holding K) (same : store ≡ now) {T E : Type 0} (later : Standing) (r : Result T E)
    (t : Turns store.journal later bodies k l f g r) where
  here : Turns now.journal later bodies k l f g r
  here = subst (λ (s : Holding K). Turns s.journal later bodies k l f g r) same t

  pub book_stays : Since (Only (HasBook K now.book)) (Remains (HasBook K now.book)) k l
  book_stays = passes_one (Holds now.journal.version left.bodies) (Holds version_written bodies) (HasBook K now.book)
      (λ files h. record { version = now.journal.version; bodies = left.bodies; holds = h; make = left.make })
      (λ files h. record { version = version_written; bodies = bodies; holds = h; make = make }) k l (here.passing left.bodies left.still)

  pub left_told : (x : T) → r ≡ Ok x → (book : K.Book) → book ≡ now.book → later.version ≡ version_written → later.all_read ≡ true →
      IsAsLeft K (record { journal = later; book = book }) l.now g
  left_told x ok book same_book version read = record {
    bodies = bodies;
    make = subst (λ (b : K.Book). Make K later.version bodies (Some b)) (sym same_book)
        (subst (λ (v : Version). Make K v bodies (Some now.book)) (sym version) make);
    still = subst (λ (q : Result T E). OnOk q (IsStill later bodies l.now g)) ok (here.done left.bodies left.still);
    all_read = read;
  }

  pub stays_steps : Since (HasBooks K (Firm (Some now.book))) (ChoosesStep K) k l
  stays_steps = since_weaker (Only (HasBook K now.book)) (HasBooks K (Firm (Some now.book))) (Remains (HasBook K now.book)) (ChoosesStep K)
      (λ m p. p)
      (λ m n s. record { old = Firm (Some now.book); new = Firm (Some now.book); at_old = s.at_from; at_new = s.at_to; step = inl refl; outside = s.outside })
      k l book_stays

-- a step that leaves the book keeps its actions
remains_keeps : (b : Meaning) (m n : Moment) → Remains (HasBook mail b) m n → KeepsActions m n
remains_keeps b m n s = record {
  held = λ place action named held. record {
    each = λ files h. holds_as place action named b files (has_in place action named b m s.at_from.some held) (s.at_to.each.each files h);
  };
  outside = s.outside;
}

pub stays_held : (b : Meaning) (k l : Clock) → Since (Only (HasBook mail b)) (Remains (HasBook mail b)) k l →
    Since (HasBooks mail (Firm (Some b))) KeepsActions k l
stays_held b k l s = since_weaker (Only (HasBook mail b)) (HasBooks mail (Firm (Some b))) (Remains (HasBook mail b)) KeepsActions
    (λ m p. p) (λ m n t. remains_keeps b m n t) k l s

-- the bodies make the book that the store keeps
pub makes_now : (store now : Holding mail) → store ≡ now → IsWellBook (rules_of version_written) store.book → (bodies : List (List ℕ)) →
    Restates now.book bodies → Make mail version_written bodies (Some now.book)
makes_now store now same well bodies tells =
    restates_makes version_written now.book bodies (subst (λ (s : Holding mail). IsWellBook (rules_of version_written) s.book) same well) tells

-- the journal behind the bodies that tell a book
pub turned_on : (b : Meaning) (bodies : List (List ℕ)) (j now : Standing) → j ≡ now → Restates b bodies → turned bodies j ≡ told_on (restated_end b) now
turned_on b bodies j now same tells =
    let end = restates_end b bodies tells in
    let place : 13 + length (records bodies) ≡ restated_end b - 1 = omega (arith, end) in
    ap (λ (i : Standing). turned bodies i) same ∙ ap (on now) place
  where
    on : Standing → ℕ → Standing
    on i place = record {
      side = other i.side;
      version = version_written;
      generation = i.generation + 1;
      place = place;
      all_read = true;
      failed = false;
    }

-- where the bodies have room a turn fails for the disk alone
pub fails_for_disk : (b : Meaning) (bodies : List (List ℕ)) (x : TurnFault) (fault : StoreFault) → Restates b bodies → restated_end b ≤ 1073741824 →
    ((end wanted : ℕ) → x ≡ turning.Full end wanted → 1073741824 < end_of bodies) → fault ≡ of_turning x → fault ≡ faults.Disk
fails_for_disk b bodies turning.Disk fault tells fits full is = is
fails_for_disk b bodies (turning.Full end wanted) fault tells fits full is = absurd (omega (arith, fits, restates_end b bodies tells, full end wanted refl))

-- whichever version it is of, the book may stand in a journal of the second one
pub well_second : (version : Version) (b : Meaning) → IsWellBook (rules_of version) b → IsWellBook rules.Second b
well_second First b well = well_in_second b well
well_second Second b well = well

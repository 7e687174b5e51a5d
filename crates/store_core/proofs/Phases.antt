-- From the bodies that a journal's call leaves to the books of a store's.
use Rattle.std.proofs.Common.{◌≡◌, inl, inr, true, ℕ, zero, suc, ◌+◌, ◌≤◌, List, [], ◌∷◌, ◌++◌, Option, Some, refl, sym, ◌∙◌, subst, arith, Result, Ok, OnOk}
use Rattle.world_traits.specs.Files.{Files}
use Rattle.world_traits.specs.Moments.{Moment, Clock, AtPhase, GoesOn, Since}
use Rattle.world_traits.proofs.Passing.{since_weaker}
use Rattle.journal_core.specs.declared.version.Version.{Version}
use Rattle.journal_core.specs.Holds.{Holds}
use Rattle.journal_core.specs.Gates.{Passes}
use Rattle.mail_base.specs.Bodies.{IsBody, frame_of}
use Rattle.journal_core.specs.Standing.{Standing, IsStill}
use Rattle.journal_core.specs.Appending.{Appends}
use Rattle.journal_core.proofs.Aside.{passes_as}
use Rattle.action_queue.specs.declared.event.Event.{Event}
use Rattle.action_queue.specs.Book.{Meaning, after}
use Rattle.store_core.specs.Steps.{Firm, Begun}
use Rattle.store_core.specs.Keeping.{Keeping}
use Rattle.store_core.specs.Mail.{mail}
use Rattle.store_core.specs.Books.{Make, HoldsBook}
use Rattle.store_core.specs.Holding.{Holding, IsAsLeft}
use Rattle.store_core.specs.Taking.{TakesStep, IsTaking, Takes}
use Rattle.store_core.specs.HeldActions.{KeepsActions}
use Rattle.store_core.proofs.Folding.{make_more}
use Rattle.store_core.proofs.Holds.{takes_keeps}

-- a step by exact phases is one of those on books
module _ (K : Keeping) (v : Version) (b : Option K.Book) (e : K.Event) (may : K.MayCome v b e) (m n : Moment) (outside : n.outside ≡ m.outside) where
  by_phase : (from to : ℕ) → from ≤ to → to ≤ from + 1 → AtPhase (HoldsBook K b) (HoldsBook K (Some (K.next_book b e))) from m →
      AtPhase (HoldsBook K b) (HoldsBook K (Some (K.next_book b e))) to n → TakesStep K v e m n
  by_phase zero zero le one p q = record { old = Firm b; new = Firm b; at_old = p; at_new = q; step = inl refl; outside = outside }
  by_phase zero (suc zero) le one p q = record {
    old = Firm b;
    new = Begun b (Some (K.next_book b e));
    at_old = p;
    at_new = q;
    step =
        inr (inl (record { book = b; firm = refl; may = may; becomes = refl }));
    outside = outside;
  }
  by_phase zero (suc (suc to)) le one p q = absurd (omega arith)
  by_phase (suc zero) zero le one p q = absurd (omega arith)
  by_phase (suc zero) (suc zero) le one p q = record {
    old = Begun b (Some (K.next_book b e));
    new = Begun b (Some (K.next_book b e));
    at_old =
        p;
    at_new = q;
    step = inl refl;
    outside = outside;
  }
  by_phase (suc zero) (suc (suc to)) le one p q = record {
    old = Begun b (Some (K.next_book b e));
    new =
        Firm (Some (K.next_book b e));
    at_old = p;
    at_new = q;
    step = inr
        (inr (record { before = b; later = Some (K.next_book b e); begun = refl; becomes = refl }));
    outside = outside;
  }
  by_phase (suc (suc from)) zero le one p q = absurd (omega arith)
  by_phase (suc (suc from)) (suc zero) le one p q = absurd (omega arith)
  by_phase (suc (suc from)) (suc (suc to)) le one p q = record {
    old = Firm (Some (K.next_book b e));
    new =
        Firm (Some (K.next_book b e));
    at_old = p;
    at_new = q;
    step = inl refl;
    outside = outside;
  }

pub step_of : (K : Keeping) (v : Version) (b : Option K.Book) (e : K.Event) → K.MayCome v b e → (m n : Moment) →
    GoesOn (HoldsBook K b) (HoldsBook K (Some (K.next_book b e))) m n → TakesStep K v e m n
step_of K v b e may m n s = by_phase K v b e may m n s.outside s.from s.to s.forward s.one s.at_from s.at_to

-- A book that a store keeps, and an event that may come in its journal.
module _ (K : Keeping) (v : Version) (b : K.Book) (e : K.Event) (may : K.MayCome v (Some b) e) (old new : Clock) where
  -- the moments of an append, as books
  pub takes_as : (bodies : List (List ℕ)) (body : List ℕ) → Make K v bodies (Some b) → K.Spelled body e →
      Passes (Holds v bodies) (Holds v (bodies ++ body ∷ [])) old new → Takes K (Some b) e old new
  takes_as bodies body make is p =
      passes_as (Holds v bodies) (Holds v (bodies ++ body ∷ [])) (HoldsBook K (Some b)) (HoldsBook K (Some (K.next_book (Some b) e)))
      (λ files h. record { version = v; bodies = bodies; holds = h; make = make })
      (λ files h. record { version = v; bodies = bodies ++ body ∷ []; holds = h; make = make_more K v bodies (Some b) body e make is may })
      old new p

-- An append of the frame of a body that spells the event to a store's journal, as the store's books.
module _ (K : Keeping) (now : Holding K) (e : K.Event) (may : K.MayCome now.journal.version (Some now.book) e) (body : List ℕ)
    (is : K.Spelled body e) (size : IsBody body) (k l : Clock) (f g : Files) (left : IsAsLeft K now k.now f) (store : Holding K)
    (same : store ≡ now) {T E : Type 0} (later : Standing) (frame : List ℕ) (framed : frame ≡ frame_of body) (r : Result T E)
    (adds : Appends store.journal later frame k l f g r) where
  here : Appends now.journal later frame k l f g r
  here = subst (λ (s : Holding K). Appends s.journal later frame k l f g r) same adds

  pub took : Takes K (Some now.book) e k l
  took = takes_as K now.journal.version now.book e may k l left.bodies body left.make is (here.passing left.bodies body left.still size framed)

  pub left_after : (x : T) → r ≡ Ok x → later.version ≡ now.journal.version → later.all_read ≡ true → (book : K.Book) →
      book ≡ K.next_book (Some now.book) e → IsAsLeft K (record { journal = later; book = book }) l.now g
  left_after x ok version read book becomes = record {
    bodies = left.bodies ++ body ∷ [];
    make = subst (λ (v : Version). Make K v (left.bodies ++ body ∷ []) (Some book)) (sym version)
        (subst (λ (b : K.Book). Make K now.journal.version (left.bodies ++ body ∷ []) (Some b)) (sym becomes)
        (make_more K now.journal.version left.bodies (Some now.book) body e left.make is may));
    still = subst (λ (q : Result T E). OnOk q (IsStill later (left.bodies ++ body ∷ []) l.now g)) ok (here.done left.bodies body left.still size framed);
    all_read = read;
  }

-- The moments of an event, as steps of it.
pub steps_of : (K : Keeping) (v : Version) (b : K.Book) (e : K.Event) → K.MayCome v (Some b) e → (old new : Clock) → Takes K (Some b) e old new →
    Since (IsTaking K (Some b) e) (TakesStep K v e) old new
steps_of K v b e may old new t =
    since_weaker (IsTaking K (Some b) e) (IsTaking K (Some b) e) (GoesOn (HoldsBook K (Some b)) (HoldsBook K (Some (K.next_book (Some b) e))))
    (TakesStep K v e) (λ m p. p) (λ m n s. step_of K v (Some b) e may m n s) old new t

-- those of a mail event, as steps that lose no action
pub held_of : (b : Meaning) (e : Event) (old new : Clock) → Takes mail (Some b) e old new → Since (IsTaking mail (Some b) e) KeepsActions old new
held_of b e old new t =
    since_weaker (IsTaking mail (Some b) e) (IsTaking mail (Some b) e) (GoesOn (HoldsBook mail (Some b)) (HoldsBook mail (Some (after b e)))) KeepsActions
    (λ m p. p) (λ m n s. takes_keeps b e m n s) old new t

-- The disk's half of the joining law: the phases of one event.
use Rattle.std.proofs.Common.{◌≡◌, ℕ, zero, suc, ◌+◌, ◌≤◌, Option, Some, refl, sym, ◌∙◌, subst, arith}
use Rattle.imap_model.specs.Talking.{Peer}
use Rattle.world_traits.specs.Links.{Any}
use Rattle.world_traits.specs.Moments.{Moment, Clock, Since, AtPhase, GoesOn}
use Rattle.world_traits.proofs.Keeping.{disk_keeps}
use Rattle.world_traits.proofs.Passing.{since_weaker}
use Rattle.world_traits.proofs.Traces.{since_carry}
use Rattle.journal_core.specs.declared.version.Version.{Version}
use Rattle.store_core.specs.Keeping.{Keeping}
use Rattle.store_core.specs.Books.{HoldsBook}
use Rattle.store_core.specs.Taking.{IsTaking, Takes}
use Rattle.store_core.specs.Steps.{Books, Firm, Begun}
use Rattle.play_driver.specs.States.{state_of}
use Rattle.play_driver.specs.Machine.{Relation, Machine, Step}
use Rattle.play_driver.specs.Machine.Step.{rests, begins, firm}
use Rattle.play_driver.specs.Joining.{Relates, IsKept, Joined}

-- A relation that holds of the book before an event and of the one after it is kept as the event is recorded.
pub takes_keeps : (K : Keeping) (R : Relation K) (b : Option K.Book) (e : K.Event) (old new : Clock) → R b old.now.outside.server old.now.outside.waiting →
    R (Some (K.next_book b e)) old.now.outside.server old.now.outside.waiting → Takes K b e old new →
    Since (IsKept K R) (GoesOn (HoldsBook K b) (HoldsBook K (Some (K.next_book b e)))) old new
takes_keeps K R b e old new before after takes =
    disk_keeps (HoldsBook K b) (HoldsBook K (Some (K.next_book b e))) (Relates K R) old (λ files h. record { book = b; holds = h; related = before })
    (λ files h. record { book = Some (K.next_book b e); holds = h; related = after }) new takes

module _ (K : Keeping) (M : Machine K) (version : Version) (b : Option K.Book) (e : K.Event) (may : K.MayCome version b e) where
  abbrev Next : Option K.Book
  Next = Some (K.next_book b e)

  -- one step
  module _ (m n : Moment) (permits : M.Permits b e m.outside.server m.outside.waiting) (outside : n.outside ≡ m.outside) where
    -- the outside stays
    beside : (x y : Books K) → Step K M (state_of K x m.outside) (state_of K y m.outside) → Step K M (state_of K x m.outside) (state_of K y n.outside)
    beside x y step = subst (λ (p : Peer). Step K M (state_of K x m.outside) (state_of K y p)) (sym outside) step

    by_phase : (from to : ℕ) → from ≤ to → to ≤ from + 1 → AtPhase (HoldsBook K b) (HoldsBook K Next) from m → AtPhase (HoldsBook K b) (HoldsBook K Next) to n →
        Joined K M m n
    by_phase zero zero le once p q = record { old = Firm b; new = Firm b; at_old = p; at_new = q; step = beside (Firm b) (Firm b) rests }
    by_phase zero (suc zero) le once p q = record {
      old = Firm b;
      new = Begun b Next;
      at_old = p;
      at_new = q;
      step = beside (Firm b) (Begun b Next) (begins version b e refl may permits);
    }
    by_phase zero (suc (suc to)) le once p q = absurd (omega arith)
    by_phase (suc zero) zero le once p q = absurd (omega arith)
    by_phase (suc zero) (suc zero) le once p q = record {
      old = Begun b Next;
      new = Begun b Next;
      at_old = p;
      at_new = q;
      step = beside (Begun b Next) (Begun b Next) rests;
    }
    by_phase (suc zero) (suc (suc to)) le once p q = record {
      old = Begun b Next;
      new = Firm Next;
      at_old = p;
      at_new = q;
      step = beside (Begun b Next) (Firm Next) (firm b Next refl);
    }
    by_phase (suc (suc from)) zero le once p q = absurd (omega arith)
    by_phase (suc (suc from)) (suc zero) le once p q = absurd (omega arith)
    by_phase (suc (suc from)) (suc (suc to)) le once p q = record {
      old = Firm Next;
      new = Firm Next;
      at_old = p;
      at_new = q;
      step = beside (Firm Next) (Firm Next) rests;
    }

  -- and all of a call
  module _ (old : Clock) (permits : M.Permits b e old.now.outside.server old.now.outside.waiting) where
    abbrev Outer : Moment → Type 0
    Outer m = m.outside ≡ old.now.outside

    abbrev Goes : Moment → Moment → Type 0
    Goes = GoesOn (HoldsBook K b) (HoldsBook K Next)

    outer_on : (m n : Moment) → IsTaking K b e n → Goes m n → Outer m → Outer n
    outer_on m n p s same = s.outside ∙ same

    at_peer : (m : Moment) → Outer m → M.Permits b e m.outside.server m.outside.waiting
    at_peer m same = subst (λ (p : Peer). M.Permits b e p.server p.waiting) (sym same) permits

    pub takes_joins : (new : Clock) → Takes K b e old new → Since Any (Joined K M) old new
    takes_joins new takes =
        since_weaker (λ m. IsTaking K b e m × Outer m) Any (λ m n. Outer m × Goes m n) (Joined K M) (λ m p. tt)
        (λ m n s. by_phase m n (at_peer m s.0) s.1.outside s.1.from s.1.to s.1.forward s.1.one s.1.at_from s.1.at_to) old new
        (since_carry (IsTaking K b e) Outer Goes outer_on old refl new takes)

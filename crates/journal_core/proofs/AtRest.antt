-- What the calls of a journal leave has one side at rest, and so has each moment on the way.
use Rattle.std.proofs.Common.{◌≡◌, ◌⊎◌, inl, ⊎_elim, ℕ, List, refl, sym, ◌∙◌, ap, subst, Result}
use Rattle.world_traits.specs.Files.{Files, Stored, other}
use Rattle.world_traits.specs.Moments.{Moment, Clock, Rests, OneSideAtRest, stored}
use Rattle.world_traits.specs.Calls.{Looked, Wrote, Synced}
use Rattle.world_traits.specs.declared.disk.Side.{Side}
use Rattle.world_traits.proofs.Calls.{since_write, since_sync, since_look}
use Rattle.world_traits.proofs.OneSide.{one_at_rest, one_written, one_settled, wrote_there, synced_there}
use Rattle.world_traits.proofs.Passing.{since_start, since_then, since_weaker, stays_now}
use Rattle.world_traits.proofs.Sides.{rests_on}
use Rattle.world_traits.proofs.Traces.{carried_now}
use Rattle.journal_core.specs.OneSide.{SideAtRest, AnyNext, EachOneSide}
use Rattle.journal_core.specs.Reading.{OnlyLooks}
use Rattle.journal_core.specs.Settling.{Settles}

-- after an opening
pub settles_one : (k l : Clock) (seen : Files) → OneSideAtRest k.now → Settles k l seen → OneSideAtRest l.now
settles_one k l seen one settles =
    ⊎_elim (λ (same : l.now ≡ k.now). subst OneSideAtRest (sym same) one) (λ (rests : Rests l.now seen). one_at_rest l.now seen rests)
    (carried_now (λ m. (m ≡ k.now) ⊎ Rests m seen) (λ m. (m ≡ k.now) ⊎ Rests m seen) (λ m n. (n ≡ m) ⊎ Rests n seen) (λ m n p s q. p) k (inl refl) l settles)

-- at each moment of an opening, of calls that only look, and of none
pub settles_each : (k l : Clock) (seen : Files) → OneSideAtRest k.now → Settles k l seen → EachOneSide k l
settles_each k l seen one settles =
    since_weaker (λ m. (m ≡ k.now) ⊎ Rests m seen) OneSideAtRest (λ m n. (n ≡ m) ⊎ Rests n seen) AnyNext
    (λ m p. ⊎_elim (λ (same : m ≡ k.now). subst OneSideAtRest (sym same) one) (λ (rests : Rests m seen). one_at_rest m seen rests) p)
    (λ m n s. tt) k l settles

pub looks_each : (k l : Clock) (f g : Files) → OneSideAtRest k.now → OnlyLooks k l f g → EachOneSide k l
looks_each k l f g one looks =
    since_weaker (λ m. m ≡ k.now) OneSideAtRest (λ m n. n ≡ m) AnyNext (λ m is. subst OneSideAtRest (sym is) one) (λ m n s. tt) k l looks.passing

pub each_none : (k : Clock) → EachOneSide k k
each_none k = since_start OneSideAtRest AnyNext k

-- of one call behind another
pub each_then : (k l n : Clock) → EachOneSide k l → EachOneSide l n → EachOneSide k n
each_then k l n a b = since_then OneSideAtRest AnyNext k l n a b

-- where all was on the disk, each side is at rest
pub rests_side : (side : Side) (m : Moment) (seen : Files) → Rests m seen → SideAtRest side m
rests_side side m seen rests = ap (λ (s : Stored). s.written) (rests_on side m seen rests)

-- and stays so where it is left
pub still_rests : (side : Side) (m n : Moment) → stored side n ≡ stored side m → SideAtRest side m → SideAtRest side n
still_rests side m n same rests = ap (λ (s : Stored). s.written) same ∙ rests

-- calls that come through with one side at rest at each moment, and leave this one so
pub record Through (side : Side) (k l : Clock) : Type 0 where
  pub each : EachOneSide k l
  pub rests : SideAtRest side l.now

module _ (side : Side) where
  pub through_then : (k l n : Clock) → Through (other side) k l → Through (other side) l n → Through (other side) k n
  through_then k l n a b = record { each = each_then k l n a.each b.each; rests = b.rests }

  module _ (k l : Clock) (f g : Files) (rests : SideAtRest (other side) k.now) where
    one : OneSideAtRest k.now
    one = record { side = other side; rests = rests }

    pub through_look : Looked k l f g → Through (other side) k l
    through_look looked = record {
      each = since_look OneSideAtRest AnyNext side k k l f g (each_none k) one tt looked;
      rests = still_rests (other side) k.now l.now (ap (stored (other side)) (stays_now looked.moment)) rests;
    }

    pub through_write : {T E : Type 0} (at : ℕ) (bytes : List ℕ) (r : Result T E) → Wrote side at bytes k l f g r → Through (other side) k l
    through_write at bytes r wrote = record {
      each = since_write OneSideAtRest AnyNext side k k l f g (each_none k) one tt at bytes r wrote (one_written side at bytes k.now rests) tt;
      rests = still_rests (other side) k.now l.now (wrote_there side at bytes k l wrote.moment) rests;
    }

    pub through_sync : {T E : Type 0} (r : Result T E) → Synced side k l f g r → Through (other side) k l
    through_sync r synced = record {
      each = since_sync OneSideAtRest AnyNext side k k l f g (each_none k) one tt r synced (one_settled side _ k.now) tt;
      rests = still_rests (other side) k.now l.now (synced_there side k l f g r synced) rests;
    }

  -- a write and the sync behind it
  pub through_firm : {T U E F : Type 0} (k l n : Clock) (f g h : Files) (at : ℕ) (bytes : List ℕ) (r : Result T E) (s : Result U F) →
      SideAtRest (other side) k.now → Wrote side at bytes k l f g r → Synced side l n g h s → Through (other side) k n
  through_firm k l n f g h at bytes r s rests wrote synced =
      let a = through_write k l f g rests at bytes r wrote in
      through_then k l n a (through_sync l n g h a.rests s synced)

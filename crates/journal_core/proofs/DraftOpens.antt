-- The calls that open the gate of a draft, one after the other.
use Rattle.std.proofs.Common.{◌≡◌, ℕ, List, [], ◌∷◌, ◌++◌, length, refl, sym, ◌∙◌, ap, subst, Result, Ok, Err, OnOk}
use Rattle.world_traits.specs.Files.{Files, clean, touch, file_of, other}
use Rattle.world_traits.specs.Moments.{Moment, Clock, stored, Only, Both, Since, Rests}
use Rattle.world_traits.specs.Calls.{written, settled, Wrote, Synced}
use Rattle.world_traits.specs.declared.disk.Side.{Side}
use Rattle.world_traits.proofs.Passing.{since_start}
use Rattle.world_traits.proofs.Calls.{rests_again, written_state, settled_state, since_write, since_sync}
use Rattle.world_traits.proofs.Sides.{outside_written, outside_settled, stored_there}
use Rattle.journal_core.specs.Gates.{IsOpened, Beside}
use Rattle.journal_core.specs.Drafts.{IsDraft, OpensDraft}
use Rattle.journal_core.proofs.Bytes.{put_gate}
use Rattle.journal_core.proofs.Aside.{At, away, write_at, sync_at}
use Rattle.journal_core.proofs.GateOpens.{P, S, Old, New, old_is_either, new_is_either, old_to_old, begins, stays_begun, firms, shut_clean, at_gate, opened_clean}
use Rattle.journal_core.proofs.DraftWrites.{draft_only}

module _ (side : Side) (others front fresh : List ℕ) (place : ℕ) (next : place ≡ length front) (k0 k1 k2 k3 : Clock) (f0 f1 f2 f3 : Files)
    (d : IsDraft side others front fresh k0.now f0) where
  abbrev pub X : List ℕ
  X = front ++ d.filled.gate ∷ (fresh ++ d.filled.rest)

  abbrev pub Y : List ℕ
  Y = front ++ 1 ∷ (fresh ++ d.filled.rest)

  abbrev pub Q : Moment → Type 0
  Q = P (Old side others front fresh place next) (New side others front fresh place next)

  abbrev pub T : Moment → Moment → Type 0
  T = S (Old side others front fresh place next) (New side others front fresh place next)

  at0 : At side others X (stored side k0.now) k0 f0
  at0 = record { here = record { reads = d.filled.is; stores = refl; others = d.there ∙ ap clean (sym d.same) }; same = d.same }

  old0 : Only (Old side others front fresh place next) k0.now
  old0 = draft_only side others front fresh k0.now f0 d

  old1 : Only (Old side others front fresh place next) (settled side (file_of side f0) k0.now)
  old1 = shut_clean side others front fresh place next d.filled.gate _ d.filled.closed _ (stored_there side _ k0.now ∙ d.there)
      (settled_state side X _ k0 k1 f0 f1 at0.here)

  -- the first sync
  pub exit1 : {V E : Type 0} (r : Result V E) → Synced side k0 k1 f0 f1 r → Since Q T k0 k1
  exit1 r s = since_sync Q T side k0 k0 k1 f0 f1 (since_start Q T k0) (old_is_either _ _ k0.now old0) (old_to_old _ _ k0.now k0.now refl old0 old0) r s
      (old_is_either _ _ _ old1) (old_to_old _ _ k0.now _ (outside_settled side (file_of side f0) k0.now) old0 old1)

  module _ {V E : Type 0} (x : V) (s1 : Synced {T = V} {E = E} side k0 k1 f0 f1 (Ok x)) where
    at1 : At side others X (clean X) k1 f1
    at1 = sync_at side others X _ k0 k1 f0 f1 at0 x s1

    away1 : stored (other side) k1.now ≡ clean others
    away1 = away side others X (clean X) k1 f1 at1

    old1' : Only (Old side others front fresh place next) k1.now
    old1' = shut_clean side others front fresh place next d.filled.gate _ d.filled.closed k1.now away1 at1.here.stores

    begun : Both (Old side others front fresh place next) (New side others front fresh place next) (written side place (1 ∷ []) k1.now)
    begun = at_gate side others front fresh place next d.filled.gate _ d.filled.closed _ (stored_there side _ k1.now ∙ away1)
        (written_state side X (clean X) k1 k2 f1 f2 at1.here place (1 ∷ []))

    -- the gate's write
    pub exit2 : (r : Result V E) → Wrote side place (1 ∷ []) k1 k2 f1 f2 r → Since Q T k0 k2
    exit2 r w = since_write Q T side k0 k1 k2 f1 f2 (exit1 (Ok x) s1) (old_is_either _ _ k1.now old1')
        (old_to_old _ _ k1.now k1.now refl old1' old1') place (1 ∷ []) r w
        begun.each (begins _ _ k1.now _ (outside_written side place (1 ∷ []) k1.now) old1' begun)

    module _ (z : V) (w2 : Wrote {T = V} {E = E} side place (1 ∷ []) k1 k2 f1 f2 (Ok z)) where
      at2 : At side others Y (touch place 1 (clean X)) k2 f2
      at2 = subst (λ (b : List ℕ). At side others b (touch place 1 (clean X)) k2 f2)
          (put_gate front place next d.filled.gate 1 _)
          (write_at side others X (clean X) k1 k2 f1 f2 at1 place (1 ∷ []) z w2)

      away2 : stored (other side) k2.now ≡ clean others
      away2 = away side others Y (touch place 1 (clean X)) k2 f2 at2

      begun' : Both (Old side others front fresh place next) (New side others front fresh place next) k2.now
      begun' = at_gate side others front fresh place next d.filled.gate _ d.filled.closed k2.now away2 at2.here.stores

      new3 : Only (New side others front fresh place next) (settled side (file_of side f2) k2.now)
      new3 = opened_clean side others front fresh place next _ _ (stored_there side _ k2.now ∙ away2) (settled_state side Y _ k2 k3 f2 f3 at2.here)

      -- the last sync
      pub exit3 : (r : Result V E) → Synced side k2 k3 f2 f3 r → Since Q T k0 k3
      exit3 r s = since_sync Q T side k0 k2 k3 f2 f3 (exit2 (Ok z) w2) begun'.each (stays_begun _ _ k2.now k2.now refl begun' begun') r s
          (new_is_either _ _ _ new3) (firms _ _ k2.now _ (outside_settled side (file_of side f2) k2.now) begun' new3)

      pub rests3 : (r : Result V E) → Synced side k2 k3 f2 f3 r → OnOk r (Rests k3.now f3)
      rests3 (Ok u) s = let at3 = sync_at side others Y _ k2 k3 f2 f3 at2 u s in rests_again side Y k3 f3 at3.here
      rests3 (Err e) s = tt

      pub done3 : (r : Result V E) → Synced side k2 k3 f2 f3 r → OnOk r (Beside side others (IsOpened front fresh) f3)
      done3 (Ok u) s = let at3 = sync_at side others Y _ k2 k3 f2 f3 at2 u s in record { here = record { rest = _; is = at3.here.reads }; there = at3.same }
      done3 (Err e) s = tt

at_err : {T E : Type 0} (r : Result T E) (e : E) (Z : Type 0) → r ≡ Err e → OnOk r Z
at_err r e Z is = rw is tt

module _ (side : Side) (others front fresh : List ℕ) (place : ℕ) (next : place ≡ length front) where
  pub opens1 : {V E X F : Type 0} (k0 k1 : Clock) (f0 f1 : Files) → IsDraft side others front fresh k0.now f0 → (r : Result V E) (s : Result X F) (e : F) → s ≡ Err e →
      Synced side k0 k1 f0 f1 r → OpensDraft side others front fresh k0 k1 f1 s
  opens1 k0 k1 f0 f1 d r s e err s1 = record {
    passing = exit1 side others front fresh place next k0 k1 k1 k1 f0 f1 f1 f1 d r s1;
    rests = at_err s e _ err;
    done = at_err s e _ err;
  }

  pub opens2 : {V E X F : Type 0} (k0 k1 k2 : Clock) (f0 f1 f2 : Files) → IsDraft side others front fresh k0.now f0 → (x : V) (r : Result V E) (s : Result X F) (e : F) →
      s ≡ Err e → Synced {T = V} {E = E} side k0 k1 f0 f1 (Ok x) → Wrote side place (1 ∷ []) k1 k2 f1 f2 r → OpensDraft side others front fresh k0 k2 f2 s
  opens2 k0 k1 k2 f0 f1 f2 d x r s e err s1 w2 = record {
    passing = exit2 side others front fresh place next k0 k1 k2 k2 f0 f1 f2 f2 d x s1 r w2;
    rests = at_err s e _ err;
    done = at_err s e _ err;
  }

  pub opens3 : {V E : Type 0} (k0 k1 k2 k3 : Clock) (f0 f1 f2 f3 : Files) → IsDraft side others front fresh k0.now f0 → (x z : V) (r : Result V E) →
      Synced {T = V} {E = E} side k0 k1 f0 f1 (Ok x) → Wrote {T = V} {E = E} side place (1 ∷ []) k1 k2 f1 f2 (Ok z) → Synced side k2 k3 f2 f3 r →
      OpensDraft side others front fresh k0 k3 f3 r
  opens3 k0 k1 k2 k3 f0 f1 f2 f3 d x z r s1 w2 s3 = record {
    passing = exit3 side others front fresh place next k0 k1 k2 k3 f0 f1 f2 f3 d x s1 z w2 r s3;
    rests = rests3 side others front fresh place next k0 k1 k2 k3 f0 f1 f2 f3 d x s1 z w2 r s3;
    done = done3 side others front fresh place next k0 k1 k2 k3 f0 f1 f2 f3 d x s1 z w2 r s3;
  }

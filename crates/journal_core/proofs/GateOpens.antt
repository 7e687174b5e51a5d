-- The four calls that put fresh bytes behind a gate, one after the other.
use Rattle.std.proofs.Common.{◌≡◌, ◌≢◌, ◌⊎◌, inl, inr, ℕ, ◌+◌, List, [], ◌∷◌, ◌++◌, length, get_or, drop, refl, sym, ◌∙◌, subst, arith, Result, Ok, Err, OnOk}
use Rattle.world_traits.specs.Files.{MayHold, Files, clean, touch, file_of, other}
use Rattle.world_traits.specs.Moments.{Moment, Clock, Images, stored, Only, Both, GoesOn, Since, Rests}
use Rattle.world_traits.specs.Calls.{written, settled, Wrote, Synced}
use Rattle.world_traits.specs.declared.disk.Side.{Side}
use Rattle.world_traits.specs.Sound.{holds_clean, holds_put}
use Rattle.world_traits.proofs.Images.{image_clean, image_self}
use Rattle.world_traits.proofs.Passing.{since_start}
use Rattle.world_traits.proofs.Calls.{rests_again, written_state, settled_state, since_write, since_sync}
use Rattle.world_traits.proofs.Sides.{outside_written, outside_settled, stored_there}
use Rattle.journal_core.specs.Gates.{IsShut, IsOpened, Beside}
use Rattle.journal_core.proofs.Bytes.{behind_image, put_behind, gate_image, put_gate, either}
use Rattle.journal_core.proofs.Aside.{only_beside, both_beside, At, away, resting_at, write_at, sync_at}

-- phases, whatever the two kinds of images
module _ (Old New : Files → Type 0) where
  abbrev pub P : Moment → Type 0
  P = Images (λ files. Old files ⊎ New files)

  abbrev pub S : Moment → Moment → Type 0
  S = GoesOn Old New

  pub old_is_either : (m : Moment) → Only Old m → P m
  old_is_either m i = record { each = λ files h. inl (i.each.each files h) }

  pub new_is_either : (m : Moment) → Only New m → P m
  new_is_either m i = record { each = λ files h. inr (i.each.each files h) }

  pub old_to_old : (m n : Moment) → n.outside ≡ m.outside → Only Old m → Only Old n → S m n
  old_to_old m n same a b = record { outside = same; from = 0; to = 0; at_from = a; at_to = b; forward = omega arith; one = omega arith }

  pub begins : (m n : Moment) → n.outside ≡ m.outside → Only Old m → Both Old New n → S m n
  begins m n same a b = record { outside = same; from = 0; to = 1; at_from = a; at_to = b; forward = omega arith; one = omega arith }

  pub stays_begun : (m n : Moment) → n.outside ≡ m.outside → Both Old New m → Both Old New n → S m n
  stays_begun m n same a b = record { outside = same; from = 1; to = 1; at_from = a; at_to = b; forward = omega arith; one = omega arith }

  pub firms : (m n : Moment) → n.outside ≡ m.outside → Both Old New m → Only New n → S m n
  firms m n same a b = record { outside = same; from = 1; to = 2; at_from = a; at_to = b; forward = omega arith; one = omega arith }

module _ (side : Side) (others front fresh : List ℕ) (place : ℕ) (next : place ≡ length front) where
  abbrev pub Old : Files → Type 0
  Old = Beside side others (IsShut front)

  abbrev pub New : Files → Type 0
  New = Beside side others (IsOpened front fresh)

  -- the images of a side whose file is clean, is written behind the gate, or at it
  pub shut_clean : (gate : ℕ) (rest : List ℕ) → gate ≢ 1 → (m : Moment) → stored (other side) m ≡ clean others →
      stored side m ≡ clean (front ++ gate ∷ rest) → Only Old m
  shut_clean gate rest closed m there is = only_beside side others m there (IsShut front) (clean (front ++ gate ∷ rest)) (front ++ gate ∷ rest) is
      (λ b h. record { gate = gate; rest = rest; closed = closed; is = image_clean (front ++ gate ∷ rest) b h })
      (holds_clean (front ++ gate ∷ rest))

  shut_behind : (gate : ℕ) (rest : List ℕ) → gate ≢ 1 → (size : ℕ) (m : Moment) → stored (other side) m ≡ clean others →
      stored side m ≡ touch (place + 1) size (clean (front ++ gate ∷ rest)) → Only Old m
  shut_behind gate rest closed size m there is = only_beside side others m there (IsShut front)
      (touch (place + 1) size (clean (front ++ gate ∷ rest))) (front ++ gate ∷ rest) is
      (λ b h. record { gate = gate; rest = drop (place + 1) b; closed = closed; is = behind_image front place next size gate rest b h })
      (image_self (touch (place + 1) size (clean (front ++ gate ∷ rest))) (omega arith))

  pub at_gate : (gate : ℕ) (tail : List ℕ) → gate ≢ 1 → (m : Moment) → stored (other side) m ≡ clean others →
      stored side m ≡ touch place 1 (clean (front ++ gate ∷ (fresh ++ tail))) → Both Old New m
  at_gate gate tail closed m there is =
      let X = front ++ gate ∷ (fresh ++ tail) in
      let Y = front ++ 1 ∷ (fresh ++ tail) in
      let self : MayHold (touch place 1 (clean X)) X = image_self (touch place 1 (clean X)) (omega arith) in
      let open_there : MayHold (touch place 1 (clean X)) Y =
      subst (λ (b : List ℕ). MayHold (touch place 1 (clean X)) b) (put_gate front place next gate 1 (fresh ++ tail))
      (holds_put (clean X) X place (1 ∷ []) (holds_clean X)) in
      both_beside side others m there (IsShut front) (IsOpened front fresh) (touch place 1 (clean X)) X Y is
      (λ b h. subst (λ (c : List ℕ). IsShut front c ⊎ IsOpened front fresh c) (sym (gate_image front place next gate (fresh ++ tail) b h))
      (either front fresh tail (get_or b place 0)))
      self (record { gate = gate; rest = fresh ++ tail; closed = closed; is = refl })
      open_there (record { rest = tail; is = refl })

  pub opened_clean : (tail : List ℕ) (m : Moment) → stored (other side) m ≡ clean others → stored side m ≡ clean (front ++ 1 ∷ (fresh ++ tail)) → Only New m
  opened_clean tail m there is = only_beside side others m there (IsOpened front fresh) (clean (front ++ 1 ∷ (fresh ++ tail))) (front ++ 1 ∷ (fresh ++ tail)) is
      (λ b h. record { rest = tail; is = image_clean (front ++ 1 ∷ (fresh ++ tail)) b h })
      (holds_clean (front ++ 1 ∷ (fresh ++ tail)))

module _ (side : Side) (front fresh : List ℕ) (place : ℕ) (k0 k1 k2 k3 k4 : Clock) (f0 f1 f2 f3 f4 : Files) (rests : Rests k0.now f0)
    (shut : IsShut front (file_of side f0)) (next : place ≡ length front) where
  abbrev pub others : List ℕ
  others = file_of (other side) f0

  abbrev pub F : List ℕ
  F = front ++ shut.gate ∷ shut.rest

  abbrev pub X : List ℕ
  X = front ++ shut.gate ∷ (fresh ++ drop (place + 1 + length fresh) F)

  abbrev pub Y : List ℕ
  Y = front ++ 1 ∷ (fresh ++ drop (place + 1 + length fresh) F)

  abbrev pub Q : Moment → Type 0
  Q = P (Old side others front fresh place next) (New side others front fresh place next)

  abbrev pub T : Moment → Moment → Type 0
  T = S (Old side others front fresh place next) (New side others front fresh place next)

  at0 : At side others F (clean F) k0 f0
  at0 = resting_at side F k0 f0 rests shut.is

  old0 : Only (Old side others front fresh place next) k0.now
  old0 = shut_clean side others front fresh place next shut.gate shut.rest shut.closed k0.now (away side others F (clean F) k0 f0 at0) at0.here.stores

  old1 : Only (Old side others front fresh place next) (written side (place + 1) fresh k0.now)
  old1 = shut_behind side others front fresh place next shut.gate shut.rest shut.closed (length fresh) _
      (stored_there side _ k0.now ∙ away side others F (clean F) k0 f0 at0)
      (written_state side F (clean F) k0 k1 f0 f1 at0.here (place + 1) fresh)

  -- the first write
  pub exit1 : {V E : Type 0} (r : Result V E) → Wrote side (place + 1) fresh k0 k1 f0 f1 r → Since Q T k0 k1
  exit1 r w = since_write Q T side k0 k0 k1 f0 f1 (since_start Q T k0) (old_is_either _ _ k0.now old0)
      (old_to_old _ _ k0.now k0.now refl old0 old0) (place + 1) fresh r w
      (old_is_either _ _ _ old1) (old_to_old _ _ k0.now _ (outside_written side (place + 1) fresh k0.now) old0 old1)

  module _ {V E : Type 0} (x : V) (w1 : Wrote {T = V} {E = E} side (place + 1) fresh k0 k1 f0 f1 (Ok x)) where
    at1 : At side others X (touch (place + 1) (length fresh) (clean F)) k1 f1
    at1 = subst (λ (b : List ℕ). At side others b (touch (place + 1) (length fresh) (clean F)) k1 f1)
        (put_behind front place next shut.gate shut.rest fresh)
        (write_at side others F (clean F) k0 k1 f0 f1 at0 (place + 1) fresh x w1)

    away1 : stored (other side) k1.now ≡ clean others
    away1 = away side others X (touch (place + 1) (length fresh) (clean F)) k1 f1 at1

    old1' : Only (Old side others front fresh place next) k1.now
    old1' = shut_behind side others front fresh place next shut.gate shut.rest shut.closed (length fresh) k1.now away1 at1.here.stores

    old2 : Only (Old side others front fresh place next) (settled side (file_of side f1) k1.now)
    old2 = shut_clean side others front fresh place next shut.gate _ shut.closed _ (stored_there side _ k1.now ∙ away1)
        (settled_state side X _ k1 k2 f1 f2 at1.here)

    -- the first sync
    pub exit2 : (r : Result V E) → Synced side k1 k2 f1 f2 r → Since Q T k0 k2
    exit2 r s = since_sync Q T side k0 k1 k2 f1 f2 (exit1 (Ok x) w1) (old_is_either _ _ k1.now old1') (old_to_old _ _ k1.now k1.now refl old1' old1') r s
        (old_is_either _ _ _ old2) (old_to_old _ _ k1.now _ (outside_settled side (file_of side f1) k1.now) old1' old2)

    module _ (y : V) (s1 : Synced {T = V} {E = E} side k1 k2 f1 f2 (Ok y)) where
      at2 : At side others X (clean X) k2 f2
      at2 = sync_at side others X _ k1 k2 f1 f2 at1 y s1

      away2 : stored (other side) k2.now ≡ clean others
      away2 = away side others X (clean X) k2 f2 at2

      old2' : Only (Old side others front fresh place next) k2.now
      old2' = shut_clean side others front fresh place next shut.gate _ shut.closed k2.now away2 at2.here.stores

      begun : Both (Old side others front fresh place next) (New side others front fresh place next) (written side place (1 ∷ []) k2.now)
      begun = at_gate side others front fresh place next shut.gate _ shut.closed _ (stored_there side _ k2.now ∙ away2)
          (written_state side X (clean X) k2 k3 f2 f3 at2.here place (1 ∷ []))

      -- the gate's write
      pub exit3 : (r : Result V E) → Wrote side place (1 ∷ []) k2 k3 f2 f3 r → Since Q T k0 k3
      exit3 r w = since_write Q T side k0 k2 k3 f2 f3 (exit2 (Ok y) s1) (old_is_either _ _ k2.now old2')
          (old_to_old _ _ k2.now k2.now refl old2' old2') place (1 ∷ []) r w
          begun.each (begins _ _ k2.now _ (outside_written side place (1 ∷ []) k2.now) old2' begun)

      module _ (z : V) (w2 : Wrote {T = V} {E = E} side place (1 ∷ []) k2 k3 f2 f3 (Ok z)) where
        at3 : At side others Y (touch place 1 (clean X)) k3 f3
        at3 = subst (λ (b : List ℕ). At side others b (touch place 1 (clean X)) k3 f3)
            (put_gate front place next shut.gate 1 _)
            (write_at side others X (clean X) k2 k3 f2 f3 at2 place (1 ∷ []) z w2)

        away3 : stored (other side) k3.now ≡ clean others
        away3 = away side others Y (touch place 1 (clean X)) k3 f3 at3

        begun' : Both (Old side others front fresh place next) (New side others front fresh place next) k3.now
        begun' = at_gate side others front fresh place next shut.gate _ shut.closed k3.now away3 at3.here.stores

        new4 : Only (New side others front fresh place next) (settled side (file_of side f3) k3.now)
        new4 = opened_clean side others front fresh place next _ _ (stored_there side _ k3.now ∙ away3) (settled_state side Y _ k3 k4 f3 f4 at3.here)

        -- the last sync
        pub exit4 : (r : Result V E) → Synced side k3 k4 f3 f4 r → Since Q T k0 k4
        exit4 r s = since_sync Q T side k0 k3 k4 f3 f4 (exit3 (Ok z) w2) begun'.each (stays_begun _ _ k3.now k3.now refl begun' begun') r s
            (new_is_either _ _ _ new4) (firms _ _ k3.now _ (outside_settled side (file_of side f3) k3.now) begun' new4)

        pub rests4 : (r : Result V E) → Synced side k3 k4 f3 f4 r → OnOk r (Rests k4.now f4)
        rests4 (Ok u) s = let at4 = sync_at side others Y _ k3 k4 f3 f4 at3 u s in rests_again side Y k4 f4 at4.here
        rests4 (Err e) s = tt

        pub done4 : (r : Result V E) → Synced side k3 k4 f3 f4 r → OnOk r (Beside side others (IsOpened front fresh) f4)
        done4 (Ok u) s = let at4 = sync_at side others Y _ k3 k4 f3 f4 at3 u s in record { here = record { rest = _; is = at4.here.reads }; there = at4.same }
        done4 (Err e) s = tt

-- The head gate is closed, and a side is set up behind it.
use Rattle.std.proofs.Common.{◌≡◌, ◌≢◌, ◌⊎◌, inl, inr, ⊎_elim, ℕ, ◌-◌, ◌<◌, min, List, [], ◌∷◌, ◌++◌, length, get_or, take, drop}
use Rattle.std.proofs.Common.{replicate, slice_index, refl, sym, ◌∙◌, ap, subst, arith, append_assoc, get_or-take, Result, Ok, Err, OnOk}
use Rattle.std.proofs.lemmas.List.{drop_more}
use Rattle.std.proofs.lemmas.Bool.{cases_eq}
use Rattle.world_traits.specs.Files.{MayHold, Files, clean, touch, put, file_of, other}
use Rattle.world_traits.specs.Moments.{Moment, Clock, stored, Only, Since, Rests}
use Rattle.world_traits.specs.Calls.{written, settled, Looked, Wrote, Synced}
use Rattle.world_traits.specs.declared.disk.Side.{Side}
use Rattle.world_traits.specs.Sound.{holds_clean}
use Rattle.world_traits.proofs.Images.{image_clean, image_self}
use Rattle.world_traits.proofs.Passing.{since_start, since_then}
use Rattle.world_traits.proofs.Calls.{SideAt, at_rest, rests_again, written_state, settled_state, since_write, since_sync, since_look}
use Rattle.world_traits.proofs.Sides.{outside_written, outside_settled, stored_there}
use Rattle.journal_core.specs.declared.version.Version.{Version}
use Rattle.journal_core.specs.Records.{records}
use Rattle.journal_core.specs.Sides.{head_of, header_of, IsBegun}
use Rattle.journal_core.specs.Gates.{IsShut, IsOpened, Beside, OpensGate, Passes, Remains}
use Rattle.journal_core.specs.Creating.{AsBefore, set_up_bytes, SetsUp, ClosesHead}
use Rattle.journal_core.proofs.Bytes.{gate_image}
use Rattle.journal_core.proofs.Aside.{only_beside, At, away, resting_at, write_at, sync_at, passes_as}
use Rattle.journal_core.proofs.Remaining.{remains, stay_passes}
use Rattle.journal_core.proofs.Looking.{looks, rests_look}

at_err : {T E : Type 0} (r : Result T E) (e : E) (Q : Type 0) → r ≡ Err e → OnOk r Q
at_err r e Q is = rw is tt

pub shut_gate : (gate : ℕ) (rest bytes : List ℕ) → gate ≢ 1 → bytes ≡ gate ∷ rest → IsBegun bytes → ⊥
shut_gate gate rest bytes shut is b = shut (sym (ap (λ (l : List ℕ). slice_index l 0) is) ∙ b.open_gate)

-- a byte 0 put at place 0
zero_first : (before : List ℕ) → put 0 (0 ∷ []) before ≡ 0 ∷ drop 1 before
zero_first before =
    let none : 0 - length before ≡ 0 = omega arith in
    ap (λ (n : ℕ). take 0 before ++ replicate {A = ℕ} n 0 ++ 0 ∷ [] ++ drop 1 before) none

-- what a side to be closed is: too short, or with an open gate
abbrev pub IsToClose : List ℕ → Type 0
IsToClose before = (length before < 14) ⊎ ((0 < length before) × (get_or before 0 0 ≡ 1))

-- while the byte is written
closing : (before bytes : List ℕ) → IsToClose before → MayHold (touch 0 1 (clean before)) bytes → AsBefore before bytes
closing before bytes (inl few) h =
    let le = h.no_longer in
    inr (λ (b : IsBegun bytes). absurd (omega (arith, few, le, b.long)))
closing before bytes (inr o) h =
    let split : before ≡ get_or before 0 0 ∷ drop 1 before = drop_more before 0 0 o.0 in
    let held : MayHold (touch 0 1 (clean ([] ++ get_or before 0 0 ∷ drop 1 before))) bytes =
    subst (λ (l : List ℕ). MayHold (touch 0 1 (clean l)) bytes) split h in
    let is = gate_image [] 0 refl (get_or before 0 0) (drop 1 before) bytes held in
    ⊎_elim
    (λ (one : get_or bytes 0 0 ≡ 1). inl (is ∙ ap (λ (x : ℕ). x ∷ drop 1 before) (one ∙ sym o.1) ∙ sym split))
    (λ (shut : get_or bytes 0 0 ≢ 1). inr (shut_gate (get_or bytes 0 0) (drop 1 before) bytes shut is))
    (cases_eq (get_or bytes 0 0) 1)

module _ (side : Side) (k0 : Clock) (f0 : Files) (rests : Rests k0.now f0) where
  abbrev pub others : List ℕ
  others = file_of (other side) f0

  abbrev pub before : List ℕ
  before = file_of side f0

  abbrev pub B : Files → Type 0
  B = Beside side others (AsBefore before)

  abbrev pub To : Moment → Moment → Type 0
  To = Remains B

  at0 : At side others before (clean before) k0 f0
  at0 = resting_at side before k0 f0 rests refl

  only0 : Only B k0.now
  only0 = only_beside side others k0.now (away side others before (clean before) k0 f0 at0) (AsBefore before) (clean before) before at0.here.stores
      (λ b h. inl (image_clean before b h)) (holds_clean before)

  same : (m : Moment) → Only B m → To m m
  same m o = remains B m m refl o o

  pub close_look : (k1 : Clock) (f1 : Files) → Looked k0 k1 f0 f1 → Since (Only B) To k0 k1
  close_look k1 f1 l = since_look (Only B) To side k0 k0 k1 f0 f1 (since_start (Only B) To k0) only0 (same k0.now only0) l

  module _ (close : IsToClose (file_of side f0)) where
    abbrev pub zeroed : List ℕ
    zeroed = 0 ∷ drop 1 (file_of side f0)

    touched_only : (m : Moment) → stored (other side) m ≡ clean others → stored side m ≡ touch 0 1 (clean before) → Only B m
    touched_only m there is = only_beside side others m there (AsBefore before) (touch 0 1 (clean before)) before is
        (λ b h. closing before b close h) (image_self (touch 0 1 (clean before)) (omega arith))

    zeroed_only : (m : Moment) → stored (other side) m ≡ clean others → stored side m ≡ clean zeroed → Only B m
    zeroed_only m there is = only_beside side others m there (AsBefore before) (clean zeroed) zeroed is
        (λ b h. inr (shut_gate 0 (drop 1 before) b (λ e. cc) (image_clean zeroed b h))) (holds_clean zeroed)

    -- after calls that only looked
    module _ (k1 k2 k3 : Clock) (f1 f2 f3 : Files) (l1 : Looked k0 k1 f0 f1) where
      at1 : At side others before (clean before) k1 f1
      at1 = record {
        here = subst (λ (b : List ℕ). SideAt side b (clean b) k1 f1) (ap (file_of side) l1.seen_same)
            (at_rest side k1 f1 (rests_look k0 k1 f0 f1 rests (looks k0 k1 f0 f1 l1)));
        same = ap (file_of (other side)) l1.seen_same;
      }

      only1 : Only B k1.now
      only1 = only_beside side others k1.now (away side others before (clean before) k1 f1 at1) (AsBefore before) (clean before) before at1.here.stores
          (λ b h. inl (image_clean before b h)) (holds_clean before)

      pub close_write : {V E : Type 0} (r : Result V E) → Wrote side 0 (0 ∷ []) k1 k2 f1 f2 r → Since (Only B) To k0 k2
      close_write r w =
          let there = touched_only (written side 0 (0 ∷ []) k1.now) (stored_there side _ k1.now
          ∙ away side others before (clean before) k1 f1 at1) (written_state side before (clean before) k1 k2 f1 f2 at1.here 0
          (0 ∷ [])) in
          since_write (Only B) To side k0 k1 k2 f1 f2 (close_look k1 f1 l1) only1 (same k1.now only1) 0 (0 ∷ []) r w there
          (remains B k1.now _ (outside_written side 0 (0 ∷ []) k1.now) only1 there)

      module _ {V E : Type 0} (x : V) (w : Wrote {T = V} {E = E} side 0 (0 ∷ []) k1 k2 f1 f2 (Ok x)) where
        at2 : At side others zeroed (touch 0 1 (clean before)) k2 f2
        at2 = subst (λ (b : List ℕ). At side others b (touch 0 1 (clean before)) k2 f2) (zero_first before)
            (write_at side others before (clean before) k1 k2 f1 f2 at1 0 (0 ∷ []) x w)

        away2 : stored (other side) k2.now ≡ clean others
        away2 = away side others zeroed (touch 0 1 (clean before)) k2 f2 at2

        only2 : Only B k2.now
        only2 = touched_only k2.now away2 at2.here.stores

        pub close_sync : (r : Result V E) → Synced side k2 k3 f2 f3 r → Since (Only B) To k0 k3
        close_sync r s =
            let there = zeroed_only (settled side (file_of side f2) k2.now) (stored_there side _ k2.now ∙ away2)
            (settled_state side zeroed _ k2 k3 f2 f3 at2.here) in
            since_sync (Only B) To side k0 k2 k3 f2 f3 (close_write (Ok x) w) only2 (same k2.now only2) r s there
            (remains B k2.now _ (outside_settled side (file_of side f2) k2.now) only2 there)

        pub close_rests : (r : Result V E) → Synced side k2 k3 f2 f3 r → OnOk r (Rests k3.now f3)
        close_rests (Ok y) s = rests_again side zeroed k3 f3 (sync_at side others zeroed _ k2 k3 f2 f3 at2 y s).here
        close_rests (Err e) s = tt

        pub close_done : (r : Result V E) → Synced side k2 k3 f2 f3 r → OnOk r (Beside side others (IsShut []) f3)
        close_done (Ok y) s = let at3 = sync_at side others zeroed _ k2 k3 f2 f3 at2 y s in
            record { here = record { gate = 0; rest = drop 1 before; closed = λ e. cc; is = at3.here.reads }; there = at3.same }
        close_done (Err e) s = tt

-- what a read of the first 14 bytes says
module _ (n : ℕ) (file into : List ℕ) (all : n ≡ min 14 (length file - 0)) (same_bytes : take n into ≡ take n file) where
  first_byte : 0 < n → get_or into 0 0 ≡ get_or file 0 0
  first_byte lt = sym (get_or-take n into 0 0 lt) ∙ ap (λ (l : List ℕ). get_or l 0 0) same_bytes ∙ get_or-take n file 0 0 lt

  pub is_shut : n ≡ 14 → get_or into 0 0 ≢ 1 → IsShut [] file
  is_shut full shut = record {
    gate = get_or file 0 0;
    rest = drop 1 file;
    closed = λ e. shut (first_byte (omega (arith, full)) ∙ e);
    is = drop_more file 0 0 (omega (arith, full, all));
  }

  pub few_to_close : n ≢ 14 → IsToClose file
  few_to_close few = inl (omega (arith, few, all))

  pub open_to_close : n ≡ 14 → get_or into 0 0 ≡ 1 → IsToClose file
  open_to_close full one = inr (omega (arith, full, all), sym (first_byte (omega (arith, full))) ∙ one)

-- what closing owes at each exit
module _ (side : Side) where
  pub closed_looked : {X F : Type 0} (k0 k1 : Clock) (f0 f1 : Files) (s : Result X F) (e : F) → s ≡ Err e → Looked k0 k1 f0 f1 → ClosesHead side k0 k1 f0 f1 s
  closed_looked k0 k1 f0 f1 s e is l = record {
    passing = λ rests. close_look side k0 f0 rests k1 f1 l;
    rests = λ rests. at_err s e _ is;
    done = λ rests. at_err s e _ is;
  }

  pub closed_already : {X F : Type 0} (k0 k1 : Clock) (f0 f1 : Files) (x : X) → Looked k0 k1 f0 f1 → IsShut [] (file_of side f0) →
      ClosesHead {E = F} side k0 k1 f0 f1 (Ok x)
  closed_already k0 k1 f0 f1 x l shut = record {
    passing = λ rests. close_look side k0 f0 rests k1 f1 l;
    rests = λ rests. rests_look k0 k1 f0 f1 rests (looks k0 k1 f0 f1 l);
    done = λ rests. record { here = subst (λ (f : Files). IsShut [] (file_of side f)) (sym l.seen_same) shut; there = ap (file_of (other side)) l.seen_same };
  }

  pub closed_unwritten : {V E X F : Type 0} (k0 k1 k2 : Clock) (f0 f1 f2 : Files) (r : Result V E) (s : Result X F) (e : F) → s ≡ Err e →
      Looked k0 k1 f0 f1 → IsToClose (file_of side f0) → Wrote side 0 (0 ∷ []) k1 k2 f1 f2 r → ClosesHead side k0 k2 f0 f2 s
  closed_unwritten k0 k1 k2 f0 f1 f2 r s e is l close w = record {
    passing = λ rests. close_write side k0 f0 rests close k1 k2 k2 f1 f2 f2 l r w;
    rests = λ rests. at_err s e _ is;
    done = λ rests. at_err s e _ is;
  }

pub closed_synced : {V E : Type 0} (side : Side) (k0 k1 k2 k3 : Clock) (f0 f1 f2 f3 : Files) (x : V) (r : Result V E) →
    Looked k0 k1 f0 f1 → IsToClose (file_of side f0) → Wrote {T = V} {E = E} side 0 (0 ∷ []) k1 k2 f1 f2 (Ok x) →
    Synced side k2 k3 f2 f3 r → ClosesHead side k0 k3 f0 f3 r
closed_synced side k0 k1 k2 k3 f0 f1 f2 f3 x r l close w s = record {
  passing = λ rests. close_sync side k0 f0 rests close k1 k2 k3 f1 f2 f3 l x w r s;
  rests = λ rests. close_rests side k0 f0 rests close k1 k2 k3 f1 f2 f3 l x w r s;
  done = λ rests. close_done side k0 f0 rests close k1 k2 k3 f1 f2 f3 l x w r s;
}

-- a closed gate, and then the bytes behind it
module _ (side : Side) (version : Version) (generation : ℕ) (bodies : List (List ℕ)) (fresh : List ℕ)
    (is : fresh ≡ set_up_bytes version generation bodies) where
  pub set_up_shut_gate : (bytes : List ℕ) → IsOpened [] fresh bytes → IsShut (head_of version generation ++ records bodies) bytes
  set_up_shut_gate bytes o = record {
    gate = 0;
    rest = o.rest;
    closed = λ e. cc;
    is = o.is ∙ ap (λ (l : List ℕ). 1 ∷ (l ++ o.rest)) is ∙ ap (λ (l : List ℕ). 1 ∷ l)
        (append_assoc (header_of version generation ++ records bodies) (0 ∷ []) o.rest);
  }

  module _ (k0 k1 : Clock) (f0 f1 : Files) where
    pub not_set_up : {V E X F : Type 0} (r : Result V E) (s : Result X F) (e : F) → s ≡ Err e → ClosesHead side k0 k1 f0 f1 r →
        SetsUp side version generation bodies k0 k1 f0 f1 s
    not_set_up r s e err c = record {
      passing = λ rests. stay_passes _ _ k0 k1 (c.passing rests);
      rests = λ rests. at_err s e _ err;
      done = λ rests. at_err s e _ err;
    }

    module _ (k2 : Clock) (f2 : Files) {V E : Type 0} (x : V) (c : ClosesHead {T = V} {E = E} side k0 k1 f0 f1 (Ok x)) (r : Result V E)
        (o : OpensGate side 0 fresh k1 k2 f1 f2 r) where
      sets_passing : Rests k0.now f0 → Passes (Beside side (file_of (other side) f0) (AsBefore (file_of side f0)))
          (Beside side (file_of (other side) f0) (IsShut (head_of version generation ++ records bodies))) k0 k2
      sets_passing rests =
          let d = c.done rests in
          since_then _ _ k0 k1 k2
          (stay_passes _ _ k0 k1 (c.passing rests))
          (passes_as _ _ _ _
          (λ files b. record { here = inr (shut_gate b.here.gate b.here.rest (file_of side files) b.here.closed b.here.is); there = b.there ∙ d.there })
          (λ files a. record { here = set_up_shut_gate (file_of side files) a.here; there = a.there ∙ d.there })
          k1 k2 (o.passing [] (c.rests rests) d.here refl))

      sets_done : (d : Beside side (file_of (other side) f0) (IsShut []) f1) → (r : Result V E) →
          OnOk r (Beside side (file_of (other side) f1) (IsOpened [] fresh) f2) →
          OnOk r (Beside side (file_of (other side) f0) (IsShut (head_of version generation ++ records bodies)) f2)
      sets_done d (Ok y) a = record { here = set_up_shut_gate (file_of side f2) a.here; there = a.there ∙ d.there }
      sets_done d (Err e) a = tt

      pub is_set_up : SetsUp side version generation bodies k0 k2 f0 f2 r
      is_set_up = record {
        passing = sets_passing;
        rests = λ rests. o.rests [] (c.rests rests) (c.done rests).here refl;
        done = λ rests. sets_done (c.done rests) r (o.done [] (c.rests rests) (c.done rests).here refl);
      }

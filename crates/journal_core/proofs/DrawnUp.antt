-- A side that is set up piece by piece.
use Rattle.std.proofs.Common.{◌≡◌, ℕ, ◌+◌, List, [], ◌∷◌, ◌++◌, length, refl, sym, ◌∙◌, ap, subst, arith, length-append}
use Rattle.std.proofs.Common.{Result, Ok, Err, OnOk, inr}
use Rattle.world_traits.specs.Files.{Stored, Files, clean, file_of, other}
use Rattle.world_traits.specs.Moments.{Moment, Clock, stored, Rests}
use Rattle.world_traits.specs.declared.disk.Side.{Side}
use Rattle.world_traits.proofs.Passing.{since_then}
use Rattle.world_traits.proofs.Sides.{rests_on}
use Rattle.journal_core.specs.declared.version.Version.{Version}
use Rattle.journal_core.specs.Records.{records}
use Rattle.journal_core.specs.Sides.{head_of, header_of}
use Rattle.journal_core.specs.Gates.{IsShut, IsOpened, Beside, Passes}
use Rattle.journal_core.specs.Creating.{AsBefore, ClosesHead, SetsUp, set_up_bytes}
use Rattle.journal_core.specs.Drafts.{IsDraft, Drafts, OpensDraft, BeginsDraft, AreBehind}
use Rattle.journal_core.proofs.Aside.{passes_as}
use Rattle.journal_core.proofs.HeadCloses.{shut_gate, set_up_shut_gate}
use Rattle.journal_core.proofs.Remaining.{stay_of, stay_passes}

at_err : {T E : Type 0} (r : Result T E) (e : E) (Q : Type 0) → r ≡ Err e → OnOk r Q
at_err r e Q is = rw is tt

-- a side at rest whose head gate is closed is a draft without bytes
pub first_draft : (side : Side) (others : List ℕ) (m : Moment) (f : Files) → Rests m f → Beside side others (IsShut []) f → IsDraft side others [] [] m f
first_draft side others m f rests b =
    let here : stored side m ≡ clean (file_of side f) = rests_on side m f rests in
    record {
      there = rests_on (other side) m f rests ∙ ap clean b.there;
      same = b.there;
      shut = subst (λ (s : Stored). IsShut [] s.synced) (sym here) b.here;
      behind = subst (λ (s : Stored). AreBehind 1 s.written) (sym here) tt;
      filled = record { gate = b.here.gate; rest = b.here.rest; closed = b.here.closed; is = b.here.is };
    }

-- a side whose head gate is closed isn't begun
pub not_begun : (side : Side) (others before : List ℕ) (files : Files) → Beside side others (IsShut []) files → Beside side others (AsBefore before) files
not_begun side others before files b = record {
  here = inr (shut_gate b.here.gate b.here.rest (file_of side files) b.here.closed b.here.is);
  there = b.there;
}

-- the head is closed, and the header is put
module _ {V E X F : Type 0} (side : Side) (header : List ℕ) (k l n : Clock) (f g h : Files) where
  pub begins_not : (r : Result V E) (s : Result X F) (e : F) → s ≡ Err e → ClosesHead side k l f g r → BeginsDraft side header k l f g s
  begins_not r s e err c = record { passing = c.passing; done = λ rests. at_err s e _ err }

  pub begins : (x : V) (s : Result X F) → ClosesHead {T = V} {E = E} side k l f g (Ok x) → Drafts side 1 header l n g h s → BeginsDraft side header k n f h s
  begins x s c a = record {
    passing = λ rests.
        let m = a (file_of (other side) f) [] [] (first_draft side _ l.now g (c.rests rests) (c.done rests)) refl in
        since_then _ _ k l n (c.passing rests) (stay_of _ _ (not_begun side (file_of (other side) f) (file_of side f)) l n m.passing);
    done = λ rests. (a (file_of (other side) f) [] [] (first_draft side _ l.now g (c.rests rests) (c.done rests)) refl).done;
  }

-- the last gate is put, and the head gate is opened
module _ {V E X F : Type 0} (side : Side) (place : ℕ) (k l n : Clock) (f g h : Files) (others fresh : List ℕ) (d : IsDraft side others [] fresh k.now f)
    (next : place ≡ 1 + length fresh) where
  pub ends_not : (r : Result V E) (s : Result X F) (e : F) → s ≡ Err e → Drafts side place (0 ∷ []) k l f g r → OpensDraft side others [] (fresh ++ 0 ∷ []) k l g s
  ends_not r s e err a = record {
    passing = stay_passes _ _ k l (a others [] fresh d next).passing;
    rests = at_err s e _ err;
    done = at_err s e _ err;
  }

  pub ends : (x : V) (s : Result X F) → Drafts {T = V} {E = E} side place (0 ∷ []) k l f g (Ok x) →
      ((o front all : List ℕ) → IsDraft side o front all l.now g → 0 ≡ length front → OpensDraft side o front all l n h s) →
      OpensDraft side others [] (fresh ++ 0 ∷ []) k n h s
  ends x s a b =
      let m = a others [] fresh d next in
      let e = b others [] (fresh ++ 0 ∷ []) m.done refl in
      record { passing = since_then _ _ k l n (stay_passes _ _ k l m.passing) e.passing; rests = e.rests; done = e.done }

-- all of it
module _ (side : Side) (version : Version) (generation : ℕ) (bodies : List (List ℕ)) (k l n o : Clock) (f g h i : Files) where
  abbrev pub others : List ℕ
  others = file_of (other side) f

  abbrev pub B : Files → Type 0
  B = Beside side (file_of (other side) f) (AsBefore (file_of side f))

  abbrev pub A : Files → Type 0
  A = Beside side (file_of (other side) f) (IsShut (head_of version generation ++ records bodies))

  pub drawn1 : {V E X F : Type 0} (r : Result V E) (s : Result X F) (e : F) → s ≡ Err e → BeginsDraft side (header_of version generation) k l f g r →
      SetsUp side version generation bodies k l f g s
  drawn1 r s e err b = record {
    passing = λ rests. stay_passes B A k l (b.passing rests);
    rests = λ rests. at_err s e _ err;
    done = λ rests. at_err s e _ err;
  }

  module _ {V E : Type 0} (x : V) (b : BeginsDraft {T = V} {E = E} side (header_of version generation) k l f g (Ok x)) (at : ℕ)
      (next : at ≡ 1 + length (header_of version generation)) where
    middle : {W G : Type 0} (r : Result W G) → Drafts side at (records bodies) l n g h r → Rests k.now f → Passes B A k n
    middle r a rests =
        since_then _ _ k l n (stay_passes B A k l (b.passing rests))
        (stay_passes B A l n (stay_of _ _ (not_begun side (file_of (other side) f) (file_of side f)) l n
        (a (file_of (other side) f) [] (header_of version generation) (b.done rests) next).passing))

    pub drawn2 : {W G X F : Type 0} (r : Result W G) (s : Result X F) (e : F) → s ≡ Err e → Drafts side at (records bodies) l n g h r →
        SetsUp side version generation bodies k n f h s
    drawn2 r s e err a = record {
      passing = middle r a;
      rests = λ rests. at_err s e _ err;
      done = λ rests. at_err s e _ err;
    }

    module _ {W G X F : Type 0} (y : W) (a : Drafts {T = W} {E = G} side at (records bodies) l n g h (Ok y)) (end : ℕ)
        (behind : end ≡ at + length (records bodies)) (s : Result X F)
        (z : (p fresh : List ℕ) → IsDraft side p [] fresh n.now h → end ≡ 1 + length fresh → OpensDraft side p [] (fresh ++ 0 ∷ []) n o i s) where
      abbrev pub fresh : List ℕ
      fresh = header_of version generation ++ records bodies

      last : Rests k.now f → OpensDraft side (file_of (other side) f) [] (header_of version generation ++ records bodies ++ 0 ∷ []) n o i s
      last rests = z (file_of (other side) f) (header_of version generation ++ records bodies)
          (a (file_of (other side) f) [] (header_of version generation) (b.done rests) next).done
          (omega (arith, behind, next, length-append (header_of version generation) (records bodies)))

      opened : (files : Files) → Beside side (file_of (other side) f) (IsOpened [] (set_up_bytes version generation bodies)) files → A files
      opened files c = record { here = set_up_shut_gate side version generation bodies (set_up_bytes version generation bodies) refl (file_of side files) c.here; there = c.there }

      opened_result : (r : Result X F) → OnOk r (Beside side (file_of (other side) f) (IsOpened [] (set_up_bytes version generation bodies)) i) → OnOk r (A i)
      opened_result (Ok u) c = opened i c
      opened_result (Err e) c = tt

      pub drawn3 : SetsUp side version generation bodies k o f i s
      drawn3 = record {
        passing = λ rests.
            since_then _ _ k n o (middle (Ok y) a rests)
            (passes_as _ _ _ _ (not_begun side (file_of (other side) f) (file_of side f)) opened n o (last rests).passing);
        rests = λ rests. (last rests).rests;
        done = λ rests. opened_result s (last rests).done;
      }

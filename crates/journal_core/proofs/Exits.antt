-- What the opening of a gate owes at each of its exits.
use Rattle.std.proofs.Common.{◌≡◌, ℕ, ◌+◌, List, [], ◌∷◌, Result, Ok, Err, OnOk}
use Rattle.world_traits.specs.Files.{Files}
use Rattle.world_traits.specs.Moments.{Clock}
use Rattle.world_traits.specs.Calls.{Wrote, Synced}
use Rattle.world_traits.specs.declared.disk.Side.{Side}
use Rattle.journal_core.specs.Gates.{OpensGate}
use Rattle.journal_core.proofs.GateOpens.{exit1, exit2, exit3, exit4, rests4, done4}

at_err : {T E : Type 0} (r : Result T E) (e : E) (Q : Type 0) → r ≡ Err e → OnOk r Q
at_err r e Q is = rw is tt

module _ {T E V F : Type 0} (side : Side) (place : ℕ) (fresh : List ℕ) where
  pub told1 : (k0 k1 : Clock) (f0 f1 : Files) (r : Result T E) (s : Result V F) (e : F) → s ≡ Err e →
      Wrote side (place + 1) fresh k0 k1 f0 f1 r → OpensGate side place fresh k0 k1 f0 f1 s
  told1 k0 k1 f0 f1 r s e is w1 = record {
    passing = λ front rests shut next. exit1 side front fresh place k0 k1 k1 k1 k1 f0 f1 f1 f1 f1 rests shut next r w1;
    rests = λ front rests shut next. at_err s e _ is;
    done = λ front rests shut next. at_err s e _ is;
  }

  pub told2 : (k0 k1 k2 : Clock) (f0 f1 f2 : Files) (x : T) (r : Result T E) (s : Result V F) (e : F) → s ≡ Err e →
      Wrote {T = T} {E = E} side (place + 1) fresh k0 k1 f0 f1 (Ok x) → Synced side k1 k2 f1 f2 r → OpensGate side place fresh k0 k2 f0 f2 s
  told2 k0 k1 k2 f0 f1 f2 x r s e is w1 s1 = record {
    passing = λ front rests shut next. exit2 side front fresh place k0 k1 k2 k2 k2 f0 f1 f2 f2 f2 rests shut next x w1 r s1;
    rests = λ front rests shut next. at_err s e _ is;
    done = λ front rests shut next. at_err s e _ is;
  }

  pub told3 : (k0 k1 k2 k3 : Clock) (f0 f1 f2 f3 : Files) (x y : T) (r : Result T E) (s : Result V F) (e : F) → s ≡ Err e →
      Wrote {T = T} {E = E} side (place + 1) fresh k0 k1 f0 f1 (Ok x) → Synced {T = T} {E = E} side k1 k2 f1 f2 (Ok y)
      → Wrote side place (1 ∷ []) k2 k3 f2 f3 r → OpensGate side place fresh k0 k3 f0 f3 s
  told3 k0 k1 k2 k3 f0 f1 f2 f3 x y r s e is w1 s1 w2 = record {
    passing = λ front rests shut next. exit3 side front fresh place k0 k1 k2 k3 k3 f0 f1 f2 f3 f3 rests shut next x w1 y s1 r w2;
    rests = λ front rests shut next. at_err s e _ is;
    done = λ front rests shut next. at_err s e _ is;
  }

pub told4 : {T E : Type 0} (side : Side) (place : ℕ) (fresh : List ℕ) (k0 k1 k2 k3 k4 : Clock) (f0 f1 f2 f3 f4 : Files) (x y z : T)
    (r : Result T E) → Wrote {T = T} {E = E} side (place + 1) fresh k0 k1 f0 f1 (Ok x) → Synced {T = T} {E = E} side k1 k2 f1 f2 (Ok y)
    → Wrote {T = T} {E = E} side place (1 ∷ []) k2 k3 f2 f3 (Ok z) → Synced side k3 k4 f3 f4 r → OpensGate side place fresh k0 k4 f0 f4 r
told4 side place fresh k0 k1 k2 k3 k4 f0 f1 f2 f3 f4 x y z r w1 s1 w2 s2 = record {
  passing = λ front rests shut next. exit4 side front fresh place k0 k1 k2 k3 k4 f0 f1 f2 f3 f4 rests shut next x w1 y s1 z w2 r s2;
  rests = λ front rests shut next. rests4 side front fresh place k0 k1 k2 k3 k4 f0 f1 f2 f3 f4 rests shut next x w1 y s1 z w2 r s2;
  done = λ front rests shut next. done4 side front fresh place k0 k1 k2 k3 k4 f0 f1 f2 f3 f4 rests shut next x w1 y s1 z w2 r s2;
}

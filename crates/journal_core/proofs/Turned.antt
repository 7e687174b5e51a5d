-- The other side becomes the journal.
use Rattle.std.proofs.Common.{◌≡◌, ⊎_elim, ℕ, ◌+◌, ◌<◌, IsTrue, List, ◌++◌, length, refl, sym, ◌∙◌, ap, subst, arith}
use Rattle.std.proofs.Common.{length-append, Result, Ok, Err, OnOk, ◌^◌, ◌-◌, Bool, true, false}
use Rattle.world_traits.specs.Files.{Files, file_of, other}
use Rattle.world_traits.specs.Moments.{Moment, Clock, Rests, stored}
use Rattle.world_traits.specs.declared.disk.Side.{Side}
use Rattle.world_traits.specs.declared.disk.Side.TheVariants.{Left, Right}
use Rattle.world_traits.proofs.Passing.{since_start}
use Rattle.journal_core.specs.Records.{AreBodies, records}
use Rattle.journal_core.specs.Sides.{head_of, IsBegun, IsSetUp, HasWrongHeader, version_written}
use Rattle.journal_core.specs.Holds.{Holds, IsPresent}
use Rattle.journal_core.specs.Standing.{Standing, IsStill}
use Rattle.journal_core.specs.Gates.{IsShut, Beside, Passes}
use Rattle.journal_core.specs.Creating.{AsBefore, SetsUp}
use Rattle.journal_core.specs.OneSide.{EachOneSide, SideAtRest, IsAside}
use Rattle.journal_core.specs.Turning.{Turns, turned}
use Rattle.journal_core.proofs.Aside.{passes_as}
use Rattle.journal_core.proofs.Choice.{open_head, right_both, higher}
use Rattle.journal_core.proofs.Presence.{head_long, set_up_shut, from_behind}

pub back : (side : Side) → other (other side) ≡ side
back Left = refl
back Right = refl

-- what stays on the side that is left
same_there : (side : Side) (f files : Files) → file_of (other (other side)) files ≡ file_of (other (other side)) f → file_of side files ≡ file_of side f
same_there side f files is = subst (λ (s : Side). file_of s files ≡ file_of s f) (back side) is

module _ (j : Standing) (before : List (List ℕ)) (m : Moment) (f : Files) (still : IsStill j before m f) (read : IsTrue j.all_read) where
  abbrev pub Old : Files → Type 0
  Old = Beside (other j.side) (file_of (other (other j.side)) f) (AsBefore (file_of (other j.side) f))

  -- while the new side isn't begun, or is as it was, the old side is the journal
  present_old : (files : Files) → Old files → IsPresent j.side j.version j.generation files
  present_old files b =
      let same = same_there j.side f files b.there in
      record {
        right = λ any. right_both j.side any files (λ (w : HasWrongHeader (file_of j.side files)). still.present.right j.side (subst HasWrongHeader same w))
            (λ (w : HasWrongHeader (file_of (other j.side) files)).
            ⊎_elim (λ (is : file_of (other j.side) files ≡ file_of (other j.side) f). still.present.right (other j.side) (subst HasWrongHeader is w))
            (λ (no : IsBegun (file_of (other j.side) files) → ⊥). no w.begun) b.here);
        set_up = subst (IsSetUp j.version j.generation) (sym same) still.present.set_up;
        newer = λ v g s.
            ⊎_elim (λ (is : file_of (other j.side) files ≡ file_of (other j.side) f). still.present.newer v g (subst (IsSetUp v g) is s))
            (λ (no : IsBegun (file_of (other j.side) files) → ⊥). absurd (no (open_head v g (file_of (other j.side) files) s))) b.here;
      }

  pub holds_old : (files : Files) → Old files → Holds j.version before files
  holds_old files b = record {
    side = j.side;
    generation = j.generation;
    present = present_old files b;
    records = from_behind j.version j.generation before (file_of j.side files) still.sizes
        (subst (IsShut (head_of j.version j.generation ++ records before)) (sym (same_there j.side f files b.there))
        (record { gate = still.gate; rest = still.rest; closed = still.closed read; is = still.is }));
  }

  module _ (bodies : List (List ℕ)) (sizes : AreBodies bodies) (later : j.generation < 2 ^ 32 - 1) where
    abbrev pub New : Files → Type 0
    New = Beside (other j.side) (file_of (other (other j.side)) f) (IsShut (head_of version_written (j.generation + 1) ++ records bodies))

    present_new : (files : Files) → New files → IsPresent (other j.side) version_written (j.generation + 1) files
    present_new files b =
        let here = set_up_shut version_written (j.generation + 1) bodies (file_of (other j.side) files) b.here.gate b.here.rest
        (record { some = omega arith; fits = omega (arith, later) }) b.here.is in
        let there : IsSetUp j.version j.generation (file_of (other (other j.side)) files) =
        subst (λ (s : Side). IsSetUp j.version j.generation (file_of s files)) (sym (back j.side))
        (subst (IsSetUp j.version j.generation) (sym (same_there j.side f files b.there)) still.present.set_up) in
        higher (other j.side) version_written j.version (j.generation + 1) j.generation files here there (omega arith)

    pub holds_new : (files : Files) → New files → Holds version_written bodies files
    holds_new files b = record {
      side = other j.side;
      generation = j.generation + 1;
      present = present_new files b;
      records = from_behind version_written (j.generation + 1) bodies (file_of (other j.side) files) sizes b.here;
    }

    still_new : (n : Moment) (files : Files) → Rests n files → New files → IsStill (turned bodies j) bodies n files
    still_new n files rests b = record {
      rests = rests;
      present = present_new files b;
      sizes = sizes;
      gate = b.here.gate;
      rest = b.here.rest;
      is = b.here.is;
      next = sym (length-append (head_of version_written (j.generation + 1)) (records bodies)
          ∙ ap (λ (n : ℕ). n + length (records bodies)) (head_long version_written (j.generation + 1)));
      closed = λ t. b.here.closed;
    }

at_err : {T E : Type 0} (r : Result T E) (e : E) (Q : Type 0) → r ≡ Err e → OnOk r Q
at_err r e Q is = rw is tt

-- a turn as the setting up of the other side
module _ (j now after : Standing) (bodies : List (List ℕ)) (k l : Clock) (f g : Files) (is : j ≡ now) (read : IsTrue now.all_read)
    (sizes : AreBodies bodies) (later : now.generation < 2 ^ 32 - 1) where
  passing : {V E : Type 0} (r : Result V E) → SetsUp (other now.side) version_written (now.generation + 1) bodies k l f g r → (before : List (List ℕ)) →
      IsStill now before k.now f → Passes (Holds now.version before) (Holds version_written bodies) k l
  passing r s before still = passes_as _ _ _ _ (holds_old now before k.now f still read)
      (holds_new now before k.now f still read bodies sizes later) k l (s.passing still.rests)

  moved : {V E : Type 0} (side : Side) (generation : ℕ) (r : Result V E) → side ≡ other j.side → generation ≡ j.generation + 1 → SetsUp side version_written generation bodies k l f g r →
      SetsUp (other now.side) version_written (now.generation + 1) bodies k l f g r
  moved side generation r a b s =
      subst (λ (i : Standing). SetsUp (other i.side) version_written (i.generation + 1) bodies k l f g r) is
      (subst (λ (n : ℕ). SetsUp (other j.side) version_written n bodies k l f g r) b (subst (λ (d : Side). SetsUp d version_written generation bodies k l f g r) a s))

  pub turns_not : {V E T F : Type 0} (side : Side) (generation : ℕ) (r : Result V E) (s : Result T F) (e : F) → s ≡ Err e → side ≡ other j.side → generation ≡ j.generation + 1 →
      SetsUp side version_written generation bodies k l f g r → Turns now after bodies k l f g s
  turns_not side generation r s e err a b sets = record {
    passing = passing r (moved side generation r a b sets);
    done = λ before still. at_err s e _ err;
  }

  pub turns : {V E T F : Type 0} (side : Side) (generation : ℕ) (r : Result V E) (x : V) (s : Result T F) → r ≡ Ok x → side ≡ other j.side → generation ≡ j.generation + 1 →
      SetsUp side version_written generation bodies k l f g r → after ≡ turned bodies now → Turns now after bodies k l f g s
  turns {V = V} {E = E} side generation r x s ok a b sets same =
      let sets' = moved side generation r a b sets in
      record {
        passing = passing r sets';
        done = λ before still. all s _ (subst (λ (i : Standing). IsStill i bodies l.now g) (sym same)
            (still_new now before k.now f still read bodies sizes later l.now g
            (subst (λ (q : Result V E). OnOk q (Rests l.now g)) ok (sets'.rests still.rests))
            (subst (λ (q : Result V E). OnOk q (Beside (other now.side) (file_of (other (other now.side)) f)
            (IsShut (head_of version_written (now.generation + 1) ++ records bodies)) g)) ok (sets'.done still.rests))));
      }
    where
      all : {T F : Type 0} (s : Result T F) (Q : Type 0) → Q → OnOk s Q
      all (Ok y) Q q = q
      all (Err e) Q q = tt

  pub turns_none : {T F : Type 0} (s : Result T F) (e : F) → s ≡ Err e → l ≡ k → Turns now after bodies k l f g s
  turns_none s e err same = record {
    passing = λ before still. subst (λ (c : Clock). Passes (Holds now.version before) (Holds version_written bodies) k c) (sym same) (since_start _ _ k);
    done = λ before still. at_err s e _ err;
  }

not_true : (b : Bool) → (IsTrue b → ⊥) → b ≡ false
not_true true never = absurd (never refl)
not_true false never = refl

-- the journal behind a turn, by what it keeps
abbrev pub standing : Side → ℕ → ℕ → Bool → Bool → Standing
standing side generation place all_read failed = record {
  side = side;
  version = version_written;
  generation = generation;
  place = place;
  all_read = all_read;
  failed = failed;
}

pub turned_view : (i now : Standing) (bodies : List (List ℕ)) (side : Side) (place : ℕ) → i ≡ now → IsTrue now.all_read → (IsTrue now.failed → ⊥) →
    side ≡ other i.side → place ≡ 13 + length (records bodies) →
    standing side (i.generation + 1) place i.all_read i.failed ≡ turned bodies now
turned_view i now bodies side place is read sound a b =
    ap (λ (x : Side). standing x (i.generation + 1) place i.all_read i.failed) a
    ∙ ap (λ (x : ℕ). standing (other i.side) (i.generation + 1) x i.all_read i.failed) b
    ∙ ap (λ (x : Bool). standing (other i.side) (i.generation + 1) (13 + length (records bodies)) x i.failed)
    (ap (λ (x : Standing). x.all_read) is ∙ read)
    ∙ ap (λ (x : Bool). standing (other i.side) (i.generation + 1) (13 + length (records bodies)) true x)
    (ap (λ (x : Standing). x.failed) is ∙ not_true now.failed sound)
    ∙ ap (λ (x : Standing). turned bodies x) is

-- the side that is left stays
module _ (j now : Standing) (side : Side) (k l : Clock) (is : j ≡ now) (a : side ≡ other j.side) (aside : IsAside side k l) where
  away_is : other side ≡ now.side
  away_is = ap other a ∙ back j.side ∙ ap (λ (x : Standing). x.side) is

  pub left_stays : stored now.side l.now ≡ stored now.side k.now
  left_stays = subst (λ (s : Side). stored s l.now ≡ stored s k.now) away_is aside.beside

  pub left_each : SideAtRest now.side k.now → EachOneSide k l
  left_each rests = aside.each (subst (λ (s : Side). SideAtRest s k.now) (sym away_is) rests)

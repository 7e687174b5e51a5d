-- Which side is the journal.
use Rattle.std.proofs.Common.{◌≡◌, ℕ, ◌<◌, List, ◌∷◌, length, take, drop, slice_index, true, false, [], append_assoc, refl, sym, ◌∙◌, ap, subst, arith}
use Rattle.std.proofs.lemmas.List.{append-nil}
use Rattle.std.specs.Int.{w32, to_be_bytes, from_be_bytes}
use Rattle.std.proofs.lemmas.Nat.{from_be_bytes-to_be_bytes_4}
use Rattle.world_traits.specs.Files.{Files, file_of, other}
use Rattle.world_traits.specs.Moments.{Moment, Rests}
use Rattle.world_traits.specs.declared.disk.Side.{Side}
use Rattle.world_traits.specs.declared.disk.Side.TheVariants.{Left, Right}
use Rattle.journal_core.specs.declared.version.Version.{Version}
use Rattle.journal_core.specs.Sides.{head_of, IsBegun, IsSetUp, HasWrongHeader}
use Rattle.journal_core.specs.Holds.{IsPresent}
use Rattle.journal_core.specs.Standing.{Standing, IsStill}
use Rattle.journal_core.specs.Reading.{IsAtFirst, at_first}
use Rattle.journal_core.proofs.HeadBytes.{generation_bytes, set_up_long}
use Rattle.journal_core.proofs.Presence.{head_long}

-- a side has one generation
pub one_generation : (v w : Version) (g h : ℕ) (bytes : List ℕ) → IsSetUp v g bytes → IsSetUp w h bytes → g ≡ h
one_generation v w g h bytes s t =
    sym (from_be_bytes-to_be_bytes_4 g s.number.fits)
    ∙ ap (from_be_bytes w32) (sym (generation_bytes v g bytes s) ∙ generation_bytes w h bytes t)
    ∙ from_be_bytes-to_be_bytes_4 h t.number.fits

pub open_head : (v : Version) (g : ℕ) (bytes : List ℕ) → IsSetUp v g bytes → IsBegun bytes
open_head v g bytes s = record { long = set_up_long v g bytes s; open_gate = ap (λ (l : List ℕ). slice_index l 0) s.is }

pub right_both : (side any : Side) (files : Files) → (HasWrongHeader (file_of side files) → ⊥) →
    (HasWrongHeader (file_of (other side) files) → ⊥) → HasWrongHeader (file_of any files) → ⊥
right_both Left Left files here there w = here w
right_both Left Right files here there w = there w
right_both Right Left files here there w = there w
right_both Right Right files here there w = here w

-- the only side that is set up
pub alone : (side : Side) (v : Version) (g : ℕ) (files : Files) → IsSetUp v g (file_of side files) →
    (IsBegun (file_of (other side) files) → ⊥) → IsPresent side v g files
alone side v g files s none = record {
  right = λ any. right_both side any files (λ (w : HasWrongHeader (file_of side files)). w.wrong v g s)
      (λ (w : HasWrongHeader (file_of (other side) files)). none w.begun);
  set_up = s;
  newer = λ w h t. absurd (none (open_head w h (file_of (other side) files) t));
}

-- the one with the higher generation
pub higher : (side : Side) (v w : Version) (g h : ℕ) (files : Files) → IsSetUp v g (file_of side files) →
    IsSetUp w h (file_of (other side) files) → h < g → IsPresent side v g files
higher side v w g h files s t lt = record {
  right = λ any. right_both side any files (λ (x : HasWrongHeader (file_of side files)). x.wrong v g s)
      (λ (x : HasWrongHeader (file_of (other side) files)). x.wrong w h t);
  set_up = s;
  newer = λ u i r. omega (arith, lt, one_generation u w i h (file_of (other side) files) r t);
}

pub first_is : (side : Side) (v : Version) (g : ℕ) (files : Files) (journal : Standing) → journal ≡ at_first side v g →
    IsPresent side v g files → IsAtFirst journal files
first_is side v g files journal is p = subst (λ (j : Standing). IsAtFirst j files) (sym is) (record { present = p; is = refl })

-- where the disk is at rest, a journal before its first record is still
pub still_first : (m : Moment) (seen files : Files) (journal : Standing) → Rests m seen → seen ≡ files → IsAtFirst journal files → IsStill journal [] m seen
still_first m seen files journal rests same a =
    subst (λ (j : Standing). IsStill j [] m seen) (sym a.is)
    (record {
      rests = rests;
      present = subst (IsPresent journal.side journal.version journal.generation) (sym same) a.present;
      sizes = tt;
      gate = a.present.set_up.gate;
      rest = a.present.set_up.rest;
      is = ap (file_of journal.side) same ∙ a.present.set_up.is ∙ sym
          (append_assoc (head_of journal.version journal.generation) [] (a.present.set_up.gate ∷ a.present.set_up.rest));
      next = sym (ap length (append-nil (head_of journal.version journal.generation)) ∙ head_long journal.version journal.generation);
      closed = λ (t : false ≡ true). absurd (false_true t);
    })
  where
    false_true : false ≡ true → ⊥
    false_true t = cc

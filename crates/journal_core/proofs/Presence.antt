-- A side that is the journal stays so while its head and the other side stay.
use Rattle.std.proofs.Common.{◌≡◌, ℕ, List, [], ◌∷◌, ◌++◌, length, drop, refl, ◌∙◌, ap, subst, append_assoc}
use Rattle.std.proofs.lemmas.List.{drop_at}
use Rattle.world_traits.specs.Files.{Files, file_of, other}
use Rattle.world_traits.specs.declared.disk.Side.{Side}
use Rattle.world_traits.specs.declared.disk.Side.TheVariants.{Left, Right}
use Rattle.journal_core.specs.declared.version.Version.{Version}
use Rattle.journal_core.specs.declared.version.Version.TheVariants.{First, Second}
use Rattle.journal_core.specs.Records.{AreBodies, From, records}
use Rattle.journal_core.specs.Sides.{head_of, IsGeneration, IsSetUp, HasWrongHeader}
use Rattle.journal_core.specs.Holds.{IsPresent, Holds}
use Rattle.journal_core.specs.Gates.{IsShut, Beside}

pub head_long : (v : Version) (g : ℕ) → length (head_of v g) ≡ 13
head_long First g = refl
head_long Second g = refl

-- behind the records a gate: so the side is set up
pub set_up_shut : (v : Version) (g : ℕ) (bodies : List (List ℕ)) (bytes : List ℕ) (gate : ℕ) (rest : List ℕ) → IsGeneration g →
    bytes ≡ head_of v g ++ records bodies ++ gate ∷ rest → IsSetUp v g bytes
set_up_shut v g [] bytes gate rest n is = record { number = n; gate = gate; rest = rest; is = is ∙ append_assoc (head_of v g) [] (gate ∷ rest) }
set_up_shut v g (b ∷ bs) bytes gate rest n is = record { number = n; gate = 1; rest = _; is = is ∙ append_assoc (head_of v g) (records (b ∷ bs)) (gate ∷ rest) }

right_kept : (side any : Side) (seen files : Files) → ((s : Side) → HasWrongHeader (file_of s seen) → ⊥) →
    file_of (other side) files ≡ file_of (other side) seen → (HasWrongHeader (file_of side files) → ⊥) →
    HasWrongHeader (file_of any files) → ⊥
right_kept Left Left seen files right same here wrong = here wrong
right_kept Left Right seen files right same here wrong = right Right (subst HasWrongHeader same wrong)
right_kept Right Left seen files right same here wrong = right Left (subst HasWrongHeader same wrong)
right_kept Right Right seen files right same here wrong = here wrong

pub present_kept : (side : Side) (v : Version) (g : ℕ) (seen files : Files) → IsPresent side v g seen →
    file_of (other side) files ≡ file_of (other side) seen → IsSetUp v g (file_of side files) → IsPresent side v g files
present_kept side v g seen files p same here = record {
  right = λ any. right_kept side any seen files p.right same (λ (w : HasWrongHeader (file_of side files)). w.wrong v g here);
  set_up = here;
  newer = λ w h s. p.newer w h (subst (λ (b : List ℕ). IsSetUp w h b) same s);
}

pub from_behind : (v : Version) (g : ℕ) (bodies : List (List ℕ)) (bytes : List ℕ) → AreBodies bodies →
    IsShut (head_of v g ++ records bodies) bytes → From 13 bodies bytes
from_behind v g bodies bytes sizes s = record {
  sizes = sizes;
  gate = s.gate;
  rest = s.rest;
  closed = s.closed;
  is = ap (drop 13) (s.is ∙ append_assoc (head_of v g) (records bodies) (s.gate ∷ s.rest))
      ∙ drop_at (head_of v g) (records bodies ++ s.gate ∷ s.rest) 13 (head_long v g);
}

-- whatever stands on one side, while the other side stays
pub holds_kept : (side : Side) (v : Version) (g : ℕ) (seen : Files) → IsPresent side v g seen → (bodies : List (List ℕ)) →
    AreBodies bodies → (files : Files) → Beside side (file_of (other side) seen) (IsShut (head_of v g ++ records bodies)) files →
    Holds v bodies files
holds_kept side v g seen p bodies sizes files b = record {
  side = side;
  generation = g;
  present = present_kept side v g seen files p b.there (set_up_shut v g bodies (file_of side files) b.here.gate b.here.rest p.set_up.number b.here.is);
  records = from_behind v g bodies (file_of side files) sizes b.here;
}

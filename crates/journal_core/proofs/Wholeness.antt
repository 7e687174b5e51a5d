-- Files that hold bodies of which each is due aren't broken, whatever is due.
use Rattle.std.proofs.Common.{◌≡◌, ◌≢◌, ℕ, List, [], ◌∷◌, ◌++◌, length, drop, slice_index, refl, sym, ◌∙◌, ap, subst, arith, append_assoc, get_or-drop}
use Rattle.std.specs.List.{AllByRecursion}
use Rattle.std.proofs.lemmas.List.{append-nil, drop-drop, drop_at}
use Rattle.world_traits.specs.Files.{Files, file_of}
use Rattle.world_traits.specs.declared.disk.Side.{Side}
use Rattle.world_traits.specs.declared.disk.Side.TheVariants.{Left, Right}
use Rattle.mail_base.specs.Bodies.{IsBody}
use Rattle.journal_core.specs.declared.version.Version.{Version}
use Rattle.journal_core.specs.declared.fault.Place9.{Place9}
use Rattle.journal_core.specs.declared.fault.Place9.TheVariants as places
use Rattle.journal_core.specs.Records.{AreBodies, From, open_record, records}
use Rattle.journal_core.specs.Holds.{IsPresent, Holds}
use Rattle.journal_core.specs.Reading.{StandsAt, SameGenerations, IsNoJournal}
use Rattle.journal_core.specs.Broken.{StandUpTo, IsNotDue, torn, other, missing, BrokenBehind}
use Rattle.journal_core.proofs.Choice.{one_generation, open_head}
use Rattle.journal_core.proofs.Nexting.{one_body, one_rest}

-- records up to a place are the first of all records
record Rest (all before : List (List ℕ)) (gate : ℕ) (behind rest : List ℕ) : Type 0 where
  later : List (List ℕ)
  are : all ≡ before ++ later
  is : rest ≡ records later ++ gate ∷ behind

rest_of : (all before : List (List ℕ)) (gate : ℕ) (behind rest : List ℕ) → AreBodies all → AreBodies before → gate ≢ 1 →
    records all ++ gate ∷ behind ≡ records before ++ rest → Rest all before gate behind rest
rest_of all [] gate behind rest sa sb closed same = record { later = all; are = refl; is = sym same }
rest_of [] (b ∷ bs) gate behind rest sa sb closed same = absurd (closed cc)
rest_of (x ∷ xs) (b ∷ bs) gate behind rest sa sb closed same =
    let whole = sym (append_assoc (open_record x) (records xs) (gate ∷ behind)) ∙ same ∙ append_assoc (open_record b) (records bs) rest in
    let first = one_body x b (records xs ++ gate ∷ behind) (records bs ++ rest) sa.0 sb.0 whole in
    let r = rest_of xs bs gate behind rest sa.1 sb.1 closed (one_rest x b (records xs ++ gate ∷ behind) (records bs ++ rest) sa.0 sb.0 whole) in
    record { later = r.later; are = ap (λ (y : List ℕ). y ∷ xs) first ∙ ap (λ (l : List (List ℕ)). b ∷ l) r.are; is = r.is }

all_at : (P : List ℕ → Type 0) (before : List (List ℕ)) (b : List ℕ) (later : List (List ℕ)) → AllByRecursion P (before ++ b ∷ later) → P b
all_at P [] b later all = all.0
all_at P (x ∷ xs) b later all = all_at P xs b later all.1

-- behind a record a gate stands
record Gate (bytes : List ℕ) : Type 0 where
  gate : ℕ
  rest : List ℕ
  is : bytes ≡ gate ∷ rest

gate_of : (later : List (List ℕ)) (gate : ℕ) (behind : List ℕ) → Gate (records later ++ gate ∷ behind)
gate_of [] gate behind = record { gate = gate; rest = behind; is = refl }
gate_of (b ∷ bs) gate behind = record { gate = 1; rest = _; is = refl }

module _ (IsUndue : List ℕ → Type 0) (IsMissing : Type 0) (place : ℕ) (bytes : List ℕ) where
  gate_at : (g : ℕ) (r : List ℕ) → drop place bytes ≡ g ∷ r → slice_index bytes place ≡ g
  gate_at g r is = ap (λ (n : ℕ). slice_index bytes n) (omega arith) ∙ sym (get_or-drop place bytes 0 0) ∙ ap (λ (l : List ℕ). slice_index l 0) is

  -- at the end of all records
  at_end : (gate : ℕ) (behind : List ℕ) → gate ≢ 1 → drop place bytes ≡ gate ∷ behind → (IsMissing → ⊥) → IsNotDue IsUndue IsMissing place bytes → ⊥
  at_end gate behind closed is none (torn t) = closed (sym (gate_at gate behind is) ∙ t.open_gate)
  at_end gate behind closed is none (other body s bad) = closed (sym (gate_at gate behind is) ∙ gate_at 1 _ s.is)
  at_end gate behind closed is none (missing wanting shut) = none wanting

  -- and at one of them
  at_record : (b : List ℕ) (later : List (List ℕ)) (gate : ℕ) (behind : List ℕ) → IsBody b →
      drop place bytes ≡ records (b ∷ later) ++ gate ∷ behind → (IsUndue b → ⊥) → IsNotDue IsUndue IsMissing place bytes → ⊥
  at_record b later gate behind size is due bad =
      let at = is ∙ append_assoc (open_record b) (records later) (gate ∷ behind) in
      let g = gate_of later gate behind in
      let stands : StandsAt place b bytes = record { size = size; gate = g.gate; rest = g.rest; is = at ∙ ap (λ (l : List ℕ). open_record b ++ l) g.is } in
      refused stands bad
    where
      refused : StandsAt place b bytes → IsNotDue IsUndue IsMissing place bytes → ⊥
      refused stands (torn t) = t.broken b stands
      refused stands (other body s wrong) =
          let same : body ≡ b = one_body body b (s.gate ∷ s.rest) (stands.gate ∷ stands.rest) s.size stands.size (sym s.is ∙ stands.is) in
          due (subst IsUndue same wrong)
      refused stands (missing wanting shut) = shut (gate_at 1 _ stands.is)

-- Each body behind these is due, and none is missing at the end.
module _ (all before : List (List ℕ)) (IsUndue : List ℕ → Type 0) (IsMissing : Type 0)
    (due : (b : List ℕ) (later : List (List ℕ)) → all ≡ before ++ b ∷ later → IsUndue b → ⊥) (none : all ≡ before → IsMissing → ⊥) where
  -- then no record is broken in a file of these bodies
  none_broken : (bytes : List ℕ) → From 13 all bytes → (place : ℕ) → StandUpTo place before bytes → IsNotDue IsUndue IsMissing place bytes → ⊥
  none_broken bytes from place up bad =
      let r = rest_of all before from.gate from.rest up.rest from.sizes up.sizes from.closed (sym from.is ∙ up.is) in
      let here = ap (λ (n : ℕ). drop n bytes) up.there ∙ ap (λ (n : ℕ). drop n bytes) (omega arith)
      ∙ sym (drop-drop (length (records before)) 13 bytes) ∙ ap (drop (length (records before))) up.is
      ∙ drop_at (records before) up.rest (length (records before)) refl in
      by_later r.later r.are r.is here
    where
      by_later : (later : List (List ℕ)) → all ≡ before ++ later → up.rest ≡ records later ++ from.gate ∷ from.rest → drop place bytes ≡ up.rest → ⊥
      by_later [] are is here = at_end IsUndue IsMissing place bytes from.gate from.rest from.closed (here ∙ is) (none (are ∙ append-nil before)) bad
      by_later (b ∷ later) are is here =
          at_record IsUndue IsMissing place bytes b later from.gate from.rest
          (all_at IsBody before b later (subst AreBodies are from.sizes)) (here ∙ is) (due b later are) bad

  by_side : (s t : Side) (v w : Version) (g h place : ℕ) (files : Files) → IsPresent s v g files → IsPresent t w h files →
      From 13 all (file_of s files) → StandUpTo place before (file_of t files) → IsNotDue IsUndue IsMissing place (file_of t files) → ⊥
  by_side Left Left v w g h place files p q from up bad = none_broken files.left from place up bad
  by_side Right Right v w g h place files p q from up bad = none_broken files.right from place up bad
  by_side Left Right v w g h place files p q from up bad = let x = p.newer w h q.set_up in let y = q.newer v g p.set_up in omega (arith, x, y)
  by_side Right Left v w g h place files p q from up bad = let x = p.newer w h q.set_up in let y = q.newer v g p.set_up in omega (arith, x, y)

  -- nor in the files
  pub whole : (v w : Version) (place : ℕ) (files : Files) → Holds v all files → BrokenBehind w IsUndue IsMissing before place files → ⊥
  whole v w place files h b = by_side h.side b.side v w h.generation b.generation place files h.present b.present h.records b.up_to b.bad

one_newer : (s : Side) (v : Version) (g : ℕ) (files : Files) → IsPresent s v g files → SameGenerations files → ⊥
one_newer Left v g files p same =
    let x = p.newer same.right_version same.generation same.right in
    omega (arith, x, one_generation v same.left_version g same.generation files.left p.set_up same.left)
one_newer Right v g files p same =
    let x = p.newer same.left_version same.generation same.left in
    omega (arith, x, one_generation v same.right_version g same.generation files.right p.set_up same.right)

-- and files that hold bodies are a journal by their heads
pub is_journal : (v : Version) (bodies : List (List ℕ)) (files : Files) (why : Place9) → Holds v bodies files → IsNoJournal why files → ⊥
is_journal v bodies files places.Absent h none = none h.side (open_head v h.generation (file_of h.side files) h.present.set_up)
is_journal v bodies files places.Header h wrong = h.present.right wrong.side wrong.wrong
is_journal v bodies files places.Generations h same = one_newer h.side v h.generation files h.present same
is_journal v bodies files (places.Record at) h never = never

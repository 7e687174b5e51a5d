-- A set's text is read as that set.
use Rattle.std.proofs.Common.{◌≡◌, ◌<◌, ℕ, Bool, true, false, ◌==◌, Err, List, [], ◌∷◌, length, refl, arith}
use Rattle.std.proofs.lemmas.Bool.Decides.{nat_tests}
use Rattle.uid_sets.specs.SequenceSet.{Spells, Refuses, items_of}
use Rattle.uid_sets.specs.Spelling.{set_text}
use Rattle.uid_sets.specs.UidSet.{IsCanonical}
use Rattle.uid_sets.specs.declared.uid.UidRange.{UidRange}
use Rattle.uid_sets.specs.declared.set_fault.SetFault.{SetFault}
use Rattle.uid_sets.specs.declared.set_fault.SetFault.TheVariants as faults
use Rattle.uid_sets.proofs.Fits.{same_reading}
use Rattle.uid_sets.proofs.RoundTrip.{set_spells}

nothing_spelled : (ranges : List UidRange) → Spells [] ranges → ⊥
unfolding items_of
nothing_spelled ranges spells = cc spells.read

pub no_text : (uids : List UidRange) (text : List ℕ) → IsCanonical uids → text ≡ set_text uids → length text ≡ 0 → uids ≡ []
no_text [] text is same none = refl
no_text (r ∷ uids) [] is same none = absurd (nothing_spelled (r ∷ uids) (rw (← same) at (set_spells (r ∷ uids) is (omega arith))))
no_text (r ∷ uids) (b ∷ text) is same none = absurd (omega (arith, none))

pub some_spelled : (uids : List UidRange) (text : List ℕ) → IsCanonical uids → text ≡ set_text uids → 0 < length text → Spells text uids
some_spelled [] [] is same some = absurd (omega (arith, some))
some_spelled [] (b ∷ text) is same some = absurd cc
some_spelled (r ∷ uids) text is same some = rw same (set_spells (r ∷ uids) is (omega arith))

pub set_read : (uids other : List UidRange) (text : List ℕ) → IsCanonical uids → text ≡ set_text uids → 0 < length text → Spells text other → other ≡ uids
set_read uids other text is same some spells = same_reading text other uids spells (some_spelled uids text is same some)

pub none_long : (b : Bool) (text : List ℕ) → b ≡ (length text == 0) → b ≡ true → length text ≡ 0
none_long b text is e = grind (arith, nat_tests)

pub some_long : (b : Bool) (text : List ℕ) → b ≡ (length text == 0) → b ≡ false → 0 < length text
some_long b text is e = grind (arith, nat_tests)

-- a set's text has no fault
pub no_fault : (uids : List UidRange) (text : List ℕ) (fault : SetFault) → IsCanonical uids → text ≡ set_text uids → 0 < length text →
    items_of text ≡ Err fault → ⊥
no_fault uids text fault is same some refused = let read = (some_spelled uids text is same some).read in cc

pub set_fault : (uids : List UidRange) (text : List ℕ) (fault : SetFault) → IsCanonical uids → text ≡ set_text uids → 0 < length text →
    Refuses text fault → fault ≡ faults.Memory
set_fault uids text faults.Memory is same some refused = refl
set_fault uids text faults.Empty is same some refused = absurd (no_fault uids text _ is same some refused)
set_fault uids text (faults.Zero at) is same some refused = absurd (no_fault uids text _ is same some refused)
set_fault uids text (faults.BadNumber at) is same some refused = absurd (no_fault uids text _ is same some refused)
set_fault uids text (faults.BadByte at) is same some refused = absurd (no_fault uids text _ is same some refused)

-- What a search found (RFC 9051, section 9, esearch-response; RFC 3501, section 7.2.5, SEARCH; RFC 7162, section 3.1.5).
use Rattle.std.specs.Prelude.{◌≡◌, ◌⊎◌, ◌↔◌, ℕ, List, [], ◌∷◌, ◌++◌, codes, fold, Contains}
use Rattle.imap_model.specs.Parts.{Part, bytes}
use Rattle.imap_model.specs.Words.{SameWord, IsGap, AreSpaces, Spaced, Stops}
use Rattle.imap_model.specs.Numbers.{IsNonzero, IsModSeq}
use Rattle.imap_model.specs.Strings.{IsAstring}
use Rattle.imap_model.specs.Values.{IsAtom, IsValue}
use Rattle.uid_sets.specs.UidSet.{Member, IsCanonical}
use Rattle.uid_sets.specs.SequenceSet.{Spells}
use Rattle.uid_sets.specs.declared.uid.UidRange.{UidRange}

-- the text is these nonzero numbers, spaces before each, and then this rest
abbrev pub AreNumbers : List ℕ → List ℕ → List ℕ → Type 0
AreNumbers text [] rest = text ≡ rest
AreNumbers text (number ∷ numbers) rest =
    (digits : List ℕ) × (later : List ℕ) × Spaced text (digits ++ later) × IsNonzero digits number × Stops later × AreNumbers later numbers rest

-- "(" "MODSEQ" SP mod-sequence-value ")"
pub record IsSearchModSeq (text : List ℕ) : Type 0 where
  pub name : List ℕ
  pub named : SameWord name (codes "MODSEQ")
  pub gap : List ℕ
  pub spaces : IsGap gap
  pub digits : List ℕ
  pub modseq : ℕ
  pub number : IsModSeq digits modseq
  pub whole : text ≡ 40 ∷ (name ++ gap ++ digits ++ 41 ∷ [])

-- what stands behind the numbers of a SEARCH: spaces, or a mod-sequence
abbrev pub IsSearchEnd : List ℕ → Type 0
IsSearchEnd text = AreSpaces text ⊎ ((modseq : List ℕ) × (blank : List ℕ) × Spaced text (modseq ++ blank) × IsSearchModSeq modseq × AreSpaces blank)

-- the set of these numbers
pub record IsSetOf (uids : List UidRange) (numbers : List ℕ) : Type 0 where
  pub canonical : IsCanonical uids
  pub members : (uid : ℕ) → Member uids uid ↔ Contains numbers uid

-- what stands behind the word SEARCH tells this set
abbrev pub TellsSearch : List ℕ → List UidRange → Type 0
TellsSearch text uids = (numbers : List ℕ) × (later : List ℕ) × AreNumbers text numbers later × IsSearchEnd later × IsSetOf uids numbers

-- "(" "TAG" SP tag-string ")", the tag as an astring (search-correlator)
pub record IsCorrelator (parts : List Part) : Type 0 where
  pub name : List ℕ
  pub named : SameWord name (codes "TAG")
  pub gap : List ℕ
  pub spaces : IsGap gap
  pub tag : List Part
  pub value : List ℕ
  pub astring : IsAstring tag value
  pub whole : parts ≡ bytes (40 ∷ (name ++ gap)) ++ tag ++ bytes (41 ∷ [])

-- spaces and the correlator, or nothing
abbrev pub MayCorrelate : List Part → Type 0
MayCorrelate parts = (parts ≡ []) ⊎ ((gap : List ℕ) × (correlator : List Part) × IsGap gap × IsCorrelator correlator × (parts ≡ bytes gap ++ correlator))

-- a pair of a name and a value (search-return-data)
pub data Pair : Type 0 where
  All : (uids : List UidRange) → Pair
  Others : Pair

-- ALL and a set, or another name and a value
abbrev pub IsPair : List ℕ → List Part → Pair → Type 0
IsPair name value (All uids) = SameWord name (codes "ALL") × (text : List ℕ) × Spells text uids × (value ≡ bytes text)
IsPair name value Others = IsAtom name × (SameWord name (codes "ALL") → ⊥) × IsValue value

-- the parts are these pairs, spaces before each name and each value
abbrev pub ArePairs : List Part → List Pair → Type 0
ArePairs parts [] = parts ≡ []
ArePairs parts (pair ∷ pairs) =
    (before : List ℕ) × (name : List ℕ) × (between : List ℕ) × (value : List Part) × (later : List Part)
    × IsGap before × IsGap between × IsPair name value pair
    × (parts ≡ bytes (before ++ name ++ between) ++ value ++ later) × ArePairs later pairs

-- the word UID, spaces before it, or nothing
abbrev pub MayCountUids : List ℕ → Type 0
MayCountUids text = (text ≡ []) ⊎ ((gap : List ℕ) × (word : List ℕ) × IsGap gap × SameWord word (codes "UID") × (text ≡ gap ++ word))

-- no pair has the name UID in front of the others, where the word UID is left out
abbrev pub BeginsWithUid : List Part → Type 0
BeginsWithUid parts = (gap : List ℕ) × (word : List ℕ) × (value : List Part) × IsGap gap × SameWord word (codes "UID")
    × (parts ≡ bytes (gap ++ word ++ 32 ∷ []) ++ value)

-- the set of a pair, if it is ALL: the last one counts
abbrev pub with_pair : List UidRange → Pair → List UidRange
with_pair uids (All others) = others
with_pair uids Others = uids

abbrev pub found_of : List Pair → List UidRange
found_of pairs = fold with_pair [] pairs

-- what stands behind the word ESEARCH tells this set
pub record TellsExtended (parts : List Part) (uids : List UidRange) : Type 0 where
  pub correlator : List Part
  pub may_correlate : MayCorrelate correlator
  pub word : List ℕ
  pub may_count : MayCountUids word
  pub pairs : List Pair
  pub told : List Part
  pub are_pairs : ArePairs told pairs
  pub word_first : word ≡ [] → BeginsWithUid told → ⊥
  pub blank : List ℕ
  pub spaces : AreSpaces blank
  pub whole : parts ≡ correlator ++ bytes word ++ told ++ bytes blank
  pub found : uids ≡ found_of pairs

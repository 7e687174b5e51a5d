-- The items of a FETCH response (RFC 9051, section 9, msg-att; RFC 7162, section 3.1.4.2).
use Rattle.std.specs.Prelude.{◌≡◌, ◌≢◌, ◌⊎◌, ℕ, false, List, [], ◌∷◌, ◌++◌, codes, fold, Some}
use Rattle.std.specs.List.{list_any}
use Rattle.std.specs.Str.{str_eq_ignore_ascii_case}
use Rattle.std.specs.Str.Parse.{IsNumeral}
use Rattle.imap_model.specs.declared.fetched.Fetched.{Fetched}
use Rattle.imap_model.specs.Parts.{Part, bytes}
use Rattle.imap_model.specs.Unfetched.{nothing_fetched}
use Rattle.imap_model.specs.Words.{SameWord, IsGap}
use Rattle.imap_model.specs.Numbers.{IsNonzero, IsModSeq}
use Rattle.imap_model.specs.Strings.{IsString, IsAstring}
use Rattle.imap_model.specs.Values.{IsAtom, IsValue, IsSection}
use Rattle.imap_model.specs.FlagLists.{IsFlags}

-- what an item tells
pub data Told : Type 0 where
  UidIs : (uid : ℕ) → Told
  FlagsAre : (flags : List (List ℕ)) → Told
  ModSeqIs : (modseq : ℕ) → Told
  IdsAre : (ids : List ℕ) → Told
  TextIs : (text : List ℕ) → Told
  Nothing : Told

-- "UID" SP uniqueid
pub record IsUidItem (parts : List Part) (uid : ℕ) : Type 0 where
  pub name : List ℕ
  pub named : SameWord name (codes "UID")
  pub gap : List ℕ
  pub spaces : IsGap gap
  pub digits : List ℕ
  pub number : IsNonzero digits uid
  pub whole : parts ≡ bytes (name ++ gap ++ digits)

-- "FLAGS" SP "(" [flag-fetch *(SP flag-fetch)] ")"
pub record IsFlagsItem (parts : List Part) (flags : List (List ℕ)) : Type 0 where
  pub name : List ℕ
  pub named : SameWord name (codes "FLAGS")
  pub gap : List ℕ
  pub spaces : IsGap gap
  pub text : List ℕ
  pub listed : IsFlags text flags
  pub whole : parts ≡ bytes (name ++ gap ++ 40 ∷ (text ++ 41 ∷ []))

-- "MODSEQ" SP "(" permsg-modsequence ")"
pub record IsModSeqItem (parts : List Part) (modseq : ℕ) : Type 0 where
  pub name : List ℕ
  pub named : SameWord name (codes "MODSEQ")
  pub gap : List ℕ
  pub spaces : IsGap gap
  pub digits : List ℕ
  pub number : IsModSeq digits modseq
  pub whole : parts ≡ bytes (name ++ gap ++ 40 ∷ (digits ++ 41 ∷ []))

-- between the brackets: "HEADER.FIELDS" SP "(" Message-ID ")", the field's name as an astring
pub record IsIdSection (parts : List Part) : Type 0 where
  pub name : List ℕ
  pub named : SameWord name (codes "HEADER.FIELDS")
  pub gap : List ℕ
  pub spaces : IsGap gap
  pub field : List Part
  pub value : List ℕ
  pub astring : IsAstring field value
  pub is_id : SameWord value (codes "Message-ID")
  pub whole : parts ≡ bytes (name ++ gap ++ 40 ∷ []) ++ field ++ bytes (41 ∷ [])

-- a string, or NIL for no bytes (nstring)
abbrev pub IsNstring : List Part → List ℕ → Type 0
IsNstring parts value = IsString parts value ⊎ ((word : List ℕ) × SameWord word (codes "NIL") × (parts ≡ bytes word) × (value ≡ []))

-- "BODY" section SP nstring, the section as above
pub record IsIdsItem (parts : List Part) (ids : List ℕ) : Type 0 where
  pub name : List ℕ
  pub named : SameWord name (codes "BODY")
  pub inside : List Part
  pub id_section : IsIdSection inside
  pub gap : List ℕ
  pub spaces : IsGap gap
  pub value : List Part
  pub told : IsNstring value ids
  pub whole : parts ≡ bytes (name ++ 91 ∷ []) ++ inside ++ bytes (93 ∷ gap) ++ value

-- "BODY" "[" "]" SP nstring: the whole text
pub record IsTextItem (parts : List Part) (text : List ℕ) : Type 0 where
  pub name : List ℕ
  pub named : SameWord name (codes "BODY")
  pub gap : List ℕ
  pub spaces : IsGap gap
  pub value : List Part
  pub told : IsNstring value text
  pub whole : parts ≡ bytes (name ++ 91 ∷ 93 ∷ gap) ++ value

-- the names of the items without brackets that have a meaning here
abbrev pub known_items : List (List ℕ)
known_items = codes "UID" ∷ codes "FLAGS" ∷ codes "MODSEQ" ∷ []

-- another name without brackets
abbrev pub IsOtherName : List Part → Type 0
IsOtherName parts = (name : List ℕ) × IsAtom name × (list_any (λ known. str_eq_ignore_ascii_case known name) known_items ≡ false) × (parts ≡ bytes name)

-- where a part of the text began: "<" number ">", or nothing
abbrev pub IsOrigin : List ℕ → Type 0
IsOrigin text = (text ≡ []) ⊎ ((digits : List ℕ) × IsNumeral 10 digits × (text ≡ 60 ∷ (digits ++ 62 ∷ [])))

-- a name with a section, which is neither that of the identifiers nor that of the whole text, or is one of these with an origin behind it
pub record IsSectionName (parts : List Part) : Type 0 where
  pub name : List ℕ
  pub atom : IsAtom name
  pub inside : List Part
  pub section : IsSection inside
  pub origin : List ℕ
  pub origins : IsOrigin origin
  pub other : SameWord name (codes "BODY") → IsIdSection inside → origin ≢ []
  pub no_text : SameWord name (codes "BODY") → inside ≡ [] → origin ≢ []
  pub whole : parts ≡ bytes (name ++ 91 ∷ []) ++ inside ++ bytes (93 ∷ origin)

-- any other name and a value
pub record IsOtherItem (parts : List Part) : Type 0 where
  pub name : List Part
  pub named : IsOtherName name ⊎ IsSectionName name
  pub gap : List ℕ
  pub spaces : IsGap gap
  pub value : List Part
  pub valued : IsValue value
  pub whole : parts ≡ name ++ bytes gap ++ value

-- the parts are an item that tells this
abbrev pub IsItem : List Part → Told → Type 0
IsItem parts (UidIs uid) = IsUidItem parts uid
IsItem parts (FlagsAre flags) = IsFlagsItem parts flags
IsItem parts (ModSeqIs modseq) = IsModSeqItem parts modseq
IsItem parts (IdsAre ids) = IsIdsItem parts ids
IsItem parts (TextIs text) = IsTextItem parts text
IsItem parts Nothing = IsOtherItem parts

-- one item or more, with spaces between
abbrev pub AreItems : List Part → List Told → Type 0
AreItems parts [] = ⊥
AreItems parts (told ∷ []) = IsItem parts told
AreItems parts (told ∷ next ∷ more) =
    (item : List Part) × (gap : List ℕ) × (later : List Part) × IsItem item told × IsGap gap
    × (parts ≡ item ++ bytes gap ++ later) × AreItems later (next ∷ more)

-- one item more: of two of one name the last one counts
abbrev pub with_told : Fetched → Told → Fetched
with_told fetched (UidIs uid) = record fetched { uid = Some uid }
with_told fetched (FlagsAre flags) = record fetched { flags = Some flags }
with_told fetched (ModSeqIs modseq) = record fetched { modseq = Some modseq }
with_told fetched (IdsAre ids) = record fetched { ids = Some ids }
with_told fetched (TextIs text) = record fetched { text = Some text }
with_told fetched Nothing = fetched

-- what the items tell together
abbrev pub fetched_of : List Told → Fetched
fetched_of items = fold with_told nothing_fetched items

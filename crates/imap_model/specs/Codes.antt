-- Response codes (RFC 9051, section 7.1; RFC 4315, section 3; RFC 7162, sections 3.1.2, 3.1.3 and 3.2.11).
use Rattle.std.specs.Prelude.{◌≡◌, ◌≢◌, ℕ, Bool, false, IsTrue, List, [], ◌∷◌, ◌++◌, codes}
use Rattle.std.specs.List.{AllByRecursion, list_any}
use Rattle.std.specs.Str.{str_eq_ignore_ascii_case}
use Rattle.imap_model.specs.declared.code.Code.{Code}
use Rattle.imap_model.specs.declared.code.Code.TheVariants as codings
use Rattle.imap_model.specs.Words.{SameWord, Spaced, AreWords}
use Rattle.imap_model.specs.Numbers.{IsNonzero, IsModSeq}
use Rattle.imap_model.specs.Values.{is_wide_byte}
use Rattle.imap_model.specs.FlagLists.{ArePermanent}
use Rattle.uid_sets.specs.SequenceSet.{Spells}

-- the name ends here
abbrev pub EndsName : List ℕ → Type 0
EndsName [] = Unit {0}
EndsName (byte ∷ rest) = is_wide_byte byte ≡ false

-- The code is a name and an argument. The name may have no bytes: such a code is none of those below.
pub record IsSplit (inner name argument : List ℕ) : Type 0 where
  pub wide : AllByRecursion (λ byte. IsTrue (is_wide_byte byte)) name
  pub whole : inner ≡ name ++ argument
  pub ends : EndsName argument

-- the code has this name, in any case, and then this argument
abbrev pub HasName : List ℕ → List ℕ → List ℕ → Type 0
HasName inner name argument = (word : List ℕ) × SameWord word name × IsSplit inner word argument

-- spaces, and then the argument
abbrev pub HasArgument : List ℕ → List ℕ → List ℕ → Type 0
HasArgument inner name argument = (later : List ℕ) × HasName inner name later × Spaced later argument

-- the names of the codes that have a meaning here
abbrev pub known_codes : List (List ℕ)
known_codes = codes "CAPABILITY" ∷ codes "UIDNEXT" ∷ codes "UIDVALIDITY" ∷ codes "PERMANENTFLAGS" ∷ codes "HIGHESTMODSEQ"
    ∷ codes "NOMODSEQ" ∷ codes "UIDNOTSTICKY" ∷ codes "CLOSED" ∷ codes "APPENDUID" ∷ codes "COPYUID" ∷ codes "MODIFIED" ∷ []

abbrev pub is_known_code : List ℕ → Bool
is_known_code name = list_any (λ known. str_eq_ignore_ascii_case known name) known_codes

-- what stands between the brackets spells this code
abbrev pub IsCode : List ℕ → Code → Type 0
IsCode inner codings.None = ⊥
-- capability-data: one word or more
IsCode inner (codings.Capability words) =
    (words ≢ []) × (later : List ℕ) × HasName inner (codes "CAPABILITY") later × AreWords later words []
-- resp-text-code: "UIDNEXT" SP nz-number
IsCode inner (codings.UidNext uid) =
    (digits : List ℕ) × HasArgument inner (codes "UIDNEXT") digits × IsNonzero digits uid
-- "UIDVALIDITY" SP nz-number
IsCode inner (codings.UidValidity validity) =
    (digits : List ℕ) × HasArgument inner (codes "UIDVALIDITY") digits × IsNonzero digits validity
-- "PERMANENTFLAGS" SP "(" [flag-perm *(SP flag-perm)] ")"
IsCode inner (codings.PermanentFlags flags any) =
    (text : List ℕ) × HasArgument inner (codes "PERMANENTFLAGS") (40 ∷ (text ++ 41 ∷ [])) × ArePermanent text flags any
-- RFC 7162, section 3.1.2.1: "HIGHESTMODSEQ" SP mod-sequence-value
IsCode inner (codings.HighestModSeq modseq) =
    (digits : List ℕ) × HasArgument inner (codes "HIGHESTMODSEQ") digits × IsModSeq digits modseq
-- RFC 7162, section 3.1.2.2
IsCode inner codings.NoModSeq = HasName inner (codes "NOMODSEQ") []
-- RFC 4315, section 3: "UIDNOTSTICKY"
IsCode inner codings.UidNotSticky = HasName inner (codes "UIDNOTSTICKY") []
-- RFC 4315, section 3: "APPENDUID" SP nz-number SP append-uid; this client appends one message
IsCode inner (codings.AppendUid validity uid) =
    (first : List ℕ) × (second : List ℕ) × (later : List ℕ) × HasArgument inner (codes "APPENDUID") (first ++ later)
    × IsNonzero first validity × Spaced later second × IsNonzero second uid
-- "COPYUID" SP nz-number SP uid-set SP uid-set
IsCode inner (codings.CopyUid validity source target) =
    (first : List ℕ) × (second : List ℕ) × (third : List ℕ) × (later : List ℕ) × (last : List ℕ)
    × HasArgument inner (codes "COPYUID") (first ++ later) × IsNonzero first validity
    × Spaced later (second ++ last) × Spells second source
    × Spaced last third × Spells third target
-- RFC 7162, section 3.1.3: "MODIFIED" SP sequence-set
IsCode inner (codings.Modified uids) =
    (text : List ℕ) × HasArgument inner (codes "MODIFIED") text × Spells text uids
-- RFC 7162, section 3.2.11
IsCode inner codings.Closed = HasName inner (codes "CLOSED") []
-- any other name, whatever stands behind it
IsCode inner codings.Other =
    (name : List ℕ) × (argument : List ℕ) × IsSplit inner name argument × (is_known_code name ≡ false)

-- What a list of flags holds, and which fault comes first (RFC 9051, section 9, flag-list).
use Rattle.std.specs.Prelude.{◌≡◌, ◌<◌, ◌+◌, ◌==◌, ℕ, suc, Bool, false, not, codes, List, [], ◌∷◌, length, take, fold, nat_lt}
use Rattle.std.specs.Prelude.{slice_index_or, Option, Some, None, if◌then◌else◌}
use Rattle.std.specs.List.{filter, onto_first}
use Rattle.std.specs.Option.{option_or}
use Rattle.std.specs.Str.{bytes_eq}
use Rattle.flag_set.specs.declared.flag_fault.TheConstants.{MAX_FLAGS}
use Rattle.flag_set.specs.declared.flag_fault.FlagFault.{FlagFault}
use Rattle.flag_set.specs.declared.flag_fault.FlagFault.TheVariants.{TooMany}
use Rattle.flag_set.specs.Flag.{refusal}
use Rattle.flag_set.specs.FlagKey.{key_of, recent}
use Rattle.flag_set.specs.FlagSet.{put}

-- the byte between two flags
abbrev pub is_space : ℕ → Bool
is_space byte = byte == 32

-- a space comes first
abbrev pub begins_with_space : List ℕ → Bool
begins_with_space [] = false
begins_with_space (first ∷ rest) = is_space first

-- the pieces of a text at its runs of spaces: outside a run at an end is an empty piece
abbrev pub pieces : List ℕ → List (List ℕ)
pieces [] = [] ∷ []
pieces (first ∷ rest) =
    if is_space first then (if begins_with_space rest then pieces rest else [] ∷ pieces rest) else
    onto_first first (pieces rest)

-- the flags of a list: its pieces, and none where it has no bytes
abbrev pub flags_of : List ℕ → List (List ℕ)
flags_of [] = []
flags_of (first ∷ rest) = pieces (first ∷ rest)

-- the set with a key that was read, which isn't kept where it is that of `\Recent` (this client's profile)
abbrev pub keep : List ℕ → List (List ℕ) → List (List ℕ)
keep key keys = if bytes_eq key recent then keys else put key keys

-- the set with a flag that was read
abbrev pub with_flag : List (List ℕ) → List ℕ → List (List ℕ)
with_flag keys flag = keep (key_of flag) keys

-- the set of the flags
abbrev pub set_of : List (List ℕ) → List (List ℕ)
set_of flags = fold with_flag [] flags

-- why a set is too large, if it is
abbrev pub excess : List (List ℕ) → Option FlagFault
excess keys = if nat_lt MAX_FLAGS (length keys) then Some (TooMany (MAX_FLAGS + 1)) else None

-- why the flag at a place of a list is refused, if it is: for itself, or since the different flags up to it are too many
abbrev pub fault_at : List (List ℕ) → ℕ → Option FlagFault
fault_at flags place = option_or (refusal (slice_index_or flags place [])) (excess (set_of (take (suc place) flags)))

-- no flag of the list is refused
abbrev pub HasNoFault : List (List ℕ) → Type 0
HasNoFault flags = (place : ℕ) → place < length flags → fault_at flags place ≡ None

-- the fault is that of the first flag, from the left, that is refused
pub record IsFirstFault (flags : List (List ℕ)) (fault : FlagFault) : Type 0 where
  pub place : ℕ
  pub within : place < length flags
  pub here : fault_at flags place ≡ Some fault
  pub before : (earlier : ℕ) → earlier < place → fault_at flags earlier ≡ None

-- why one more flag is refused behind those of a set, if it is
abbrev pub next_fault : List (List ℕ) → List ℕ → Option FlagFault
next_fault keys flag = option_or (refusal flag) (excess (with_flag keys flag))

-- the first fault of flags that come to a set, if there is one
abbrev pub fault_behind : List (List ℕ) → List (List ℕ) → Option FlagFault
fault_behind keys [] = None
fault_behind keys (flag ∷ rest) = option_or (next_fault keys flag) (fault_behind (with_flag keys flag) rest)

-- the first fault of a list, if it has one
abbrev pub first_fault_of : List (List ℕ) → Option FlagFault
first_fault_of flags = fault_behind [] flags

-- `\*` among the flags that can be changed for good: new keywords can be made (RFC 9051, section 9, flag-perm)
abbrev pub is_any : List ℕ → Bool
is_any flag = bytes_eq flag (codes "\\*")

-- the flags beside it
abbrev pub flags_alone : List (List ℕ) → List (List ℕ)
flags_alone flags = filter (λ flag. not (is_any flag)) flags

-- the pieces of what is left of a list
abbrev pub pieces_left : Option (List ℕ) → List (List ℕ)
pieces_left None = []
pieces_left (Some text) = pieces text

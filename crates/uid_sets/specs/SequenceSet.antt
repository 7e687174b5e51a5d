-- Reading a sequence-set without "*" (RFC 9051, section 9), and the first fault from the left.
use Rattle.std.specs.Prelude.{◌≡◌, ◌↔◌, ℕ, ◌+◌, min, max, Bool, ◌==◌, nat_lt, if◌then◌else◌, List, [], ◌∷◌, length, take, Result, Ok, Err}
use Rattle.std.specs.List.{before_first, after_first, position_or_len, slice_split, prefix_len}
use Rattle.std.specs.Char.{is_ascii_digit}
use Rattle.std.specs.Str.Parse.{digits_value}
use Rattle.uid_sets.specs.UidSet.{Member, IsCanonical}
use Rattle.uid_sets.specs.declared.uid.UidRange.{UidRange}
use Rattle.uid_sets.specs.declared.set_fault.SetFault.{SetFault}
use Rattle.uid_sets.specs.declared.set_fault.SetFault.TheVariants.{Memory, Empty, Zero, BadNumber, BadByte}

infixl 10 ◌>>=◌
abbrev pub ◌>>=◌ : {A B : Type 0} → Result A SetFault → (A → Result B SetFault) → Result B SetFault
(Ok x) >>= f = f x
(Err e) >>= f = Err e

-- the colon of a range
abbrev pub is_colon : ℕ → Bool
is_colon byte = byte == 58

-- the comma between items
abbrev pub is_comma : ℕ → Bool
is_comma byte = byte == 44

-- how many digits a text begins with
abbrev pub digit_count : List ℕ → ℕ
digit_count text = prefix_len is_ascii_digit text

-- the number that these digits spell
abbrev pub spelt : List ℕ → ℕ
spelt text = digits_value 10 (take (digit_count text) text)

-- A number, whose text begins at this place: it is not 0 (nz-number), has 32 bits, and nothing stands behind its digits.
unfoldable pub number : ℕ → List ℕ → Result ℕ SetFault
number at text =
    if digit_count text == 0 then Err (BadByte at) else
    (if spelt text == 0 then Err (Zero at) else
    (if nat_lt 4294967295 (spelt text) then Err (BadNumber at) else
    (if nat_lt (digit_count text) (length text) then Err (BadByte (at + digit_count text)) else
    Ok (spelt text))))

-- An item: a number (seq-number), or two with a colon between (seq-range), of which either may be the lower.
unfoldable pub item : ℕ → List ℕ → Result UidRange SetFault
item at text =
    if nat_lt (position_or_len is_colon text) (length text)
    then (number at (before_first is_colon text) >>= λ first.
    number (at + position_or_len is_colon text + 1) (after_first is_colon text) >>= λ second.
    Ok (record { low = min first second; high = max first second }))
    else (number at text >>= λ only. Ok (record { low = only; high = only }))

-- items, one behind the other, each a comma behind the one before
unfoldable pub items : ℕ → List (List ℕ) → Result (List UidRange) SetFault
items at [] = Ok []
items at (text ∷ texts) =
    item at text >>= λ range. items (at + (length text + 1)) texts >>= λ ranges. Ok (range ∷ ranges)

-- the items of a whole sequence-set, of which there is at least one, as they are written
unfoldable pub items_of : List ℕ → Result (List UidRange) SetFault
items_of [] = Err Empty
items_of (byte ∷ bytes) = items 0 (slice_split is_comma (byte ∷ bytes))

-- the text is a sequence-set, and these are the ranges of its members
pub record Spells (text : List ℕ) (ranges : List UidRange) : Type 0 where
  pub written : List UidRange
  pub read : items_of text ≡ Ok written
  pub canonical : IsCanonical ranges
  pub members : (uid : ℕ) → Member ranges uid ↔ Member written uid

-- the text has this fault and no earlier one; of want of memory it says nothing
abbrev pub Refuses : List ℕ → SetFault → Type 0
Refuses text Memory = Unit {0}
Refuses text Empty = items_of text ≡ Err Empty
Refuses text (Zero at) = items_of text ≡ Err (Zero at)
Refuses text (BadNumber at) = items_of text ≡ Err (BadNumber at)
Refuses text (BadByte at) = items_of text ≡ Err (BadByte at)

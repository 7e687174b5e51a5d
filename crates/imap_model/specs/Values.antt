-- Values that this client passes over (RFC 9051, section 9: the values of msg-att-static and of esearch-response).
use Rattle.std.specs.Prelude.{◌≡◌, ◌≢◌, ◌⊎◌, ℕ, zero, suc, Bool, IsTrue, ◌&&◌, ◌||◌, ◌==◌, not, nat_lt, List, [], ◌∷◌, ◌++◌, codes}
use Rattle.std.specs.List.{AllByRecursion, flat_map}
use Rattle.std.specs.Str.Parse.{IsNumeral}
use Rattle.imap_model.specs.Parts.{Part, Literal, bytes}
use Rattle.imap_model.specs.Strings.{Character, IsCharacter, quoted_text, IsString}
use Rattle.imap_model.specs.Words.{SameWord}

-- A byte of an atom as servers write it, wider than ATOM-CHAR: from 33 to 255, but none of `(`, `)`, `[`, `]`, `"`, `{` and 127.
abbrev pub is_wide_byte : ℕ → Bool
is_wide_byte byte = nat_lt 32 byte && not (byte == 40 || byte == 41 || byte == 91 || byte == 93 || byte == 34 || byte == 123 || byte == 127)

-- one or more such bytes: an atom, a number or NIL
abbrev pub IsWide : List ℕ → Type 0
IsWide text = (text ≢ []) × AllByRecursion (λ byte. IsTrue (is_wide_byte byte)) text

-- an atom: neither NIL nor digits alone
pub record IsAtom (text : List ℕ) : Type 0 where
  pub wide : IsWide text
  pub not_nil : SameWord text (codes "NIL") → ⊥
  pub not_number : IsNumeral 10 text → ⊥

-- what stands in a list or between brackets
pub data Piece : Type 0 where
  Open : Piece
  Close : Piece
  Single : (byte : ℕ) → Piece
  Quoted : (characters : List Character) → Piece
  Octets : (digits octets : List ℕ) → Piece

abbrev pub IsPiece : Piece → Type 0
IsPiece Open = Unit {0}
IsPiece Close = Unit {0}
IsPiece (Single byte) = IsTrue (is_wide_byte byte || byte == 32 || byte == 91 || byte == 93)
IsPiece (Quoted characters) = AllByRecursion IsCharacter characters
IsPiece (Octets digits octets) = Unit {0}

abbrev pub piece_parts : Piece → List Part
piece_parts Open = bytes (40 ∷ [])
piece_parts Close = bytes (41 ∷ [])
piece_parts (Single byte) = bytes (byte ∷ [])
piece_parts (Quoted characters) = bytes (quoted_text characters)
piece_parts (Octets digits octets) = Literal digits octets ∷ []

-- so many lists are open, and the last piece closes the last of them
abbrev pub Closes : ℕ → List Piece → Type 0
Closes zero [] = Unit {0}
Closes zero (piece ∷ pieces) = ⊥
Closes (suc depth) [] = ⊥
Closes (suc depth) (Open ∷ pieces) = Closes (suc (suc depth)) pieces
Closes (suc depth) (Close ∷ pieces) = Closes depth pieces
Closes (suc depth) (Single byte ∷ pieces) = Closes (suc depth) pieces
Closes (suc depth) (Quoted characters ∷ pieces) = Closes (suc depth) pieces
Closes (suc depth) (Octets digits octets ∷ pieces) = Closes (suc depth) pieces

-- a list in parentheses that is balanced, at whatever depth
abbrev pub IsList : List Part → Type 0
IsList parts = (pieces : List Piece) × AllByRecursion IsPiece pieces × Closes 1 pieces × (parts ≡ bytes (40 ∷ []) ++ flat_map piece_parts pieces)

-- an atom, a number, NIL, a string or a list
abbrev pub IsValue : List Part → Type 0
IsValue parts = ((text : List ℕ) × IsWide text × (parts ≡ bytes text)) ⊎ ((value : List ℕ) × IsString parts value) ⊎ IsList parts

-- `]` is none of the pieces
abbrev pub NotBracket : Piece → Type 0
NotBracket Open = Unit {0}
NotBracket Close = Unit {0}
NotBracket (Single byte) = byte ≢ 93
NotBracket (Quoted characters) = Unit {0}
NotBracket (Octets digits octets) = Unit {0}

-- what stands between the brackets of an item's name, which end at the first `]` outside strings
abbrev pub IsSection : List Part → Type 0
IsSection parts = (pieces : List Piece) × AllByRecursion IsPiece pieces × AllByRecursion NotBracket pieces × (parts ≡ flat_map piece_parts pieces)

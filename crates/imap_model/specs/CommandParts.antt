-- What is sent in parts: behind each part but the last the client waits for a "+" line (RFC 9051, sections 4.3 and 7.6).
use Prim.Native.String.{String}
use Rattle.std.specs.Prelude.{ℕ, List, [], ◌∷◌, ◌++◌, codes, decimal}

-- bytes with no wait among them
abbrev pub line : List ℕ → List (List ℕ)
line bytes = bytes ∷ []

-- a text of ASCII
abbrev pub words : String → List (List ℕ)
words ascii = line (codes ascii)

-- a number without leading zeros
abbrev pub number : ℕ → List (List ℕ)
number n = line (decimal n)

-- the end of a line
abbrev pub crlf : List ℕ
crlf = 13 ∷ 10 ∷ []

-- a line ends, and the client waits
abbrev pub wait : List (List ℕ)
wait = crlf ∷ [] ∷ []

-- bytes in front of parts: they belong to the first one
abbrev pub before : List ℕ → List (List ℕ) → List (List ℕ)
before bytes [] = bytes ∷ []
before bytes (part ∷ parts) = (bytes ++ part) ∷ parts

-- a part and those behind it, and others behind them all
abbrev pub joined : List ℕ → List (List ℕ) → List (List ℕ) → List (List ℕ)
joined part [] later = before part later
joined part (next ∷ parts) later = part ∷ joined next parts later

-- parts, and others behind them: the last of the former and the first of the latter are one part
infixr 30 ◌⌢◌
unfoldable pub ◌⌢◌ : List (List ℕ) → List (List ℕ) → List (List ℕ)
[] ⌢ later = later
(part ∷ parts) ⌢ later = joined part parts later

-- The lines that are repeated (RFC 9051, section 7.5.2).
use Rattle.std.specs.Prelude.{ℕ, List, [], ◌∷◌, ◌++◌, codes, replicate}
use Rattle.mail_bench.specs.declared.load.Case.{Case}
use Rattle.mail_bench.specs.declared.load.Case.TheVariants.{Lines, Literals, Bytes}

-- a message's flags and mod-sequence
abbrev pub short_line : List ℕ
short_line = codes "* 1 FETCH (UID 1 FLAGS (\\Seen) MODSEQ (715))" ++ 13 ∷ 10 ∷ []

-- what stands before the octets of a literal of 1,000,000
abbrev pub literal_front : List ℕ
literal_front = codes "* 1 FETCH (UID 1 BODY[] {1000000}" ++ 13 ∷ 10 ∷ []

-- a message's text as a literal
unfoldable pub long_line : ℕ → List ℕ
long_line octets = literal_front ++ replicate octets 120 ++ codes ")" ++ 13 ∷ 10 ∷ []

-- the line of a case
abbrev pub repeated_text : Case → List ℕ
repeated_text Lines = short_line
repeated_text Literals = long_line 1000000
repeated_text Bytes = short_line

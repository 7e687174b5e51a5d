-- Line ends: each LF that has no CR before it gets one (RFC 5322, section 2.3).
use Rattle.std.specs.Prelude.{ℕ, ◌==◌, List, [], ◌∷◌, ◌++◌, if◌then◌else◌}

-- an LF behind this byte, with a CR before it unless the byte is one
abbrev pub end_behind : ℕ → List ℕ
end_behind before = if before == 13 then 10 ∷ [] else 13 ∷ 10 ∷ []

-- the bytes behind this one, with a CR before each LF that has none
abbrev pub crlf_after : ℕ → List ℕ → List ℕ
crlf_after before [] = []
crlf_after before (byte ∷ rest) = (if byte == 10 then end_behind before else byte ∷ []) ++ crlf_after byte rest

-- the text with a CR before each LF that has none
abbrev pub crlf_of : List ℕ → List ℕ
crlf_of text = crlf_after 0 text

-- the last of the bytes behind this one, or this one where there are none
abbrev pub last_after : ℕ → List ℕ → ℕ
last_after before [] = before
last_after before (byte ∷ rest) = last_after byte rest

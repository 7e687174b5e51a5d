-- The tokens of a line (RFC 9051, section 9): which one begins at a place, and how many bytes it takes.
use Rattle.std.specs.Prelude.{◌≡◌, ◌⊎◌, ℕ, ◌+◌, ◌-◌, Bool, ◌&&◌, ◌||◌, ◌==◌, not, nat_le, nat_lt, nat_eq, List, [], ◌∷◌, length, take}
use Rattle.std.specs.Prelude.{drop, map, codes, Option, Some, None, option_map, if◌then◌else◌}
use Rattle.std.specs.List.{prefix_len, starts_with}
use Rattle.std.specs.Str.{bytes_eq}
use Rattle.std.specs.Char.{is_ascii_digit, to_ascii_lowercase}
use Rattle.mail_base.specs.declared.span.Span.{Span}
use Rattle.imap_tokens.specs.declared.token.TokenKind.{TokenKind}
use Rattle.imap_tokens.specs.declared.token.TokenKind.TheVariants as kinds
use Rattle.imap_tokens.specs.Quoted.{BeginsQuoted, NoQuoted}

-- a byte from 33 to 255 other than `(`, `)`, `[`, `]`, `"`, `{` and 127
abbrev pub is_word_byte : ℕ → Bool
is_word_byte b = nat_lt 32 b && not (b == 40 || b == 41 || b == 91 || b == 93 || b == 34 || b == 123 || b == 127)

abbrev pub is_space : ℕ → Bool
is_space b = b == 32

-- a word is NIL in any case, digits alone, or an atom
abbrev pub word_kind : List ℕ → TokenKind
word_kind word =
    if bytes_eq (map to_ascii_lowercase word) (codes "nil") then kinds.Nil
    else (if prefix_len is_ascii_digit word == length word then kinds.Number
    else kinds.Atom)

-- what may stand behind a backslash: `"` or `\`
abbrev pub is_escaped : ℕ → Bool
is_escaped b = b == 34 || b == 92

-- what no quoted string holds: NUL, LF and CR
abbrev pub is_forbidden : ℕ → Bool
is_forbidden b = b == 0 || b == 10 || b == 13

-- the bytes of a literal's header with its CRLF: the text behind the `{` goes on with digits, `}`, CR and LF
abbrev pub header_size : List ℕ → Option ℕ
header_size text =
    let digits = prefix_len is_ascii_digit text in
    if nat_lt 0 digits && starts_with nat_eq (drop digits text) (125 ∷ 13 ∷ 10 ∷ []) then Some (digits + 4) else None

-- the bytes of the literal: its header, of so many bytes, ends where the octets of the next literal begin
abbrev pub literal_of : Span → ℕ → ℕ → Option ℕ → Option ℕ
literal_of next at len None = None
literal_of next at len (Some size) =
    if nat_le at next.low && next.low - at == size && nat_le next.low next.high && nat_le (next.high - at) len then Some (next.high - at) else None

-- the bytes of the literal whose `{` stands at the place, in front of this text
abbrev pub literal_size : List Span → ℕ → List ℕ → Option ℕ
literal_size [] at text = None
literal_size (next ∷ later) at text = literal_of next at (length text) (header_size (drop 1 text))

-- the token that begins at the place, in front of this text, and how many bytes it takes, if it is no quoted string; no token is None
abbrev pub token_at : List Span → ℕ → List ℕ → Option (TokenKind × ℕ)
token_at literals at [] = None
token_at literals at (b ∷ more) =
    if b == 32 then Some (kinds.Space, prefix_len is_space (b ∷ more))
    else (if b == 40 then Some (kinds.LeftParen, 1)
    else (if b == 41 then Some (kinds.RightParen, 1)
    else (if b == 91 then Some (kinds.LeftBracket, 1)
    else (if b == 93 then Some (kinds.RightBracket, 1)
    else (if b == 123 then option_map (λ size. (kinds.Literal, size)) (literal_size literals at (b ∷ more))
    else (if is_word_byte b then Some (word_kind (take (prefix_len is_word_byte (b ∷ more)) (b ∷ more)), prefix_len is_word_byte (b ∷ more))
    else None))))))

-- the token in front of this text, which has this place, is of this kind and takes so many bytes
abbrev pub IsToken : List Span → ℕ → List ℕ → TokenKind → ℕ → Type 0
IsToken literals at text kind size = (token_at literals at text ≡ Some (kind, size)) ⊎ ((kind ≡ kinds.Quoted) × BeginsQuoted text size)

-- none begins there
abbrev pub NoToken : List Span → ℕ → List ℕ → Type 0
NoToken literals at text = (token_at literals at text ≡ None) × NoQuoted text

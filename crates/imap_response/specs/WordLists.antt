-- Words with spaces before each (RFC 9051, section 9, capability-data), as they are read. A word doesn't end with a literal's header.
use Rattle.std.specs.Prelude.{ℕ, zero, suc, ◌+◌, ◌-◌, Bool, false, ◌&&◌, ◌==◌, nat_eq, nat_lt, List, [], ◌∷◌, length, drop, Option, Some}
use Rattle.std.specs.Prelude.{None, Result, Ok, Err, if◌then◌else◌}
use Rattle.std.specs.List.{prefix_len, starts_with}
use Rattle.std.specs.Char.{is_ascii_digit}
use Rattle.imap_response.specs.Reads.{◌>>=◌}
use Rattle.imap_response.specs.Leaf.{blank_at, gap_at, word_at}

-- the text is a literal's header behind its `{`: digits and `}`
abbrev pub is_header_rest : List ℕ → Bool
is_header_rest text = nat_lt 0 (prefix_len is_ascii_digit text) && length text == prefix_len is_ascii_digit text + 1 && starts_with nat_eq
    (drop (prefix_len is_ascii_digit text) text) (125 ∷ [])

-- the text is a literal's header
abbrev pub is_header : List ℕ → Bool
is_header [] = false
is_header (byte ∷ more) = byte == 123 && is_header_rest more

-- Where the header begins with which the text ends, if it ends with one. So many bytes stand in front of the text.
unfoldable pub header_start : ℕ → List ℕ → Option ℕ
header_start at [] = None
header_start at (byte ∷ more) = if is_header (byte ∷ more) then Some at else header_start (at + 1) more

-- the text, behind which nothing that matters here stands, has no header at its end
abbrev pub no_header : List ℕ → Option ℕ → Result (Unit {0}) ℕ
no_header text None = Ok tt
no_header text (Some at) = Err (length text - at)

-- a word of a byte or more that doesn't end with a header: what stands behind it
unfoldable pub plain_word_at : List ℕ → Result (List ℕ × List ℕ) ℕ
plain_word_at text =
    if length (word_at text).0 == 0 then Err (length text)
    else (no_header text (header_start 0 (word_at text).0) >>= λ _. Ok (word_at text))

-- spaces and such a word
unfoldable pub next_word_at : List ℕ → Result (List ℕ × List ℕ) ℕ
next_word_at text = do
  after ← gap_at text
  plain_word_at after

-- words, and what stands behind them; a text of n bytes has no more than n
unfoldable pub words_from : ℕ → List ℕ → Result (List (List ℕ) × List ℕ) ℕ
words_from zero text = Ok ([], text)
words_from (suc more) text =
    if length (blank_at text) == 0 then Ok ([], text)
    else (next_word_at text >>= λ word. words_from more word.1 >>= λ words. Ok (word.0 ∷ words.0, words.1))

abbrev pub words_at : List ℕ → Result (List (List ℕ) × List ℕ) ℕ
words_at text = words_from (length text) text

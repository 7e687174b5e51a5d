-- Spaces, words and names at the front of a text (RFC 9051, section 9), as they are read.
use Rattle.std.specs.Prelude.{ℕ, Bool, ◌&&◌, ◌||◌, ◌==◌, nat_lt, List, [], ◌∷◌, length, take, drop, map, Result, Ok, Err, if◌then◌else◌}
use Rattle.std.specs.List.{prefix_len}
use Rattle.std.specs.Char.{is_ascii_digit, to_ascii_lowercase}
use Rattle.std.specs.Str.{bytes_eq}
use Rattle.imap_model.specs.Words.{is_word_byte}
use Rattle.imap_model.specs.Values.{is_wide_byte}

abbrev pub is_space : ℕ → Bool
is_space byte = byte == 32

-- what no text of a line holds: NUL, LF and CR
abbrev pub is_forbidden : ℕ → Bool
is_forbidden byte = byte == 0 || byte == 10 || byte == 13

-- the two texts differ in the case of ASCII letters alone
abbrev pub same_word : List ℕ → List ℕ → Bool
same_word word name = bytes_eq (map to_ascii_lowercase word) (map to_ascii_lowercase name)

-- one or more spaces
unfoldable pub gap_at : List ℕ → Result (List ℕ) ℕ
gap_at text = if prefix_len is_space text == 0 then Err (length text) else Ok (drop (prefix_len is_space text) text)

-- what stands behind spaces, also none
abbrev pub blank_at : List ℕ → List ℕ
blank_at text = drop (prefix_len is_space text) text

-- spaces, also none, and the line's end
unfoldable pub end_at : List ℕ → Result (Unit {0}) ℕ
end_at text = if length (blank_at text) == 0 then Ok tt else Err (length (blank_at text))

-- this byte
unfoldable pub mark_at : ℕ → List ℕ → Result (List ℕ) ℕ
mark_at byte [] = Err 0
mark_at byte (first ∷ rest) = if first == byte then Ok rest else Err (length (first ∷ rest))

-- a word of a response line, and what stands behind it
abbrev pub word_at : List ℕ → List ℕ × List ℕ
word_at text = (take (prefix_len is_word_byte text) text, drop (prefix_len is_word_byte text) text)

-- the bytes of an atom, and what stands behind them
abbrev pub wide_at : List ℕ → List ℕ × List ℕ
wide_at text = (take (prefix_len is_wide_byte text) text, drop (prefix_len is_wide_byte text) text)

-- this name
unfoldable pub named_at : List ℕ → List ℕ → Result (List ℕ) ℕ
named_at name text = if same_word (wide_at text).0 name then Ok (wide_at text).1 else Err (length text)

-- one digit or more
abbrev pub is_digits : List ℕ → Bool
is_digits text = nat_lt 0 (length text) && prefix_len is_ascii_digit text == length text

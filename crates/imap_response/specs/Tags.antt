-- The tag of a completion (RFC 9051, section 2.2.1), as it is read.
use Rattle.std.specs.Prelude.{ℕ, ◌+◌, ◌==◌, List, [], ◌∷◌, length, take, drop, codes, Option, Some, None, if◌then◌else◌}
use Rattle.std.specs.List.{prefix_len}
use Rattle.std.specs.Char.{is_ascii_digit}
use Rattle.std.specs.Str.{bytes_eq}
use Rattle.mail_base.specs.declared.tag.Tag.{Tag}
use Rattle.mail_base.specs.declared.tag.Tag.TheVariants.{Play, Again, Count, Strange}
use Rattle.imap_model.specs.Tagged.{is_tag_byte}
use Rattle.imap_model.specs.Values.{is_wide_byte}
use Rattle.imap_response.specs.ReadNumbers.{number_of}

-- Where the first token begins that doesn't fit a tag. So many bytes stand in front, and the last token began there.
unfoldable pub tag_misfit : ℕ → ℕ → List ℕ → Option ℕ
tag_misfit start at [] = None
tag_misfit start at (byte ∷ more) =
    if is_tag_byte byte then tag_misfit (if is_wide_byte byte then start else at + 1) (at + 1) more
    else Some (if is_wide_byte byte then start else at)

-- the number of these digits, if they begin with no 0
abbrev pub lettered : List ℕ → Option ℕ
lettered [] = None
lettered (first ∷ digits) = if first == 48 then None else number_of 4294967295 (first ∷ digits)

-- the turn that `R2` or `R3` names
abbrev pub turn_of : List ℕ → Option ℕ
turn_of text = if bytes_eq text (codes "R2") then Some 2 else (if bytes_eq text (codes "R3") then Some 3 else None)

abbrev pub again_of : ℕ → Option ℕ → Tag
again_of number None = Strange
again_of number (Some turn) = Again number turn

-- the tag of an action with this number, by what stands behind the number
abbrev pub try_of : Option ℕ → List ℕ → Tag
try_of None behind = Strange
try_of (Some number) behind = if length behind == 0 then Play number else again_of number (turn_of behind)

-- what stands behind `P`: a number, and the turn of a later try
abbrev pub play_of : List ℕ → Tag
play_of text = try_of (lettered (take (prefix_len is_ascii_digit text) text)) (drop (prefix_len is_ascii_digit text) text)

abbrev pub count_of : Option ℕ → Tag
count_of None = Strange
count_of (Some number) = Count number

-- what the tag stands for
abbrev pub tag_of : List ℕ → Tag
tag_of [] = Strange
tag_of (first ∷ digits) =
    if first == 80 then play_of digits
    else (if first == 67 then count_of (lettered digits)
    else Strange)

-- The reading of numbers at the front of a text (RFC 9051, section 9, number and nz-number; RFC 7162, section 7, mod-sequence-value).
use Rattle.std.specs.Prelude.{ℕ, ◌&&◌, ◌==◌, ◌-◌, ◌^◌, nat_le, List, Option, Some, None, Result, if◌then◌else◌}
use Rattle.std.specs.Str.Parse.{digits_value}
use Rattle.imap_response.specs.Reads.{with_rest}
use Rattle.imap_response.specs.Leaf.{is_digits, wide_at}

-- the number that the text is, up to the largest one
unfoldable pub number_of : ℕ → List ℕ → Option ℕ
number_of largest text = if is_digits text && nat_le (digits_value 10 text) largest then Some (digits_value 10 text) else None

-- the number isn't 0
abbrev pub nonzero : Option ℕ → Option ℕ
nonzero None = None
nonzero (Some n) = if n == 0 then None else Some n

-- a number of 32 bits
unfoldable pub number_at : List ℕ → Result (ℕ × List ℕ) ℕ
number_at text = with_rest text (wide_at text).1 (number_of 4294967295 (wide_at text).0)

-- a nonzero number of 32 bits
unfoldable pub nonzero_at : List ℕ → Result (ℕ × List ℕ) ℕ
nonzero_at text = with_rest text (wide_at text).1 (nonzero (number_of 4294967295 (wide_at text).0))

-- a mod-sequence
unfoldable pub modseq_at : List ℕ → Result (ℕ × List ℕ) ℕ
modseq_at text = with_rest text (wide_at text).1 (nonzero (number_of (2 ^ 63 - 1) (wide_at text).0))

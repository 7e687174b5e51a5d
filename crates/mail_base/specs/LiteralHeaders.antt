-- The header of a literal at the end of a part of a line (RFC 9051, section 4.3).
use Rattle.std.specs.Prelude.{◌≡◌, ℕ, List, ◌++◌, ◌-◌, ◌^◌, length, min}
use Rattle.std.specs.Str.Parse.{IsNumeral, digits_value}
use Rattle.mail_base.specs.Frames.{header}
use Rattle.mail_base.specs.declared.literal_header.LiteralHeader.{LiteralHeader}

-- the part ends in this header: its digits, where its `{` stands, and the number, told as 2^64 - 1 where it is more
pub record EndsIn (part front digits : List ℕ) (told : LiteralHeader) : Type 0 where
  pub text : part ≡ front ++ header digits
  pub number : IsNumeral 10 digits
  pub at : told.at ≡ length front
  pub octets : told.octets ≡ min (digits_value 10 digits) (2 ^ 64 - 1)

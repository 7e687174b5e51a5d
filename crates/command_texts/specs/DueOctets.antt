-- How many octets are due behind parts, as a program tells it (RFC 9051, section 4.3).
use Rattle.std.specs.Prelude.{◌≡◌, ◌-◌, ◌^◌, ℕ, List, min}
use Rattle.command_texts.specs.Cutting.{IsDue}

-- So many are due, and no other count is. A program tells 2^64 - 1 for more: no bytes that it holds are as many.
pub record TellsDue (parts : List (List ℕ)) (told : ℕ) : Type 0 where
  pub octets : ℕ
  pub due : IsDue parts octets
  pub only : (other : ℕ) → IsDue parts other → other ≡ octets
  pub count : told ≡ min octets (2 ^ 64 - 1)

-- The numbers of responses (RFC 9051, section 9, nz-number and number; RFC 7162, section 7, mod-sequence-value).
use Rattle.std.specs.Prelude.{ℕ, ◌<◌, ◌-◌, ◌^◌, List}
use Rattle.mail_base.specs.Number.{IsNumberUpTo}

-- a number of 32 bits, which may be 0; its first digits may be 0
abbrev pub IsNumber : List ℕ → ℕ → Type 0
IsNumber digits number = IsNumberUpTo 4294967295 digits number

-- a UID, a UIDVALIDITY or a message's number
abbrev pub IsNonzero : List ℕ → ℕ → Type 0
IsNonzero digits number = IsNumber digits number × (0 < number)

-- a mod-sequence
abbrev pub IsModSeq : List ℕ → ℕ → Type 0
IsModSeq digits number = IsNumberUpTo (2 ^ 63 - 1) digits number × (0 < number)

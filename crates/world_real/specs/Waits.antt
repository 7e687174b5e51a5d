-- How long a connection is waited for, in seconds.
use Rattle.std.specs.Prelude.{ℕ, Bool, ◌+◌, ◌/◌, ◌^◌, ◌-◌, min, if◌then◌else◌}

-- a sum of two counts, up to the last value of a count
abbrev pub grown : ℕ → ℕ → ℕ
grown count more = min (2 ^ 64 - 1) (count + more)

-- a minute; and 200 seconds where a long part, or the end of one, is among what is under way
abbrev pub least_patience : Bool → ℕ
least_patience is_long = if is_long then 200 else 60

-- a second more for each 2,000 bytes under way
abbrev pub patience : Bool → ℕ → ℕ
patience is_long under_way = least_patience is_long + under_way / 2000

-- the age at which a stretch ends that began at an age and in which so many bytes were sent
abbrev pub stretch_end : ℕ → ℕ → ℕ
stretch_end begin went = grown begin (900 + went / 2000)

-- The numbers that the system gives to open files and streams. Those of the standard streams are 0, 1 and 2.
use Rattle.std.specs.Prelude.{ℤ, pos, ◌≤ℤ◌, ◌<ℤ◌}

-- it is the number of a standard stream
abbrev pub IsStandard : ℤ → Type 0
IsStandard number = number ≤ℤ pos 2

-- it is a later number, so that nothing that is printed goes there
abbrev pub IsLater : ℤ → Type 0
IsLater number = pos 2 <ℤ number

-- In which pieces and units a stream is counted.
use Rattle.std.specs.Prelude.{ℕ}
use Rattle.mail_bench.specs.declared.load.Case.{Case}
use Rattle.mail_bench.specs.declared.load.Case.TheVariants.{Lines, Literals, Bytes}

-- how many bytes are pushed at once
abbrev pub piece_of : Case → ℕ
piece_of Lines = 65536
piece_of Literals = 65536
piece_of Bytes = 1

-- how many bytes a number in the words counts each
abbrev pub unit_of : Case → ℕ
unit_of Lines = 1000000
unit_of Literals = 1000000
unit_of Bytes = 1000

-- What a block repeats.
use Rattle.std.specs.Prelude.{ℕ, List, take}
use Rattle.mail_bench.specs.declared.block.Block.{Block}

-- its text
abbrev pub text_in : Block → List ℕ
text_in block = take block.period block.bytes.items

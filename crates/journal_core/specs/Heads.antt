-- What the head of a side says.
use Rattle.std.specs.Prelude.{ℕ, List}
use Rattle.journal_core.specs.declared.heads.Head.{Head}
use Rattle.journal_core.specs.declared.heads.Head.TheVariants.{Closed, Wrong, SetUp}
use Rattle.journal_core.specs.Sides.{IsBegun, IsSetUp, HasWrongHeader}

abbrev pub HeadIs : Head → List ℕ → Type 0
HeadIs Closed bytes = IsBegun bytes → ⊥
HeadIs Wrong bytes = HasWrongHeader bytes
HeadIs (SetUp version generation) bytes = IsSetUp version generation bytes

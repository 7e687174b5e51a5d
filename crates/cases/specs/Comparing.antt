-- What is told where something differs.
use Rattle.std.specs.Prelude.{ℕ, ◌≡◌, List, ⊤}
use Rattle.cases.specs.declared.fault.Fault.{Fault}
use Rattle.cases.specs.declared.fault.Fault.TheVariants as faults
use Rattle.cases.specs.declared.fault.WordFault.{WordFault}
use Rattle.cases.specs.declared.fault.WordFault.TheVariants as words

-- the fault of a line is this one of its words
abbrev pub Means : Fault → WordFault → Type 0
Means fault words.Memory = fault ≡ faults.Memory
Means fault words.Form = fault ≡ faults.Form

-- the fault tells what was due and what came, or that memory is out
abbrev pub Tells : Fault → List ℕ → List ℕ → Type 0
Tells faults.Memory due came = ⊤
Tells faults.Form due came = ⊥
Tells (faults.Differs said seen) due came = (said.items ≡ due) × (seen.items ≡ came)
Tells faults.NothingDiffers due came = ⊥

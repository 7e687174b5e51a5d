-- What a reader of a field answers: what reading gives, unless memory runs out.
use Rattle.std.specs.Prelude.{◌≡◌, ℕ, List, Result, Ok, Err, ⊤}
use Rattle.record_codec.specs.declared.misfit.Misfit.{Misfit}
use Rattle.record_codec.specs.declared.misfit.Misfit.TheVariants as misfits

-- the field doesn't fit, and so many bytes were left from its first one on
abbrev pub Fails : {Y : Type 0} → Misfit → Result Y ℕ → Type 0
Fails misfits.Memory read = ⊤
Fails (misfits.Left n) read = read ≡ Err n

-- what a reader returned, seen by view, with the bytes that it left, is what reading gives, unless memory ran out
abbrev pub Gives : {X Y : Type 0} → (X → Y) → Result X Misfit → List ℕ → Result (Y × List ℕ) ℕ → Type 0
Gives view (Ok x) rest read = read ≡ Ok (view x, rest)
Gives view (Err misfit) rest read = Fails misfit read

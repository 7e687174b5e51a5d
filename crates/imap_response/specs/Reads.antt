-- What a reader of a part of a line gives: a value, or how many bytes of the line are left where it doesn't fit. Want of memory
-- may come in place of both.
use Rattle.std.specs.Prelude.{◌≡◌, ℕ, List, length, Option, Some, None, Result, Ok, Err}
use Rattle.imap_response.specs.declared.fault.Misfit.{Misfit}
use Rattle.imap_response.specs.declared.fault.Misfit.TheVariants as misfits

-- what is read behind another reading
infixl 10 ◌>>=◌
abbrev pub ◌>>=◌ : {A B : Type 0} → Result A ℕ → (A → Result B ℕ) → Result B ℕ
(Ok x) >>= f = f x
(Err left) >>= f = Err left

-- the second reading, where the first one doesn't fit
abbrev pub or_else : {A B : Type 0} → Result A ℕ → (A → Result B ℕ) → Result B ℕ → Result B ℕ
or_else (Ok x) f other = f x
or_else (Err left) f other = other

-- a value and what stands behind it, or nothing that fits in front of the text
abbrev pub with_rest : {A : Type 0} → List ℕ → List ℕ → Option A → Result (A × List ℕ) ℕ
with_rest text rest None = Err (length text)
with_rest text rest (Some x) = Ok (x, rest)

-- the misfit is the one that reading meets
abbrev pub Fails : {B : Type 0} → Misfit → Result B ℕ → Type 0
Fails (misfits.At left) read = read ≡ Err left
Fails misfits.Memory read = Unit {0}

-- what a function returned, seen by view, is what reading gives
abbrev pub Gives : {A B : Type 0} → (A → B) → Result A Misfit → Result B ℕ → Type 0
Gives view (Ok x) read = read ≡ Ok (view x)
Gives view (Err misfit) read = Fails misfit read

-- the misfit is a place: the reader takes no memory
abbrev pub IsPlace : Misfit → Type 0
IsPlace (misfits.At left) = Unit {0}
IsPlace misfits.Memory = ⊥

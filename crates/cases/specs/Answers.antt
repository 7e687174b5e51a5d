-- What an answer's words come to (docs/CASES.md, "Words").
use Rattle.std.specs.Prelude.{ℕ, ◌≡◌, ◌-◌, ◌==◌, ◌&&◌, ◌++◌, Bool, true, List, [], ◌∷◌, codes, length, slice_get, Option, Some, None, if◌then◌else◌, IfErr, OnOk, Result}
use Rattle.cases.specs.Written.{is_parting, written}
use Rattle.cases.specs.declared.fault.WordFault.{WordFault}
use Rattle.cases.specs.declared.fault.WordFault.TheVariants.{Memory}
use Rattle.cases.specs.declared.words.Word.{Word}

-- whether a byte ends a line; none does, too
abbrev pub is_end : Option ℕ → Bool
is_end None = true
is_end (Some byte) = byte == 10

-- whether a word that is added would be the first one of its line
abbrev pub begins_line : List ℕ → Bool
begins_line text = is_end (slice_get text (length text - 1))

-- a text with the space that parts it from the next word
abbrev pub spaced : List ℕ → List ℕ
spaced text = if begins_line text then text else text ++ 32 ∷ []

-- a text with one more word
abbrev pub joined : List ℕ → List ℕ → List ℕ
joined text word = spaced text ++ word

-- a text with more words
abbrev pub added : List ℕ → List (List ℕ) → List ℕ
added text [] = text
added text (word ∷ more) = added (joined text word) more

-- a word in its one form: what parts others stays bare
abbrev pub one_form : Word → List ℕ
one_form word = if word.is_bare && is_parting word.bytes then word.bytes else written word.bytes

-- the answer is this text now, or memory is out
abbrev pub Adds : {T : Type 0} → Result T WordFault → List ℕ → List ℕ → Type 0
Adds result now text = OnOk result (now ≡ text) × IfErr result (λ fault. fault ≡ Memory)

-- whether something is so, as a word
abbrev pub yes_or_no : Bool → List ℕ
yes_or_no is = if is then codes "yes" else codes "no"

-- An argument of a command, as it is found in a text (RFC 9051, section 9, astring).
use Rattle.std.specs.Prelude.{◌≡◌, ℕ, Bool, true, not, ◌==◌, ◌||◌, List, [], ◌∷◌}
use Rattle.std.specs.List.{list_all}
use Rattle.command_texts.specs.declared.reading.arguments.Argument.{Argument}

-- no byte of the word is the mark
abbrev pub Lacks : ℕ → List ℕ → Type 0
Lacks mark word = list_all (λ byte. not (byte == mark)) word ≡ true

-- a space, or the byte that the end of a line begins with
abbrev pub ends_argument : ℕ → Bool
ends_argument byte = byte == 32 || byte == 13

-- such a byte comes next
abbrev pub EndsArgument : List ℕ → Type 0
EndsArgument [] = ⊥
EndsArgument (byte ∷ rest) = ends_argument byte ≡ true

-- the argument is these bytes, and this is left of its last part, and of the parts behind that one
pub record IsArgument (bytes left : List ℕ) (behind : List (List ℕ)) (argument : Argument) : Type 0 where
  pub text : argument.text.items ≡ bytes
  pub rest : argument.rest.now ≡ left
  pub later : argument.later.now ≡ behind

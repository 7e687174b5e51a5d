use Rattle.std.proofs.Common.{◌≡◌, ◌++◌, ◌-◌, length, map}
use Rattle.std.specs.String.{string_bytes}
use Rattle.cases.specs.Taking.{bytes_of}
use Rattle.cases.proofs.input.Input.letters_left.Given as goal

abbrev pub invariant-loop : goal.invariant-loop
invariant-loop l = (map string_bytes l.texts.items ++ bytes_of l.self.words.now ≡ bytes_of l.fn.self.words.now)
    × (length l.self.words.now ≡ l.end - l.counter)

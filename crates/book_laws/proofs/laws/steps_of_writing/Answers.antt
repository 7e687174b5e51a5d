-- Each step as it stands.
use Rattle.std.proofs.Common.{refl}
use Rattle.book_laws.proofs.laws.steps_of_writing.Goals as goal

pub returns : goal.returns
returns c = record {
  begun = λ b event s w follows permitted. record { book = b; firm = refl; follows = follows; permitted = permitted; becomes = refl };
  firm = λ b c s w. record { before = b; later = c; begun = refl; becomes = refl };
  chosen = λ first b c s w. record { before = b; later = c; begun = refl; becomes = refl };
}

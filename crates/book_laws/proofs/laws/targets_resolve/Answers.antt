-- The law, by its lemmas.
use Rattle.book_laws.proofs.Resolving.{of_flag, of_move}
use Rattle.book_laws.proofs.laws.targets_resolve.Goals as goal

pub returns : goal.returns
returns c = record {
  of_flag = λ b q target add flags sound there. of_flag b sound q there target add flags;
  of_move = λ b q target to sound there. of_move b sound q there target to;
}

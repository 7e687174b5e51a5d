-- The law, by its lemmas.
use Rattle.std.proofs.Common.{Some, None}
use Rattle.book_laws.proofs.Carrying.{nothing_waits, carries_book}
use Rattle.book_laws.proofs.Foreign.{others_book, of_after, spared_same}
use Rattle.book_laws.proofs.Entering.{book_keeps}
use Rattle.book_laws.proofs.Keeping.{sent, quiet_keeps, asked_quiet}
use Rattle.book_laws.proofs.laws.kept_by_book.Goals as goal

pub returns : goal.returns
returns c = record {
  event = λ b e s w follows permitted kept. book_keeps b e s w kept follows permitted;
  sent = λ b s w of kept. sent b s None w kept of;
  asked = λ b s w harmless kept. quiet_keeps b s None (Some w) (asked_quiet w harmless) kept;
  carried = λ b s t w carries kept. carries_book b s t w kept carries;
  dropped = λ b s w kept. quiet_keeps b s w None nothing_waits kept;
  others = λ b s t w batch spares keeps kept. others_book b s t w batch spares keeps kept;
  sendable = of_after;
  spared = spared_same;
}

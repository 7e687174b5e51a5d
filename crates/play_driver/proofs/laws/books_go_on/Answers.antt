use Rattle.play_driver.proofs.BooksOn.{takes_books, settles_books, chooses_books, begins_books, stop_books, linked_books, books_keep}
use Rattle.play_driver.proofs.laws.books_go_on.Goals as goal

pub returns-clause-recording : goal.returns-clause-recording
returns-clause-recording g c = takes_books g.R.Related.ledger

pub returns-clause-opening : goal.returns-clause-opening
returns-clause-opening g c = settles_books g.R.Related.ledger

pub returns-clause-choosing : goal.returns-clause-choosing
returns-clause-choosing g c = chooses_books g.R.Related.ledger

pub returns-clause-beginning : goal.returns-clause-beginning
returns-clause-beginning g c = begins_books g.R.Related.ledger

pub returns-clause-stopping : goal.returns-clause-stopping
returns-clause-stopping g c = stop_books g.R.Related.ledger

pub returns-clause-linking : goal.returns-clause-linking
returns-clause-linking g c = linked_books g.R.Related.ledger g.R.Related.moves

pub returns-clause-keeping : goal.returns-clause-keeping
returns-clause-keeping g c = books_keep g.R.Related.ledger g.R.Related.one_event g.R.Related.property

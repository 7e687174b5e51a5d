-- The law, by its lemmas.
use Rattle.book_laws.proofs.ConnectionSteps.{answering_steps, connecting_steps, arriving_steps}
use Rattle.book_laws.proofs.laws.steps_of_connection.Goals as goal

pub returns : goal.returns
returns c = record { answering = answering_steps; connecting = connecting_steps; arriving = arriving_steps }

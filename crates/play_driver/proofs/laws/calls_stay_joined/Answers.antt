use Rattle.play_driver.proofs.Calls.{takes_stays, settles_stays, chooses_stays, begins_stays, linked_stays, enquires_stays, sends_stays}
use Rattle.play_driver.proofs.Choices.{stop_joins}
use Rattle.play_driver.proofs.laws.calls_stay_joined.Goals as goal

pub returns-clause-recording : goal.returns-clause-recording
returns-clause-recording g c = takes_stays g.J.Steady.ledger g.J.Steady.one_event g.J.Steady.relation g.J.Steady.machine g.J.Steady.withstands

pub returns-clause-opening : goal.returns-clause-opening
returns-clause-opening g c = settles_stays g.J.Steady.ledger g.J.Steady.one_event g.J.Steady.relation g.J.Steady.machine g.J.Steady.withstands

pub returns-clause-choosing : goal.returns-clause-choosing
returns-clause-choosing g c = chooses_stays g.J.Steady.ledger g.J.Steady.one_event g.J.Steady.relation g.J.Steady.machine g.J.Steady.withstands

pub returns-clause-beginning : goal.returns-clause-beginning
returns-clause-beginning g c = begins_stays g.J.Steady.ledger g.J.Steady.one_event g.J.Steady.relation g.J.Steady.machine g.J.Steady.withstands

pub returns-clause-stopping : goal.returns-clause-stopping
returns-clause-stopping g c = stop_joins g.J.Steady.ledger g.J.Steady.machine

pub returns-clause-linking : goal.returns-clause-linking
returns-clause-linking g c = linked_stays g.J.Steady.ledger g.J.Steady.one_event g.J.Steady.relation g.J.Steady.machine g.J.Steady.withstands g.J.Steady.moves
    g.J.Steady.known

pub returns-clause-asking : goal.returns-clause-asking
returns-clause-asking g c = enquires_stays g.J.Steady.ledger g.J.Steady.one_event g.J.Steady.relation g.J.Steady.machine g.J.Steady.withstands

pub returns-clause-sending : goal.returns-clause-sending
returns-clause-sending g c = sends_stays g.J.Steady.ledger g.J.Steady.one_event g.J.Steady.relation g.J.Steady.machine g.J.Steady.withstands

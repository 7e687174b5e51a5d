use Rattle.response_lines.proofs.LineTurns.{messages_behind, place_found, place_missing}
use Rattle.response_lines.proofs.line.place_from.Goals as goal

pub returns-in-Some-uid_place : goal.returns-in-Some-uid_place
returns-in-Some-uid_place c = place_found c.args.messages.now c.in-Some.rest.now c.args.at c.args.uid c.in-Some-uid_place.further c.uid_place.result
    (messages_behind c.args.messages.now c.in-Some.rest.now c.args.at c.in-Some.ensures.lookup.0.2) c.uid_place.ensures.value c.in-Some-uid_place.is

pub returns-in-None : goal.returns-in-None
returns-in-None c = place_missing c.args.messages.now c.in-Some.rest.now c.args.at c.args.uid c.uid_place.result
    (messages_behind c.args.messages.now c.in-Some.rest.now c.args.at c.in-Some.ensures.lookup.0.2) c.uid_place.ensures.value c.in-None.is

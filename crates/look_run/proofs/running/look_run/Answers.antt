use Rattle.mail_base.specs.declared.status.Status.TheVariants as status
use Rattle.mail_top.proofs.Endings.{ended_so, said_as, said_disk, said_words}
use Rattle.look_run.proofs.Endings.{completes, letter_printed, said_ends}
use Rattle.look_run.proofs.running.look_run.Goals as goal

pub returns-clause-ends : goal.returns-clause-ends
returns-clause-ends g c tells = (_, said_ends _ _ _ _ _ c.say.ensures.status (c.looked-ending.ensures.ends tells), c.say.ensures.prints)

pub returns-clause-words : goal.returns-clause-words
returns-clause-words g c = said_words _ _ _ c.say.ensures.status c.looked-ending.ensures.words

pub returns-clause-reason : goal.returns-clause-reason
returns-clause-reason g c is = c.looked-ending.ensures.reason (said_as status.Reason _ _ (λ e. cc e) c.say.ensures.status is)

pub returns-clause-disk : goal.returns-clause-disk
returns-clause-disk g c is = c.looked-ending.ensures.cause (said_disk _ _ c.say.ensures.status is)

pub returns-clause-unfailed : goal.returns-clause-unfailed
returns-clause-unfailed g c other =
    c.looked-ending.ensures.unfailed (λ is. other (ended_so status.Disk _ _ (λ e. cc e) (λ e. cc e) c.say.ensures.status is))

pub returns-clause-complete : goal.returns-clause-complete
returns-clause-complete g c tells look asks seen no_disk no_sink =
    let begun = c.looked-ending.ensures in
    let said = c.say.ensures in
    completes _ _ _ _ (said_ends _ _ _ _ _ said.status (begun.ends tells)) (said_words _ _ _ said.status begun.words).0
    (λ is. no_disk (begun.cause (said_disk _ _ said.status is))) (λ is. no_sink (said.output is)) look asks seen

pub returns-clause-letter : goal.returns-clause-letter
returns-clause-letter g c tells sink_tells n writes to flags text id named held is =
    let begun = c.looked-ending.ensures in
    let said = c.say.ensures in
    letter_printed _ (g.met.D.Disk.seen_is c.args.disk.now tells) n to flags text id named held _ writes _ _ is
    (said_ends _ _ _ _ _ said.status (begun.ends tells)) _ _ _ _ (said.prints sink_tells)

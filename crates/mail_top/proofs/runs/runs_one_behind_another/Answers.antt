use Rattle.mail_top.proofs.Repeated.{restart_begins, follows_held, accepted_stays, accepted_before, follows_ready, follows_any, follows_names}
use Rattle.mail_top.proofs.Headlines.{kept_owned}
use Rattle.mail_top.proofs.KeptRuns.{cuts, fair_follows, follows_kept, follows_few}
use Rattle.mail_top.proofs.runs.runs_one_behind_another.Goals as goal

pub returns-clause-begins : goal.returns-clause-begins
returns-clause-begins c = restart_begins

pub returns-clause-cut_off : goal.returns-clause-cut_off
returns-clause-cut_off c = cuts

pub returns-clause-held : goal.returns-clause-held
returns-clause-held c = follows_held

pub returns-clause-accepted : goal.returns-clause-accepted
returns-clause-accepted c change k text is last follows = accepted_stays change k text is last follows

pub returns-clause-numbered : goal.returns-clause-numbered
returns-clause-numbered c change k text is last follows later = accepted_before change k text is last follows later

pub returns-clause-whole : goal.returns-clause-whole
returns-clause-whole c = follows_ready

pub returns-clause-ready : goal.returns-clause-ready
returns-clause-ready c = follows_any

pub returns-clause-journal : goal.returns-clause-journal
returns-clause-journal c = follows_names

pub returns-clause-fair : goal.returns-clause-fair
returns-clause-fair c = fair_follows

pub returns-clause-kept : goal.returns-clause-kept
returns-clause-kept c = follows_kept

pub returns-clause-twice : goal.returns-clause-twice
returns-clause-twice c = follows_few

pub returns-clause-owned : goal.returns-clause-owned
returns-clause-owned c = λ first last ready kept follows. kept_owned last (follows_kept first last ready kept follows)

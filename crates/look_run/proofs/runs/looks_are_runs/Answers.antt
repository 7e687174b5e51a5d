use Rattle.look_run.proofs.LookRuns.{looks_cut, looks_fair}
use Rattle.look_run.proofs.runs.looks_are_runs.Goals as goal

pub returns-clause-cut : goal.returns-clause-cut
returns-clause-cut c = looks_cut

pub returns-clause-fair : goal.returns-clause-fair
returns-clause-fair c = looks_fair

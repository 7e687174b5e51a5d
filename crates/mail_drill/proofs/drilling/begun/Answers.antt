-- What setting up leaves is what the commands begin with.
use Rattle.std.proofs.lemmas.Result.{err_from_is_err_and}
use Rattle.mail_drill.proofs.drilling.begun.Goals as goal

pub returns-clause-done : goal.returns-clause-done
returns-clause-done c =
    let s = c.in_ok-set_up.ensures.done c.args.size c.requires.new c.requires.sufficed in c.give_all.ensures.done s.0 s.1 s.2 s.3

pub returns-clause-gives : goal.returns-clause-gives
returns-clause-gives c = c.give_all.ensures.gives c.args.draws.now (c.in_ok-set_up.ensures.gives c.args.size c.args.draws.now c.requires.new)

pub returns-clause-broken : goal.returns-clause-broken
returns-clause-broken c = c.give_all.ensures.broken c.args.draws.now (c.in_ok-set_up.ensures.gives c.args.size c.args.draws.now c.requires.new)

pub returns-in_err-set_up-clause-broken : goal.returns-in_err-set_up-clause-broken
returns-in_err-set_up-clause-broken c =
    let p = err_from_is_err_and c.from_residual.result c.from_residual.ensures.1 in
    rw (p.1, p.2) (c.in_err-set_up.ensures.broken c.args.size c.args.draws.now c.requires.new)

pub returns-clause-foreseen : goal.returns-clause-foreseen
returns-clause-foreseen c =
    let s = c.in_ok-set_up.ensures.done c.args.size c.requires.new c.requires.sufficed in c.give_all.ensures.foreseen s.0 s.1 s.2 s.3

pub returns-in_err-set_up-clause-foreseen : goal.returns-in_err-set_up-clause-foreseen
returns-in_err-set_up-clause-foreseen c =
    let p = err_from_is_err_and c.from_residual.result c.from_residual.ensures.1 in
    rw (p.1, p.2) (c.in_err-set_up.ensures.foreseen c.args.size c.requires.new)

use Rattle.std.proofs.Common.{◌∷◌}
use Rattle.command_texts.proofs.FrontReading.{login_rest, login_is}
use Rattle.command_texts.proofs.reading.fronts.login_front.Goals as goal

pub returns : goal.returns
returns c = λ awaited held kind is.
    login_is awaited (c.behind.result.now ∷ c.args.later.now) _ held
    (rw (← c.behind.ensures) at
    (login_rest awaited c.args.text.now c.args.later.now is kind)) c.login_begun.ensures.user c.login_begun.ensures.password

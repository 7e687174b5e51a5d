use Rattle.play_driver.proofs.MayServe.{may_serve}
use Rattle.play_driver.proofs.laws.a_server_may_serve.Goals as goal

pub returns : goal.returns
returns c = may_serve

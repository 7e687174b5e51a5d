-- What the trait says of content and of a server holds, since nothing of them is told.
use Rattle.std.proofs.Common.{ap, rules}
use Rattle.world_real.specs.Faults.{Faults}
use Rattle.world_real.proofs.real_world.RealWorldLink.TheImpl.Goals as goal

pub connect-tells : goal.connect-tells
connect-tells g c = record {
  disk = c.ensures.disk;
  files = λ tells. absurd tells;
  told = λ tells. absurd tells;
  anew = λ tells. absurd tells;
  greets = λ tells. absurd tells;
  made = λ tells. absurd tells;
  failed = λ tells. absurd tells;
  count = c.ensures.count;
  cause = c.ensures.cause;
  unfailed = search rules;
}

pub send-tells : goal.send-tells
send-tells g c = record {
  disk = c.ensures.disk;
  files = λ tells. absurd tells;
  told = λ tells. absurd tells;
  sent = λ tells. absurd tells;
  front = λ tells. absurd tells;
  earlier = λ tells. absurd tells;
  received = λ tells. absurd tells;
  lost = λ tells. absurd tells;
  count = c.ensures.count;
  cause = c.ensures.cause;
  unfailed = search rules;
}

pub recv-tells : goal.recv-tells
recv-tells g c = record {
  some = c.ensures.some;
  fits = c.ensures.fits;
  disk = c.ensures.disk;
  files = λ tells. absurd tells;
  told = λ tells. absurd tells;
  received = λ tells. absurd tells;
  sent = λ tells. absurd tells;
  earlier = λ tells. absurd tells;
  lost = λ tells. absurd tells;
  count = c.ensures.count;
  cause = c.ensures.cause;
  unfailed = search rules;
}

pub close-tells : goal.close-tells
close-tells g c = record {
  disk = ap (λ (f : Faults). f.disk) c.ensures.same;
  files = λ tells. absurd tells;
  told = λ tells. absurd tells;
  ended = λ tells. absurd tells;
  sent = λ tells. absurd tells;
  earlier = λ tells. absurd tells;
  count = ap (λ (f : Faults). f.link) c.ensures.same;
}

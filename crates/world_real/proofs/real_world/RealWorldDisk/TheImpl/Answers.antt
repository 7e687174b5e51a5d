-- What the trait says of content holds, since nothing of it is told.
use Rattle.std.proofs.Common.{ap, rules}
use Rattle.world_traits.specs.LinkState.{failed_link}
use Rattle.world_real.proofs.real_world.RealWorldDisk.TheImpl.Goals as goal

pub length-tells : goal.length-tells
length-tells g c = record {
  value = λ tells. absurd tells;
  told = λ tells. absurd tells;
  count = c.ensures.count;
  link = ap failed_link c.ensures.link;
  cause = c.ensures.cause;
  unfailed = search rules;
}

pub read-tells : goal.read-tells
read-tells g c = record {
  fits = c.ensures.fits;
  value = λ tells. absurd tells;
  bytes = λ tells. absurd tells;
  told = λ tells. absurd tells;
  count = c.ensures.count;
  link = ap failed_link c.ensures.link;
  cause = c.ensures.cause;
  unfailed = search rules;
}

pub write_at-tells : goal.write_at-tells
write_at-tells g c = record {
  told = λ tells. absurd tells;
  count = c.ensures.count;
  link = ap failed_link c.ensures.link;
  cause = c.ensures.cause;
  unfailed = search rules;
}

pub sync-tells : goal.sync-tells
sync-tells g c = record {
  told = λ tells. absurd tells;
  count = c.ensures.count;
  link = ap failed_link c.ensures.link;
  cause = c.ensures.cause;
  unfailed = search rules;
}

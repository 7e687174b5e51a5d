use Rattle.std.proofs.Common.{Ok, ap, refl}
use Rattle.body_cache.proofs.Founds.{made}
use Rattle.body_cache.specs.Carrying.Puts.{fails, puts, wants}
use Rattle.body_cache.proofs.carrying.kept.Goals as goal

-- memory is wanting
pub returns-in_err-line-clause-puts : goal.returns-in_err-line-clause-puts
returns-in_err-line-clause-puts g c = wants (made c.from_residual.result _ c.from_residual.ensures.1) (λ t. refl)

-- it is put
pub returns-in-Ok-clause-puts : goal.returns-in-Ok-clause-puts
returns-in-Ok-clause-puts g c = puts (ap (λ (x : _). Ok x) c.in_ok-line.ensures) (λ t. c.in-Ok.ensures.put t)

-- the shelf failed
pub returns-in-Err-clause-puts : goal.returns-in-Err-clause-puts
returns-in-Err-clause-puts g c = fails refl (λ t. c.put.ensures.others t)

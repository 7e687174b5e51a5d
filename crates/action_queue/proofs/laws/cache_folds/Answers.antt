use Rattle.action_queue.proofs.AnewCaches.{cache_folds}
use Rattle.action_queue.proofs.laws.cache_folds.Goals as goal

pub returns : goal.returns
returns c version boxes name cache first later evs known none well is tells = cache_folds version boxes name cache known first later evs none well is tells

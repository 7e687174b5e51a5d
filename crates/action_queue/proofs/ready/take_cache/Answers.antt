-- What is put at a place where something was put is all that counts there.
use Rattle.action_queue.proofs.Placing.{set_twice}
use Rattle.action_queue.proofs.ready.take_cache.Goals as goal

pub returns-clause-others : goal.returns-clause-others
returns-clause-others c = λ known. set_twice c.args.boxes.now.items c.args.at _ known

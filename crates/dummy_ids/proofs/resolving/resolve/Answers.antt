use Rattle.dummy_ids.proofs.Fates.{landed_there, still_to_come, never_comes}
use Rattle.dummy_ids.proofs.resolving.resolve.Goals as goal

pub returns-clause-landed : goal.returns-clause-landed
returns-clause-landed c = λ n dummy m. landed_there c.args.book.now.queue.items c.args.target.now c.resolved.result n c.resolved.ensures dummy m

pub returns-clause-not_yet : goal.returns-clause-not_yet
returns-clause-not_yet c = λ n dummy m. still_to_come c.args.book.now.queue.items c.args.target.now c.resolved.result n c.resolved.ensures dummy m

pub returns-clause-never : goal.returns-clause-never
returns-clause-never c = λ n dummy m. never_comes c.args.book.now.queue.items c.args.target.now c.resolved.result n c.resolved.ensures dummy m

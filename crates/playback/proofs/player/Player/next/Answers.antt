use Rattle.action_queue.specs.Book.{meaning}
use Rattle.playback.proofs.Allowing.{needed_allowed}
use Rattle.playback.proofs.Calls.{parts}
use Rattle.playback.proofs.Finishing.{finished_need}
use Rattle.playback.proofs.Lawfulness.{needed_lawful}
use Rattle.playback.proofs.player.Player.next.Goals as goal

pub returns-clause-finished : goal.returns-clause-finished
returns-clause-finished c = finished_need c.args.self.now (meaning c.args.book.now)

pub returns-clause-lawful : goal.returns-clause-lawful
returns-clause-lawful c = needed_lawful parts c.args.self.now (meaning c.args.book.now) c.need.result c.need.ensures.value

pub returns-clause-allowed : goal.returns-clause-allowed
returns-clause-allowed c = needed_allowed c.args.self.now (meaning c.args.book.now) c.need.result c.need.ensures.value

use Rattle.std.proofs.Common.{subst, sym, ◌<◌}
use Rattle.action_queue.specs.Book.{meaning}
use Rattle.playback.specs.Left.{left}
use Rattle.playback.specs.declared.player.Player.{Player}
use Rattle.playback.proofs.Committing.{committed_falls}
use Rattle.playback.proofs.Recording.{behind_beside, behind_entered, behind_knows}
use Rattle.playback.proofs.player.Player.committed.Goals as goal

pub returns-clause-beside : goal.returns-clause-beside
returns-clause-beside c = behind_beside c.args.self.now c.go_on.new.self (meaning c.args.book.now) c.go_on.ensures.value

pub returns-clause-falls : goal.returns-clause-falls
returns-clause-falls c = λ before event is records sound beside.
    subst (λ (p : Player). left p (meaning c.args.book.now) < left c.args.self.now before) (sym c.go_on.ensures.value)
    (committed_falls c.args.self.now before (meaning c.args.book.now) event is records sound beside)

pub returns-clause-entered : goal.returns-clause-entered
returns-clause-entered c = behind_entered c.args.self.now c.go_on.new.self (meaning c.args.book.now) c.go_on.ensures.value

pub returns-clause-knows : goal.returns-clause-knows
returns-clause-knows c = behind_knows c.args.self.now c.go_on.new.self (meaning c.args.book.now) c.go_on.ensures.value

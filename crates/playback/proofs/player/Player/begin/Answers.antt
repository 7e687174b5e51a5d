use Rattle.std.proofs.Common.{subst, sym}
use Rattle.action_queue.specs.Book.{meaning}
use Rattle.playback.specs.Choosing.{IsEntered}
use Rattle.playback.specs.Knows.{Knows}
use Rattle.playback.specs.Needs.{IsBeside}
use Rattle.playback.specs.Worlds.{begins}
use Rattle.playback.specs.declared.player.Player.{Player}
use Rattle.playback.proofs.Recording.{begins_beside, begins_entered, begins_know}
use Rattle.playback.proofs.player.Player.begin.Goals as goal

pub returns-clause-beside : goal.returns-clause-beside
returns-clause-beside c =
    subst (λ (p : Player). IsBeside p (meaning c.args.book.now)) (sym c.begun.ensures)
    (begins_beside c.args.alloc (meaning c.args.book.now))

pub returns-clause-entered : goal.returns-clause-entered
returns-clause-entered c =
    subst (λ (p : Player). IsEntered (meaning c.args.book.now) p (meaning c.args.book.now)) (sym c.begun.ensures)
    (begins_entered c.args.alloc (meaning c.args.book.now))

pub returns-clause-knows : goal.returns-clause-knows
returns-clause-knows c = λ s kept.
    subst (λ (p : Player). Knows p (meaning c.args.book.now) (begins s)) (sym c.begun.ensures)
    (begins_know c.args.alloc (meaning c.args.book.now) s kept)

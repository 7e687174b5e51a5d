use Rattle.action_queue.specs.Book.{meaning}
use Rattle.playback.proofs.Learning.{learn_beside, learn_entered, learn_falls, learn_goes, learn_knows, learn_needed}
use Rattle.playback.proofs.player.Player.learn.Goals as goal

pub returns-clause-value : goal.returns-clause-value
returns-clause-value c =
    learn_needed c.args.self.now c.move_out.new.self (meaning c.args.book.now) c.move_out.result c.move_out.ensures.value
    c.move_out.ensures.goes

pub returns-clause-goes : goal.returns-clause-goes
returns-clause-goes c =
    learn_goes c.args.self.now c.move_out.new.self (meaning c.args.book.now) c.move_out.result c.move_out.ensures.value
    c.move_out.ensures.goes

pub returns-clause-beside : goal.returns-clause-beside
returns-clause-beside c =
    learn_beside c.args.self.now c.move_out.new.self (meaning c.args.book.now) c.move_out.result c.move_out.ensures.value
    c.move_out.ensures.goes

pub returns-clause-falls : goal.returns-clause-falls
returns-clause-falls c =
    learn_falls c.args.self.now c.move_out.new.self (meaning c.args.book.now) c.move_out.result c.move_out.ensures.value
    c.move_out.ensures.goes

pub returns-clause-entered : goal.returns-clause-entered
returns-clause-entered c =
    learn_entered c.args.self.now c.move_out.new.self (meaning c.args.book.now) c.move_out.result c.move_out.ensures.value
    c.move_out.ensures.goes

pub returns-clause-knows : goal.returns-clause-knows
returns-clause-knows c =
    learn_knows c.args.self.now c.move_out.new.self (meaning c.args.book.now) c.move_out.result c.move_out.ensures.value
    c.move_out.ensures.goes

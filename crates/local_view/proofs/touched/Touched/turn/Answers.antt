use Rattle.std.proofs.lemmas.Result.{on_ok_weaker}
use Rattle.local_view.proofs.Touches.{turned_made}
use Rattle.local_view.proofs.touched.Touched.turn.Goals as goal

pub returns-in-Made : goal.returns-in-Made
returns-in-Made c =
    on_ok_weaker c.make.result
    (turned_made c.args.boxes.now c.args.self.now c.make.new.self c.args.message.now c.in-Made.id c.args.flags c.in-Made.is c.requires)
    (c.make.ensures c.args.boxes.now)

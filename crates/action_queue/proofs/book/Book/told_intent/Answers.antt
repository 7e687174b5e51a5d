-- The pending intent stands at the first place alone.
use Rattle.std.proofs.Common.{sym, arith}
use Rattle.action_queue.proofs.Told.{intent_none, intent_past, intent_there}
use Rattle.action_queue.proofs.book.Book.told_intent.Goals as goal

pub returns-then-left-ne0 : goal.returns-then-left-ne0
returns-then-left-ne0 c = sym (intent_past c.args.self.now.pending c.args.self.now.queue.items c.args.left (omega arith))

pub returns-in-None : goal.returns-in-None
returns-in-None c = intent_none c.args.self.now.pending c.args.self.now.queue.items c.args.left c.in-None.is

pub returns-in-Some : goal.returns-in-Some
returns-in-Some c =
    intent_there c.args.self.now.pending c.args.self.now.queue.items c.args.left c.args.id _ _ c.in-Some.is (omega arith) c.requires c.copy.ensures

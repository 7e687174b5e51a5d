use Rattle.std.proofs.Common.{◌∙◌, sym}
use Rattle.server_mem.proofs.mem_server.MemServer.answer_front.Goals as goal

pub deny-requires : goal.deny-requires
deny-requires c = let named = c.refuses.ensures.0 c.if-refuses.true in (c.requires.0, named.0, c.requires.1, c.requires.2 ∙ named.1, named.2)

pub ask-requires : goal.ask-requires
ask-requires c = (
  c.requires.0,
  c.requires.1,
  λ name is closed. let yes = c.refuses.ensures.1 (name, sym c.requires.2 ∙ is, closed) in
      let not = c.if-refuses.false in cc,
)

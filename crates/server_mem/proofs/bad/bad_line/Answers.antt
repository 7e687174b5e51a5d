use Rattle.std.specs.Prelude.{codes}
use Rattle.response_lines.proofs.TextChains.{both_put}
use Rattle.server_mem.proofs.bad.bad_line.Goals as goal

pub returns : goal.returns
returns c = both_put c.new-line.result.items c.put.new.out.items c.put-2.new.out.items c.args.word.now
    (codes " BAD done\r\n") c.new-line.ensures.items c.in_ok-put.ensures c.in_ok-put-2.ensures

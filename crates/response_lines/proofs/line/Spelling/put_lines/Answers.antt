use Rattle.std.proofs.Common.{arith}
use Rattle.response_lines.proofs.LineLists.{writes_more}
use Rattle.response_lines.proofs.LineTurns.{line_turn}
use Rattle.response_lines.proofs.line.Spelling.put_lines.Goals as goal

pub loop-response-preserved : goal.loop-response-preserved
loop-response-preserved c = (
  writes_more c.loop-response.response-index c.args.told.now c.response-item.result _ c.args.out.now.items _ _ c.loop-response-test.true
      c.response-item.is c.loop-response.invariant.0
      c.in_ok-put_line.ensures.text c.in_ok-put_line.ensures.spelled,
  line_turn c.args.self.now.older c.args.self.now.tag c.args.messages.now c.loop-response.at c.loop-response.others c.response-item.result
      c.place_of-at.result c.number_of.result c.count_other-others.result c.place_of-at.ensures c.number_of.ensures.value
      (c.count_other-others.ensures.value (omega (arith, c.loop-response.invariant.2, c.loop-response-test.true)))
      c.loop-response.response-index c.args.told.now _ c.loop-response.out.items c.put_line.new.out.items c.loop-response-test.true
      c.response-item.is c.loop-response.invariant.1 c.in_ok-put_line.ensures.text,
  omega (arith, c.loop-response.invariant.2, c.count_other-others.ensures.one),
)

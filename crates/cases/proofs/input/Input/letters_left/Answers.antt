use Rattle.std.proofs.Common.{arith}
use Rattle.cases.proofs.Taken.{letters_more, took}
use Rattle.cases.proofs.input.Input.letters_left.Goals as goal

pub loop-preserved : goal.loop-preserved
loop-preserved c = (
  letters_more c.loop.texts.items c.push.new.self.items c.in_ok-from_str.field-0 c.in_ok-letters.field-0.now c.loop.self.words.now
      c.letters.new.self.words.now c.args.self.now.words.now c.loop.invariant.0 c.in_ok-push.ensures.items c.in_ok-from_str.ensures.ok
      c.in_ok-letters.ensures.next,
  omega (
    arith,
    c.loop.invariant.1,
    (took c.loop.self.words.now c.in_ok-letters.field-0.now c.letters.new.self.words.now c.in_ok-letters.ensures.next).1,
    c.loop-test.true,
  ),
)

use Rattle.response_lines.proofs.WriteSteps.{next_word}
use Rattle.response_lines.proofs.texts.put_words.Goals as goal

pub loop-word-preserved : goal.loop-word-preserved
loop-word-preserved c = next_word c.loop-word.word-index c.args.words.now c.word-item.result c.as_slice.result.now c.args.out.now.items _ _ _
    c.loop-word-test.true c.word-item.is c.as_slice.ensures c.loop-word.invariant c.in_ok-put.ensures c.in_ok-put-2.ensures

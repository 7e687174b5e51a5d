use Rattle.command_texts.proofs.ArgumentReading.{unquoted_more, closes}
use Rattle.command_texts.proofs.reading.arguments.unquoted.Goals as goal

pub loop-byte-preserved : goal.loop-byte-preserved
loop-byte-preserved c = λ bytes rest is.
    rw c.in_ok-push.ensures.items (unquoted_more bytes rest _ _ _ _ (c.loop-byte.invariant bytes rest is)
    (λ r e. let n = c.in-Some.ensures.closed r e in cc) (λ b r e. c.in-Some.ensures.next b r e))

pub returns : goal.returns
returns c = λ bytes rest is.
    let closed = closes bytes rest _ _ (c.loop-byte.invariant bytes rest is) (λ b r e. c.in_default.ensures.next b r e) in
    (closed.all, c.behind_first.ensures 34 rest closed.end)

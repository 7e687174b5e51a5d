use Rattle.std.proofs.Common.{sym}
use Rattle.mail_header.proofs.Whole.{unfold-plain, unfold-blank}
use Rattle.mail_header.proofs.folding.unfold.Goals as goal

pub loop-line-preserved-in_ok-extend_from_slice-2 : goal.loop-line-preserved-in_ok-extend_from_slice-2
loop-line-preserved-in_ok-extend_from_slice-2 c =
    rw (c.in_ok-extend_from_slice-2.ensures.items, c.in_ok-extend_from_slice.ensures.items)
    (unfold-plain _ _ c.loop-line.rest.now c.in-Some.line.now c.in-Some.behind.now c.in-Some.ensures.some
    (sym c.if-not-begins_blank.ensures) c.loop-line.invariant)

pub loop-line-preserved : goal.loop-line-preserved
loop-line-preserved c =
    rw c.in_ok-extend_from_slice.ensures.items
    (unfold-blank _ _ c.loop-line.rest.now c.in-Some.line.now c.in-Some.behind.now c.in-Some.ensures.some
    (sym c.if-not-begins_blank.ensures) c.loop-line.invariant)

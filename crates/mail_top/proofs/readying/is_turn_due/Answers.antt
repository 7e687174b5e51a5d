use Rattle.std.proofs.Common.{arith}
use Rattle.mail_top.proofs.readying.is_turn_due.Goals as goal

pub returns-then-end-le-SHORT : goal.returns-then-end-le-SHORT
returns-then-end-le-SHORT c = ((λ never. absurd cc), (λ due. absurd (omega (arith, c.end-end.ensures, c.if-end-le-SHORT.true, due.long))))

pub returns-then-generation : goal.returns-then-generation
returns-then-generation c =
    ((λ never. absurd cc), (λ due. absurd (omega (arith, c.generation-generation.ensures, c.if-generation.true, due.more))))

pub returns-then-size-gt-MAX_SIDE : goal.returns-then-size-gt-MAX_SIDE
returns-then-size-gt-MAX_SIDE c =
    ((λ never. absurd cc), (λ due. absurd (omega (arith, c.restated_size-size.ensures, c.if-size-gt-MAX_SIDE.true, due.fits))))

pub returns : goal.returns
returns c = (
  (λ is. record {
    long = omega (arith, c.end-end.ensures, c.if-end-le-SHORT.false);
    more = omega (arith, c.generation-generation.ensures, c.if-generation.false, c.generation-generation.type_inv);
    half = omega (arith, c.end-end.ensures, c.restated_size-size.ensures, c.if-size-gt-MAX_SIDE.false, c.is_half.ensures.0 is);
    fits = omega (arith, c.restated_size-size.ensures, c.if-size-gt-MAX_SIDE.false);
  }),
  (λ due. c.is_half.ensures.1 (omega (arith, c.end-end.ensures, c.restated_size-size.ensures, due.half, due.fits))),
)

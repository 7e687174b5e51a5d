use Rattle.std.proofs.Common.{arith, rules, ap, is_some}
use Rattle.journal_core.proofs.HeadBytes.{set_up_read, wrong_word, no_generation}
use Rattle.journal_core.proofs.heads.head_in.Goals as goal

pub returns-in_default : goal.returns-in_default
returns-in_default c = wrong_word c.args.bytes.now c.if-bytes-lt-HEAD.false c.if-bytes-ne-OPEN.false
    (c.version_in.ensures.none (ap is_some c.in_default.is))

pub returns-then-generation-eq0 : goal.returns-then-generation-eq0
returns-then-generation-eq0 c = no_generation c.args.bytes.now c.if-bytes-lt-HEAD.false c.if-bytes-ne-OPEN.false _ c.from_be_bytes-generation.ensures
    (omega (arith, c.if-generation-eq0.true))

pub returns : goal.returns
returns c = set_up_read c.args.bytes.now c.if-bytes-lt-HEAD.false c.if-bytes-ne-OPEN.false _ c.in-Some.ensures.some
    (λ i. search rules) _ c.from_be_bytes-generation.ensures (omega (arith, c.if-generation-eq0.false)) c.from_be_bytes-generation.type_inv

use Rattle.std.proofs.Common.{◌≡◌, ℕ, ◌∷◌, List, [], ap, length, length-append, arith}
use Rattle.mail_base.specs.Frames.{NoWhole, line_text}
use Rattle.mail_bench.proofs.meter.Meter.new.Goals as goal

-- no line stands in no bytes
nothing_whole : (bytes : List ℕ) → bytes ≡ [] → NoWhole bytes
nothing_whole bytes empty = λ openings last rest begins. omega (
  arith,
  ap length empty,
  ap length begins.whole,
  length-append
      (line_text openings last) (13 ∷ 10 ∷ rest),
)

pub returns-clause-taken : goal.returns-clause-taken
returns-clause-taken c = nothing_whole _ (ap (λ stream. stream.bytes) c.new.ensures.value)

use Rattle.std.proofs.Common.{◌≡◌, ◌∙◌, ◌+◌, ◌-◌, ◌≤◌, List, ℕ, ap, arith, drop, length, take}
use Rattle.mail_bench.specs.Blocks.{text_in}
use Rattle.mail_bench.proofs.Stretching.{part_of}
use Rattle.mail_bench.proofs.block.Block.piece.Goals as goal

pub returns : goal.returns
returns c =
    let block = c.args.self.now in
    let bytes = block.bytes.items in
    let size : c.args.at + c.args.count - c.args.at ≡ c.args.count = omega arith in
    let fits : c.args.at + c.args.count ≤ length bytes = omega (arith, c.requires.at, c.requires.count, block.enough) in
    ap (λ (k : ℕ). take k (drop c.args.at c.deref.result.now)) size
    ∙ ap (λ (b : List ℕ). take c.args.count (drop c.args.at b)) c.deref.ensures.value
    ∙ part_of (text_in block) bytes block.repeats c.args.at c.args.count fits

use Rattle.std.proofs.Common.{◌≤◌, ◌∙◌, ◌%◌, List, ℕ, ap, arith, length, sym}
use Rattle.std.proofs.Math.Nat.{zero-mod}
use Rattle.mail_bench.specs.Repeated.{stretch}
use Rattle.mail_bench.proofs.Stretching.{full_more, nothing_repeats, once_more, text_first}
use Rattle.mail_bench.proofs.block.Block.new.Goals as goal

pub loop-bytes-init : goal.loop-bytes-init
loop-bytes-init c =
    let bytes = c.new-bytes.result.items in (
      nothing_repeats c.args.text.now bytes c.new-bytes.ensures.items,
      ap (λ (b : List ℕ). length b % length c.args.text.now) c.new-bytes.ensures.items ∙ zero-mod (length c.args.text.now),
    )

pub loop-bytes-preserved : goal.loop-bytes-preserved
loop-bytes-preserved c =
    let text = c.args.text.now in
    let bytes = c.loop-bytes.bytes.items in
    let longer = c.in_ok-extend_from_slice.ensures.items in (
      longer ∙ once_more text bytes c.loop-bytes.invariant.0 c.requires.some c.loop-bytes.invariant.1
          ∙ ap (λ (b : List ℕ). stretch text 0 (length b)) (sym longer),
      ap (λ (b : List ℕ). length b % length text) longer ∙ full_more text bytes c.loop-bytes.invariant.0 c.loop-bytes.invariant.1,
    )

pub invariant_of-result-clause-repeats : goal.invariant_of-result-clause-repeats
invariant_of-result-clause-repeats c =
    let text = c.args.text.now in
    let bytes = c.loop-bytes.bytes.items in
    let long : length text ≤ length bytes = omega (arith, c.loop-bytes-test.false, c.len.ensures, c.loop-bytes.bytes.ok.0) in
    c.loop-bytes.invariant.0 ∙ ap (λ (t : List ℕ). stretch t 0 (length bytes)) (sym (text_first text bytes c.loop-bytes.invariant.0 long))

pub returns-clause-text : goal.returns-clause-text
returns-clause-text c = text_first c.args.text.now c.loop-bytes.bytes.items c.loop-bytes.invariant.0
    (omega (arith, c.loop-bytes-test.false, c.len.ensures, c.loop-bytes.bytes.ok.0))

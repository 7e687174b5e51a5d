use Rattle.std.proofs.Common.{◌≤◌, ◌+◌, List, length, sum_by, refl, sym, ◌∙◌, ap, arith}
use Rattle.std.proofs.lemmas.List.{take_all}
use Rattle.world_mem.specs.Memory.{start_of}
use Rattle.world_mem.specs.Numbered.{added_by}
use Rattle.world_mem.specs.declared.did.Did.{Did}
use Rattle.world_mem.proofs.Numbering.{length_moments}
use Rattle.world_mem.proofs.course.Course.moments.Goals as goal

pub returns : goal.returns
returns c =
    let log = c.args.self.now.log.items in
    let all : length log ≤ c.loop-did.did-index = omega (arith, c.loop-did-test.false, ap (λ (l : List Did). length l) c.deref-did-items.ensures.value) in
    c.loop-did.invariant.counted
    ∙ ap (λ (l : List Did). 1 + sum_by added_by l) (take_all c.loop-did.did-index log all)
    ∙ sym (length_moments log (start_of c.args.self.now) refl)

use Rattle.std.proofs.Common.{◌≡◌, ◌<◌, List, length, get_or, refl, ◌∙◌, ap, arith}
use Rattle.world_mem.specs.Memory.{start_of}
use Rattle.world_mem.specs.Running.{step}
use Rattle.world_mem.specs.Torn.{untouched}
use Rattle.world_mem.specs.declared.did.Did.{Did}
use Rattle.world_mem.specs.declared.files.Files.{Files}
use Rattle.world_mem.proofs.Numbering.{files_on}
use Rattle.world_mem.proofs.course.Course.files_at.Goals as goal

pub loop-did-init : goal.loop-did-init
loop-did-init c = record {
  there = start_of c.args.self.now;
  stands =
      c.new-files.ensures ∙ ap (λ (f : Files). record { left = untouched f.left; right = untouched f.right }) c.in_ok-copy.ensures;
  rest =
      refl;
}

pub loop-did-preserved : goal.loop-did-preserved
loop-did-preserved c =
    let log = c.args.self.now.log.items in
    let d = c.did-item.result in
    let inv = c.loop-did.invariant in
    let i = c.loop-did.did-index in
    let items = c.deref-did-items.ensures.value in
    let lt : i < length log = omega (arith, c.loop-did-test.true, ap (λ (l : List Did). length l) items) in
    let at : d ≡ get_or log i d = c.did-item.is ∙ ap (λ (l : List Did). get_or l i d) items in
    record {
      there = step d inv.there;
      stands = c.in_ok-redo.ensures inv.there inv.stands;
      rest = files_on log i d inv.there c.loop-did.left c.moments-added.result _ lt at c.moments-added.ensures c.if-left-added.false inv.rest;
    }

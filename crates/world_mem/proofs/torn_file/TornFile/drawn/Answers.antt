use Rattle.std.proofs.Common.{◌≡◌, ◌∙◌, ap, sym, subst, arith}
use Rattle.world_traits.specs.Files.{MayHold}
use Rattle.world_mem.specs.Image.{byte_at, tabulated, reach, drawn_image}
use Rattle.world_mem.proofs.Drawing.{drawn_holds}
use Rattle.world_mem.proofs.torn_file.TornFile.drawn.Goals as goal

pub returns-clause-lawful : goal.returns-clause-lawful
returns-clause-lawful c =
    let file = c.args.self.now in
    let x = c.args.draws.now in
    let all : c.loop-at.at ≡ reach file = omega (arith, c.loop-at-test.false, c.loop-at.auto.at-end, c.bytes-end.ensures.furthest) in
    let is : c.loop-at.image.items ≡ drawn_image x file = c.loop-at.invariant.bytes ∙ ap (tabulated (byte_at x file)) all in
    subst (MayHold file.stored) (sym is) (drawn_holds x file)

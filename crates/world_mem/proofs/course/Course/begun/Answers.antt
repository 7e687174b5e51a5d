use Rattle.std.proofs.Common.{◌≡◌, rules, sym, subst}
use Rattle.world_mem.specs.Both.{torn_at}
use Rattle.world_mem.specs.Image.{bytes_of}
use Rattle.world_mem.specs.Running.{run, start}
use Rattle.world_mem.specs.Standing.{Stands}
use Rattle.world_mem.proofs.Doing.{begun_stands}
use Rattle.world_mem.proofs.course.Course.begun.Goals as goal

pub invariant_of-result : goal.invariant_of-result
invariant_of-result c =
    let a = c.args in
    let given = bytes_of c.in_ok-copy.field-0 in
    let same : c.of.result.value ≡ a.server = c.of.ensures in
    let same_held : c.of-2.result.value ≡ a.held = c.of-2.ensures in
    let files : c.new.result ≡ torn_at (start given a.server a.held).clock.now given = search rules in
    record {
      stands = subst (λ s. Stands c.new.result a.server c.phase_of.result a.held c.new-2.result 0 c.new-4.result.items 0
          (run c.new-6.result.items (start given s c.of-2.result.value))) (sym same)
          (subst (λ h. Stands c.new.result a.server c.phase_of.result a.held c.new-2.result 0 c.new-4.result.items 0
          (run c.new-6.result.items (start given a.server h))) (sym same_held)
          (begun_stands c.new.result given a.server c.phase_of.result a.held c.new-2.result c.new-4.result.items c.new-6.result.items files
          c.phase_of.ensures c.requires.whole c.requires.sound c.requires.ends c.requires.lawful c.new-6.ensures.items));
    }

use Rattle.std.proofs.Common.{◌≡◌, List, [], ◌∷◌, ◌++◌, sym, ◌∙◌, ap, subst}
use Rattle.world_mem.specs.Image.{bytes_of}
use Rattle.world_mem.specs.Running.{Run, start}
use Rattle.world_mem.specs.Standing.{Stands}
use Rattle.world_mem.specs.Memory.{run_of}
use Rattle.world_mem.specs.declared.did.Did.{Did}
use Rattle.world_mem.specs.declared.did.Did.TheVariants as did
use Rattle.world_mem.proofs.Doing.{one_did, synced_stands}
use Rattle.world_mem.proofs.course.Course.sync.Goals as goal

pub invariant_of-self-2 : goal.invariant_of-self-2
invariant_of-self-2 c =
    let w = c.args.self.now in
    let r = run_of w in
    let is : c.push_reserved.new.self.items ≡ w.log.items ++ did.Synced c.args.side ∷ [] =
    c.push_reserved.ensures.items ∙ ap (λ (l : List Did). l ++ did.Synced c.args.side ∷ []) c.reserve.ensures.items in
    record {
      stands = subst (λ (x : Run). Stands c.sync.new.self w.server w.phase w.held w.parts w.unfinished w.lines.items w.received x)
          (sym (one_did w.log.items c.push_reserved.new.self.items (did.Synced c.args.side)
          (start (bytes_of w.given) w.began.value w.began_held.value) is))
          (synced_stands w.files w.server w.phase w.held w.parts w.unfinished w.lines.items w.received r w.stands c.args.side c.sync.new.self
          (c.sync.ensures.moment r.clock.now r.seen w.stands.files_are));
    }

pub returns-clause-done : goal.returns-clause-done
returns-clause-done c =
    let w = c.args.self.now in
    let is : c.push_reserved.new.self.items ≡ w.log.items ++ did.Synced c.args.side ∷ [] =
    c.push_reserved.ensures.items ∙ ap (λ (l : List Did). l ++ did.Synced c.args.side ∷ []) c.reserve.ensures.items in
    one_did w.log.items c.push_reserved.new.self.items (did.Synced c.args.side) (start (bytes_of w.given) w.began.value w.began_held.value) is

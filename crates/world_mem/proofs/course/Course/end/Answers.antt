use Rattle.std.proofs.Common.{◌≡◌, List, [], ◌∷◌, ◌++◌, sym, ◌∙◌, ap, subst}
use Rattle.imap_model.specs.Talking.{Connecting}
use Rattle.world_traits.specs.Links.{Linked}
use Rattle.world_mem.specs.Image.{bytes_of}
use Rattle.world_mem.specs.Memory.{run_of}
use Rattle.world_mem.specs.Running.{Run, start}
use Rattle.world_mem.specs.Standing.{Stands}
use Rattle.world_mem.specs.declared.did.Did.{Did}
use Rattle.world_mem.specs.declared.did.Did.TheVariants as did
use Rattle.world_mem.proofs.Answering.{one_end}
use Rattle.world_mem.proofs.Doing.{one_did, ended_stands}
use Rattle.world_mem.proofs.course.Course.end.Goals as goal

pub invariant_of-self-2 : goal.invariant_of-self-2
invariant_of-self-2 c =
    let w = c.args.self.now in
    let is : c.push_reserved.new.self.items ≡ w.log.items ++ did.Ended ∷ [] =
    c.push_reserved.ensures.items ∙ ap (λ (l : List Did). l ++ did.Ended ∷ []) c.reserve.ensures.items in
    record {
      stands = subst (λ (x : Run). Stands w.files w.server w.phase w.held w.parts w.unfinished w.lines.items w.received x)
          (sym (one_did w.log.items c.push_reserved.new.self.items did.Ended
          (start (bytes_of w.given) w.began.value w.began_held.value) is))
          (ended_stands w.files w.server w.phase w.held w.parts w.unfinished w.lines.items w.received (run_of w) w.stands c.requires);
    }

pub returns-clause-done : goal.returns-clause-done
returns-clause-done c =
    let w = c.args.self.now in
    let is : c.push_reserved.new.self.items ≡ w.log.items ++ did.Ended ∷ [] =
    c.push_reserved.ensures.items ∙ ap (λ (l : List Did). l ++ did.Ended ∷ []) c.reserve.ensures.items in
    one_did w.log.items c.push_reserved.new.self.items did.Ended (start (bytes_of w.given) w.began.value w.began_held.value) is

pub returns-clause-told : goal.returns-clause-told
returns-clause-told c =
    let w = c.args.self.now in
    let is : c.push_reserved.new.self.items ≡ w.log.items ++ did.Ended ∷ [] =
    c.push_reserved.ensures.items ∙ ap (λ (l : List Did). l ++ did.Ended ∷ []) c.reserve.ensures.items in
    subst (λ (x : Run). Linked Connecting (run_of w).clock x.clock)
    (sym (one_did w.log.items c.push_reserved.new.self.items did.Ended
    (start (bytes_of w.given) w.began.value w.began_held.value) is)) (one_end (run_of w))

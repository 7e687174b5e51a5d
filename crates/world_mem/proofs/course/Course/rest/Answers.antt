use Rattle.std.proofs.Common.{◌≡◌, List, [], ◌∷◌, ◌++◌, rules, sym, ◌∙◌, ap, subst}
use Rattle.world_traits.specs.Links.{Linked, AnyStep}
use Rattle.world_mem.specs.Image.{bytes_of}
use Rattle.world_mem.specs.Memory.{run_of}
use Rattle.world_mem.specs.Running.{Run, start, with_front, unfinished}
use Rattle.world_mem.specs.Standing.{Stands}
use Rattle.world_mem.specs.declared.course.Phase.TheVariants as phases
use Rattle.world_mem.specs.declared.did.Did.{Did}
use Rattle.world_mem.specs.declared.did.Did.TheVariants as did
use Rattle.world_mem.proofs.Answering.{one_step}
use Rattle.world_mem.proofs.Doing.{one_did}
use Rattle.world_mem.proofs.Hearing.{began_stands, phase_stands}
use Rattle.world_mem.proofs.Parts.{left_some}
use Rattle.world_mem.proofs.course.Course.rest.Goals as goal

pub invariant_of-self-2 : goal.invariant_of-self-2
invariant_of-self-2 c =
    let w = c.args.self.now in
    let log : c.push_reserved.new.self.items ≡ w.log.items ++ did.Began ∷ [] =
    c.push_reserved.ensures.items ∙ ap (λ (l : List Did). l ++ did.Began ∷ []) c.reserve.ensures.items in
    let h = phase_stands w.files w.server w.phase phases.Hearing w.held w.parts w.unfinished w.lines.items w.received (run_of w) w.stands c.requires in
    record {
      stands = subst (λ (y : Run). Stands w.files w.server phases.On w.held w.parts w.unfinished w.lines.items w.received y)
          (sym (one_did w.log.items c.push_reserved.new.self.items did.Began
          (start (bytes_of w.given) w.began.value w.began_held.value) log))
          (began_stands w.files w.server w.held w.parts w.unfinished w.lines.items w.received (run_of w) h);
    }

pub returns-clause-begun : goal.returns-clause-begun
returns-clause-begun c =
    let w = c.args.self.now in
    let log : c.push_reserved.new.self.items ≡ w.log.items ++ did.Began ∷ [] =
    c.push_reserved.ensures.items ∙ ap (λ (l : List Did). l ++ did.Began ∷ []) c.reserve.ensures.items in
    let some : w.unfinished ≡ 0 → ⊥ = search rules in (
      λ none. absurd (some none),
      subst (λ (y : Run). Linked AnyStep (run_of w).clock y.clock)
          (sym (one_did w.log.items c.push_reserved.new.self.items did.Began
          (start (bytes_of w.given) w.began.value w.began_held.value) log)) (one_step AnyStep (with_front unfinished) (run_of w).clock tt),
    )

pub returns-clause-left : goal.returns-clause-left
returns-clause-left c =
    let w = c.args.self.now in
    let log : c.push_reserved.new.self.items ≡ w.log.items ++ did.Began ∷ [] =
    c.push_reserved.ensures.items ∙ ap (λ (l : List Did). l ++ did.Began ∷ []) c.reserve.ensures.items in
    let h = phase_stands w.files w.server w.phase phases.Hearing w.held w.parts w.unfinished w.lines.items w.received (run_of w) w.stands c.requires in
    let some : w.unfinished ≡ 0 → ⊥ = search rules in
    one_did w.log.items c.push_reserved.new.self.items did.Began (start (bytes_of w.given) w.began.value w.began_held.value) log
    ∙ sym (left_some w.server.begun (run_of w) (λ none. some (sym h.counted ∙ none)))

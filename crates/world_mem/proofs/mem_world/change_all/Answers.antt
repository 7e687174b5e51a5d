use Rattle.std.proofs.Common.{◌≡◌, ℕ, List, Option, take, refl, sym, ◌∙◌, ap, subst}
use Rattle.std.proofs.lemmas.Bool.{eq-eqb, ne_eqb}
use Rattle.world_mem.specs.Memory.{Line, run_of, line_of}
use Rattle.world_mem.specs.Standing.{in_use}
use Rattle.world_mem.specs.declared.course.Course.{Course}
use Rattle.world_mem.specs.Others.{OthersChange, changed}
use Rattle.world_mem.proofs.Answering.{no_change, more_changes}
use Rattle.world_mem.proofs.Doing.{server_same}
use Rattle.world_mem.proofs.Lines.{anyway}
use Rattle.world_mem.proofs.Parts.{serves_same, serves_then}
use Rattle.world_mem.proofs.Changing.{changes_all, changes_more, changes_same, used_still}
use Rattle.world_mem.proofs.mem_world.change_all.Goals.{then-number-call+in_ok-change_one, else-number-call}
use Rattle.world_mem.proofs.mem_world.change_all.Goals as goal

pub loop-number-init : goal.loop-number-init
loop-number-init c =
    let w = c.args.course.now in (
      no_change (run_of w),
      refl,
      refl,
      serves_same w.server w.server (run_of w).state.server refl
          (server_same w.phase w.server (run_of w).state w.stands.server_is),
    )

pub returns-in_err-change_one-clause-told : goal.returns-in_err-change_one-clause-told
returns-in_err-change_one-clause-told c = more_changes (run_of c.args.course.now) (run_of c.loop-number.course)
    (run_of c.change_one.new.course) c.loop-number.invariant.0 c.change_one.ensures.told

pub returns-in_err-change_one-clause-some : goal.returns-in_err-change_one-clause-some
returns-in_err-change_one-clause-some c = anyway c.from_residual.result
    (c.loop-number.number-index, c.in_err-change_one.ensures.failed ∙ c.loop-number.invariant.2)

pub returns-clause-done : goal.returns-clause-done
returns-clause-done c =
    let w = c.args.course.now in
    changes_all c.args.foreign.now c.loop-number.number-index c.args.call (in_use w.phase (run_of w).state) (run_of w)
    (run_of c.loop-number.course) c.loop-number-test.false c.loop-number.invariant.2

pub loop-number-preserved : goal.loop-number-preserved
loop-number-preserved c = elim c.if-number-call.branch [
  | then-number-call+in_ok-change_one w ↦ (
    subst (λ (x : Course). OthersChange (run_of c.args.course.now) (run_of x)) (sym w.course-is)
        (more_changes (run_of c.args.course.now) (run_of c.loop-number.course)
        (run_of w.change_one.new.course) c.loop-number.invariant.0 w.change_one.ensures.told),
    ap line_of w.course-is ∙ w.change_one.ensures.line ∙ c.loop-number.invariant.1,
    ap run_of w.course-is
        ∙ (let first = c.args.course.now in
        let mid = c.loop-number.course in
        let used = in_use first.phase (run_of first).state in
        let item = c.loop-number-item.result in
        let stays : in_use mid.phase (run_of mid).state ≡ used =
        used_still (take c.loop-number.number-index c.args.foreign.now) c.args.call used first.phase mid.phase (run_of first) (run_of mid)
        (ap (λ (l : Line). l.phase) c.loop-number.invariant.1) c.loop-number.invariant.2 in
        changes_more c.args.foreign.now c.loop-number.number-index item c.args.call used
        (run_of first) c.loop-number-test.true (sym c.loop-number-item.is) (run_of mid) (run_of w.change_one.new.course)
        (eq-eqb item.0 c.args.call w.if-number-call.true) c.loop-number.invariant.2
        (w.in_ok-change_one.ensures.done ∙ ap (λ (u : Option (List ℕ)). changed u item.1 item.2 (run_of mid)) stays)),
    ap (λ (x : Course). x.server) w.course-is
        ∙ serves_then c.args.course.now.server c.loop-number.course.server w.change_one.new.course.server
        (run_of c.loop-number.course).state.server (run_of w.change_one.new.course).state.server
        c.loop-number.invariant.3 w.change_one.ensures.server
        ∙ ap (λ (x : Course). record c.args.course.now.server { server = (run_of x).state.server }) (sym w.course-is),
  )
  | else-number-call w ↦ (
    subst (λ (x : Course). OthersChange (run_of c.args.course.now) (run_of x)) (sym w.course-is) c.loop-number.invariant.0,
    ap line_of w.course-is ∙ c.loop-number.invariant.1,
    ap run_of w.course-is
        ∙ changes_same c.args.foreign.now c.loop-number.number-index c.loop-number-item.result c.args.call
        (in_use c.args.course.now.phase (run_of c.args.course.now).state) (run_of c.args.course.now) c.loop-number-test.true (sym c.loop-number-item.is)
        (run_of c.loop-number.course) (ne_eqb c.loop-number-item.result.0 c.args.call w.if-number-call.false) c.loop-number.invariant.2,
    ap (λ (x : Course). x.server) w.course-is ∙ c.loop-number.invariant.3
        ∙ ap (λ (x : Course). record c.args.course.now.server { server = (run_of x).state.server }) (sym w.course-is),
  )
]

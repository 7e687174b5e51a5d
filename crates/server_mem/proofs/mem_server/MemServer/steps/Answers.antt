use Rattle.std.proofs.Common.{rules, ◌≡◌, ◌++◌, ℕ, List, sym, subst, refl}
use Rattle.server_mem.specs.Falling.{Tells}
use Rattle.server_mem.proofs.AnswerSteps.{answer_told, less_behind}
use Rattle.server_mem.proofs.Faults.{on_err}
use Rattle.server_mem.proofs.Falls.{nothing_told, more_told, fall_here, fall_later}
use Rattle.server_mem.proofs.mem_server.MemServer.steps.Goals as goal

pub loop-out-init : goal.loop-out-init
loop-out-init c = subst (λ (bytes : List ℕ). Tells c.args.self.now bytes c.args.self.now) (sym c.new-out.ensures.items) (nothing_told c.args.self.now)

pub returns-in_err-answer-clause-fallen : goal.returns-in_err-answer-clause-fallen
returns-in_err-answer-clause-fallen c = on_err c.from_residual.result
    (fall_later c.args.self.now c.loop-out.out.items c.loop-out.self c.step.new.self c.loop-out.invariant
    (fall_here c.loop-out.self c.step.new.self c.in_err-answer.ensures.fallen))

pub returns-in_err-extend_from_slice-clause-fallen : goal.returns-in_err-extend_from_slice-clause-fallen
returns-in_err-extend_from_slice-clause-fallen c =
    let one : Tells c.loop-out.self c.in-Some.answer.lines.items c.step.new.self =
    answer_told c.loop-out.self c.step.new.self c.in-Some.answer (search rules) in
    on_err c.from_residual-in_err-extend_from_slice.result
    (fall_later c.args.self.now (c.loop-out.out.items ++ c.in-Some.answer.lines.items) c.step.new.self c.step.new.self
    (more_told c.args.self.now c.loop-out.out.items c.loop-out.self c.in-Some.answer.lines.items c.step.new.self c.loop-out.invariant one)
    (fall_here c.step.new.self c.step.new.self refl))

pub loop-out-preserved : goal.loop-out-preserved
loop-out-preserved c =
    let one : Tells c.loop-out.self c.in-Some.answer.lines.items c.step.new.self =
    answer_told c.loop-out.self c.step.new.self c.in-Some.answer (search rules) in
    let grown : c.extend_from_slice.new.self.items ≡ c.loop-out.out.items ++ c.in-Some.answer.lines.items = search rules in
    subst (λ (bytes : List ℕ). Tells c.args.self.now bytes c.step.new.self) (sym grown)
    (more_told c.args.self.now c.loop-out.out.items c.loop-out.self c.in-Some.answer.lines.items c.step.new.self c.loop-out.invariant one)

pub loop-out-smaller : goal.loop-out-smaller
loop-out-smaller c = less_behind c.loop-out.self c.step.new.self c.in-Some.answer (search rules)

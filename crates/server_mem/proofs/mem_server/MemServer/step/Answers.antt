use Rattle.std.proofs.Common.{◌<◌, sym, ◌∙◌, subst, length}
use Rattle.server_mem.specs.Answered.{AnswersParts}
use Rattle.server_mem.specs.States.{State}
use Rattle.server_mem.proofs.AnswerSteps.{is_answer, some_parts}
use Rattle.server_mem.proofs.mem_server.MemServer.step.Goals as goal

pub answer-requires : goal.answer-requires
answer-requires c = subst (λ (m : State). 0 < length m.parts) (sym c.in_ok-cut.ensures.done) (some_parts c.args.self.now c.in-Some.end)

pub returns-clause-answered : goal.returns-clause-answered
returns-clause-answered c =
    is_answer c.in-Some.end c.args.self.now c.answer.new.self c.in_ok-answer.answer (c.in_ok-answer.ensures.part ∙ c.in_ok-part.ensures) c.in-Some.ensures.part
    (subst (λ (m : State). AnswersParts m c.in_ok-answer.answer c.answer.new.self) c.in_ok-cut.ensures.done c.in_ok-answer.ensures.answered)

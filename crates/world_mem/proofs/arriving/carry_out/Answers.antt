use Rattle.std.proofs.Common.{inl, inr, IfNone, ◌∷◌, [], ◌++◌, Option, IfSome, sym, ◌∙◌, ap, subst}
use Rattle.server_mem.specs.Answered.{IsAnswer}
use Rattle.command_texts.specs.Cutting.{NoPart}
use Rattle.server_mem.specs.States.{State, disconnected}
use Rattle.server_mem.specs.declared.outcome.Answer.{Answer}
use Rattle.world_mem.specs.Heard.{CarriesNone, CarriesOne}
use Rattle.world_mem.proofs.Settling.{carried_is, not_carried}
use Rattle.world_mem.proofs.arriving.carry_out.Goals as goal

pub returns-clause-carried : goal.returns-clause-carried
returns-clause-carried c = λ done.
    let answer = c.in-Some.answer in
    let is : IsAnswer c.take_in.new.self answer c.answer_next.new.self =
    subst (λ (o : Option Answer). IfSome o (λ a. IsAnswer c.take_in.new.self a c.answer_next.new.self)) c.in-Some.is
    c.in_ok-answer.ensures.answered in
    let carried = carried_is answer.answered (sym c.is_carried.ensures ∙ done) in
    subst (λ (s : State). CarriesOne s c.answer_next.new.self) c.in_ok-take_in.ensures.done
    (record { answer = answer; tag = carried.0; command = carried.1; is = is; carried = carried.2 })

pub returns-clause-none : goal.returns-clause-none
returns-clause-none c = λ done.
    let answer = c.in-Some.answer in
    let is : IsAnswer c.take_in.new.self answer c.answer_next.new.self =
    subst (λ (o : Option Answer). IfSome o (λ a. IsAnswer c.take_in.new.self a c.answer_next.new.self)) c.in-Some.is
    c.in_ok-answer.ensures.answered in
    ap disconnected is.after ∙ not_carried answer.answered c.take_in.new.self is.rest (c.take_in.new.self.parts ++ answer.part ∷ [])
    (sym c.is_carried.ensures ∙ done) ∙ ap disconnected c.in_ok-take_in.ensures.done

pub returns-in_default-clause-left : goal.returns-in_default-clause-left
returns-in_default-clause-left c = λ done.
    let none : NoPart c.take_in.new.self.parts c.take_in.new.self.begun =
    subst (λ (o : Option Answer). IfNone o (NoPart c.take_in.new.self.parts c.take_in.new.self.begun)) c.in_default.is
    c.in_ok-answer.ensures.rest in
    subst CarriesNone c.in_ok-take_in.ensures.done (inl none)

pub returns-clause-left : goal.returns-clause-left
returns-clause-left c = λ done.
    let answer = c.in-Some.answer in
    let is : IsAnswer c.take_in.new.self answer c.answer_next.new.self =
    subst (λ (o : Option Answer). IfSome o (λ a. IsAnswer c.take_in.new.self a c.answer_next.new.self)) c.in-Some.is
    c.in_ok-answer.ensures.answered in
    subst CarriesNone c.in_ok-take_in.ensures.done (inr (record {
      answer = answer;
      after = c.answer_next.new.self;
      is = is;
      other =
          sym c.is_carried.ensures ∙ done;
    }))

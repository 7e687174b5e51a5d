use Rattle.std.proofs.Common.{◌≡◌, false, rules, refl, ◌∙◌, ap}
use Rattle.world_traits.specs.Links.{AnyStep}
use Rattle.world_mem.specs.Heard.{hears, stops}
use Rattle.world_mem.specs.Memory.{Had, run_of}
use Rattle.world_mem.proofs.Answering.{linked_start, linked_then}
use Rattle.world_mem.proofs.Parts.{parts_or_not, all_heard}
use Rattle.world_mem.proofs.Sending.{any_heard, any_or_not, none_heard}
use Rattle.world_mem.proofs.Lines.{anyway}
use Rattle.world_mem.proofs.course.Course.hear_rest.Goals as goal

pub returns-in_err-hear_next-clause-files : goal.returns-in_err-hear_next-clause-files
returns-in_err-hear_next-clause-files c =
    let l = c.loop.self in
    linked_then AnyStep (run_of c.args.self.now).clock (run_of l).clock (run_of c.hear_next.new.self).clock c.loop.invariant.1
    (any_or_not l.server c.hear_next.new.self.server (run_of l) (run_of c.hear_next.new.self) c.in_err-hear_next.ensures.broken)

pub loop-preserved : goal.loop-preserved
loop-preserved c =
    let l = c.loop.self in
    let one = c.in_ok-hear_next.ensures.more c.if-branch.true in (
      c.in_ok-hear_next.ensures.listens.phase,
      linked_then AnyStep (run_of c.args.self.now).clock (run_of l).clock (run_of c.hear_next.new.self).clock c.loop.invariant.1
          (any_heard l.server c.hear_next.new.self.server (run_of l) (run_of c.hear_next.new.self) one),
      (λ none. absurd (none_heard l.server c.hear_next.new.self.server (run_of l) (run_of c.hear_next.new.self) (c.loop.invariant.2 none).1 one)),
      c.in_ok-hear_next.ensures.listens.had ∙ c.loop.invariant.3,
      hears c.loop.invariant.4 one,
      c.hear_next.ensures.listens.earlier ∙ c.loop.invariant.5,
    )

pub loop-init : goal.loop-init
loop-init c = (c.requires, linked_start AnyStep (run_of c.args.self.now).clock, (λ none. (refl, none)), refl, stops, refl)

pub returns-in_err-hear_next-clause-some : goal.returns-in_err-hear_next-clause-some
returns-in_err-hear_next-clause-some c =
    let l = c.loop.self in
    let w = c.args.self.now in
    anyway c.from_residual.result
    (parts_or_not w.server l.server c.hear_next.new.self.server (run_of w) (run_of l)
    (run_of c.hear_next.new.self) c.loop.invariant.4 c.in_err-hear_next.ensures.broken)

pub returns-in_err-hear_next-clause-listens : goal.returns-in_err-hear_next-clause-listens
returns-in_err-hear_next-clause-listens c = record {
  sent = c.hear_next.ensures.listens.sent ∙ ap (λ (h : Had). h.sent) c.loop.invariant.3;
  earlier = c.hear_next.ensures.listens.earlier ∙ c.loop.invariant.5;
  phase = search rules;
  had = search rules;
}

pub returns-clause-all : goal.returns-clause-all
returns-clause-all c =
    let l = c.loop.self in
    let w = c.args.self.now in
    let none : c.in_ok-hear_next.field-0 ≡ false = search rules in
    all_heard w.server l.server c.hear_next.new.self.server (run_of w) (run_of l) (run_of c.hear_next.new.self) c.loop.invariant.4
    (c.in_ok-hear_next.ensures.server none) (c.in_ok-hear_next.ensures.same none) (c.in_ok-hear_next.ensures.rest none)

pub returns-clause-listens : goal.returns-clause-listens
returns-clause-listens c = record {
  sent = c.hear_next.ensures.listens.sent ∙ ap (λ (h : Had). h.sent) c.loop.invariant.3;
  earlier = c.hear_next.ensures.listens.earlier ∙ c.loop.invariant.5;
  phase = search rules;
  had = search rules;
}

use Rattle.std.proofs.Common.{◌≡◌, ◌⊎◌, inl, inr, ◌++◌, true, take, IfSome, Some, [], rules, sym, ◌∙◌, ap, subst}
use Rattle.std.specs.Prelude.{is_some}
use Rattle.world_mem.specs.Memory.{Line, line_of, told_line, waits_in}
use Rattle.world_mem.specs.Worlds.{course_of, used_in, planned_of, refused_of, LinkIsToFail}
use Rattle.imap_model.specs.Talking.{Answering}
use Rattle.world_traits.specs.Links.{AnyStep, Linked}
use Rattle.world_mem.specs.Memory.{run_of}
use Rattle.world_mem.specs.Others.{others_in}
use Rattle.world_mem.specs.Planned.{Planned}
use Rattle.world_mem.specs.Running.{Run}
use Rattle.world_mem.proofs.Answering.{any_linked}
use Rattle.world_mem.proofs.Lines.{received_line, is_lost, failed_by, anyway}
use Rattle.world_mem.proofs.mem_world.MemWorldLink.recv.Goals as goal

pub returns-then-is_some-clause-called : goal.returns-then-is_some-clause-called
returns-then-is_some-clause-called c = record {
  next = search rules;
  exact =
      let some : is_some c.loss.result ≡ true = search rules in
      failed_by (LinkIsToFail (planned_of c.fail_link.new.self) ⊎ (waits_in (line_of (course_of c.args.self.now)) ≡ [])) c.fail_link.result
      (refused_of c.args.self.now) (refused_of c.fail_link.new.self)
      (inl (inr (is_lost (planned_of c.enter.new.self) (planned_of c.fail_link.new.self) c.loss.result some c.loss.ensures c.fail_link.ensures.fails.planned)));
  stopped = search rules;
  disk = search rules;
  count = search rules;
  cause = search rules;
  unfailed = search rules;
}

pub returns-clause-line : goal.returns-clause-line
returns-clause-line c = record {
  sent = search rules;
  earlier = search rules;
  received =
      let mid = course_of c.enter.new.self in
      subst (λ (l : Line). IfSome (told_line l) (λ k. told_line (line_of c.give.new.self)
      ≡ Some (record k { received = k.received ++ take c.give.result c.give.new.into }))) c.in_ok-enter.ensures.goes_on.line
      (received_line (line_of mid) (line_of c.give.new.self) c.give.result (take c.give.result c.give.new.into) c.give.ensures.line c.give.ensures.bytes);
  lost = search rules;
}

pub returns-in_err-enter-clause-files : goal.returns-in_err-enter-clause-files
returns-in_err-enter-clause-files c = any_linked Answering (run_of (course_of c.args.self.now)).clock
    (run_of (course_of c.enter.new.self)).clock c.enter.ensures.enters.told.told

pub returns-then-is_some-clause-files : goal.returns-then-is_some-clause-files
returns-then-is_some-clause-files c =
    subst (λ (r : Run). Linked AnyStep (run_of (course_of c.args.self.now)).clock r.clock) (sym c.fail_link.ensures.fails.run)
    (any_linked Answering (run_of (course_of c.args.self.now)).clock (run_of (course_of c.enter.new.self)).clock c.enter.ensures.enters.told.told)

pub returns-then-not-has_more-clause-files : goal.returns-then-not-has_more-clause-files
returns-then-not-has_more-clause-files c =
    subst (λ (r : Run). Linked AnyStep (run_of (course_of c.args.self.now)).clock r.clock) (sym c.fail_link-then-not-has_more.ensures.fails.run)
    (any_linked Answering (run_of (course_of c.args.self.now)).clock (run_of (course_of c.enter.new.self)).clock c.enter.ensures.enters.told.told)

pub returns-clause-files : goal.returns-clause-files
returns-clause-files c =
    subst (λ (r : Run). Linked AnyStep (run_of (course_of c.args.self.now)).clock r.clock) (sym c.give.ensures.run)
    (any_linked Answering (run_of (course_of c.args.self.now)).clock (run_of (course_of c.enter.new.self)).clock c.enter.ensures.enters.told.told)

pub returns-in_err-enter-clause-loses : goal.returns-in_err-enter-clause-loses
returns-in_err-enter-clause-loses c = λ runs. anyway c.from_residual.result (inr (c.in_err-enter.ensures.breaks_off.some, c.in_err-enter.ensures.exact.others runs))

pub returns-then-is_some-clause-loses : goal.returns-then-is_some-clause-loses
returns-then-is_some-clause-loses c = λ runs.
    inl (c.fail_link.ensures.fails.run ∙ c.in_ok-enter.ensures.goes_on.done ∙ ap (λ (s : Planned). others_in s (used_in c.args.self.now) (run_of (course_of c.args.self.now)))
    (sym c.fail_link.ensures.fails.planned))

pub returns-then-not-has_more-clause-loses : goal.returns-then-not-has_more-clause-loses
returns-then-not-has_more-clause-loses c = λ runs.
    inl (c.fail_link-then-not-has_more.ensures.fails.run ∙ c.in_ok-enter.ensures.goes_on.done
    ∙ ap (λ (s : Planned). others_in s (used_in c.args.self.now) (run_of (course_of c.args.self.now))) (sym c.fail_link-then-not-has_more.ensures.fails.planned))

use Rattle.std.proofs.Common.{◌≡◌, inl, inr, OnOk, Ok, Result, true, false, rules, refl, sym, ◌∙◌, ap, subst}
use Rattle.std.specs.Prelude.{is_some}
use Rattle.std.specs.declared.alloc.AllocError.{AllocError}
use Rattle.imap_model.specs.Talking.{Connecting}
use Rattle.world_traits.specs.Connected.{WasConnected}
use Rattle.world_traits.specs.Links.{Linked}
use Rattle.world_mem.specs.Memory.{run_of}
use Rattle.world_mem.specs.Others.{others_in}
use Rattle.world_mem.specs.Planned.{Planned}
use Rattle.world_mem.specs.Running.{Run, step}
use Rattle.world_mem.specs.Standing.{lost_phase}
use Rattle.world_mem.specs.declared.did.Did.TheVariants as did
use Rattle.world_mem.specs.Worlds.{course_of, planned_of, refused_of, used_anew, LinkIsToFail}
use Rattle.world_mem.proofs.Answering.{connected_now, linked_then, any_linked}
use Rattle.world_mem.proofs.Changing.{began, began_some}
use Rattle.world_mem.proofs.Doing.{lost_twice}
use Rattle.world_mem.proofs.Lines.{is_lost, failed_by, no_loss}
use Rattle.world_mem.proofs.mem_world.MemWorldLink.connect.Goals as goal

pub enter_anew-requires : goal.enter_anew-requires
enter_anew-requires c =
    ap lost_phase c.lose.ensures.phase ∙ lost_twice (course_of c.args.self.now).phase ∙ sym c.lose.ensures.phase

pub returns-in_err-enter_anew-clause-told : goal.returns-in_err-enter_anew-clause-told
returns-in_err-enter_anew-clause-told c =
    subst (λ (r : Run). Linked Connecting r.clock (run_of (course_of c.enter_anew.new.self)).clock) c.lose.ensures.run c.enter_anew.ensures.enters.told

pub returns-then-is_some-clause-told : goal.returns-then-is_some-clause-told
returns-then-is_some-clause-told c =
    subst (λ (r : Run). Linked Connecting (run_of (course_of c.args.self.now)).clock r.clock) (sym c.fail_link.ensures.fails.run)
    (subst (λ (r : Run). Linked Connecting r.clock (run_of (course_of c.enter_anew.new.self)).clock) c.lose.ensures.run c.enter_anew.ensures.enters.told)

pub returns-then-is_some-clause-called : goal.returns-then-is_some-clause-called
returns-then-is_some-clause-called c = record {
  next = search rules;
  exact =
      let some : is_some c.loss.result ≡ true = search rules in
      failed_by (LinkIsToFail (planned_of c.fail_link.new.self)) c.fail_link.result (refused_of c.args.self.now) (refused_of c.fail_link.new.self)
      (inr (is_lost (planned_of c.enter_anew.new.self) (planned_of c.fail_link.new.self) c.loss.result some c.loss.ensures c.fail_link.ensures.fails.planned));
  stopped = search rules;
  disk = search rules;
  count = search rules;
  cause = search rules;
  unfailed = search rules;
}

pub returns-then-is_err-clause-told : goal.returns-then-is_err-clause-told
returns-then-is_err-clause-told c =
    subst (λ (r : Run). Linked Connecting (run_of (course_of c.args.self.now)).clock r.clock) (sym c.refuse_link.ensures.fails.run)
    (linked_then Connecting (run_of (course_of c.args.self.now)).clock (run_of (course_of c.enter_anew.new.self)).clock (run_of c.settle.new.self).clock
    (subst (λ (r : Run). Linked Connecting r.clock (run_of (course_of c.enter_anew.new.self)).clock) c.lose.ensures.run c.enter_anew.ensures.enters.told)
    c.settle.ensures.told)

pub returns-then-is_err-2-clause-told : goal.returns-then-is_err-2-clause-told
returns-then-is_err-2-clause-told c =
    let same : run_of c.greet.new.self ≡ run_of c.settle.new.self = search rules in
    subst (λ (r : Run). Linked Connecting (run_of (course_of c.args.self.now)).clock r.clock) (sym (c.refuse_link-then-is_err-2.ensures.fails.run ∙ same))
    (linked_then Connecting (run_of (course_of c.args.self.now)).clock (run_of (course_of c.enter_anew.new.self)).clock (run_of c.settle.new.self).clock
    (subst (λ (r : Run). Linked Connecting r.clock (run_of (course_of c.enter_anew.new.self)).clock) c.lose.ensures.run c.enter_anew.ensures.enters.told)
    c.settle.ensures.told)

pub returns-clause-told : goal.returns-clause-told
returns-clause-told c =
    let greets : Linked Connecting (run_of c.settle.new.self).clock (run_of c.greet.new.self).clock = search rules in
    linked_then Connecting (run_of (course_of c.args.self.now)).clock (run_of c.settle.new.self).clock (run_of c.greet.new.self).clock
    (linked_then Connecting (run_of (course_of c.args.self.now)).clock (run_of (course_of c.enter_anew.new.self)).clock (run_of c.settle.new.self).clock
    (subst (λ (r : Run). Linked Connecting r.clock (run_of (course_of c.enter_anew.new.self)).clock) c.lose.ensures.run c.enter_anew.ensures.enters.told)
    c.settle.ensures.told)
    greets

pub returns-clause-anew : goal.returns-clause-anew
returns-clause-anew c =
    let greeted : run_of c.greet.new.self ≡ step did.Greeted (run_of c.settle.new.self) = search rules in
    subst (λ (r : Run). WasConnected (run_of (course_of c.args.self.now)).clock r.clock) (sym greeted)
    (connected_now (run_of (course_of c.args.self.now)).clock (run_of c.settle.new.self)
    (linked_then Connecting (run_of (course_of c.args.self.now)).clock (run_of (course_of c.enter_anew.new.self)).clock (run_of c.settle.new.self).clock
    (subst (λ (r : Run). Linked Connecting r.clock (run_of (course_of c.enter_anew.new.self)).clock) c.lose.ensures.run c.enter_anew.ensures.enters.told)
    c.settle.ensures.told))

pub returns-in_err-enter_anew-clause-files : goal.returns-in_err-enter_anew-clause-files
returns-in_err-enter_anew-clause-files c = any_linked Connecting (run_of (course_of c.args.self.now)).clock
    (run_of (course_of c.enter_anew.new.self)).clock (returns-in_err-enter_anew-clause-told c)

pub returns-then-is_some-clause-files : goal.returns-then-is_some-clause-files
returns-then-is_some-clause-files c = any_linked Connecting (run_of (course_of c.args.self.now)).clock
    (run_of (course_of c.fail_link.new.self)).clock (returns-then-is_some-clause-told c)

pub returns-then-is_err-clause-files : goal.returns-then-is_err-clause-files
returns-then-is_err-clause-files c = any_linked Connecting (run_of (course_of c.args.self.now)).clock
    (run_of (course_of c.refuse_link.new.self)).clock (returns-then-is_err-clause-told c)

pub returns-then-is_err-2-clause-files : goal.returns-then-is_err-2-clause-files
returns-then-is_err-2-clause-files c = any_linked Connecting (run_of (course_of c.args.self.now)).clock
    (run_of (course_of c.refuse_link-then-is_err-2.new.self)).clock (returns-then-is_err-2-clause-told c)

pub returns-clause-files : goal.returns-clause-files
returns-clause-files c = any_linked Connecting (run_of (course_of c.args.self.now)).clock (run_of c.greet.new.self).clock (returns-clause-told c)

pub returns-clause-connects : goal.returns-clause-connects
returns-clause-connects c = record {
  free = λ none.
      let greeted : run_of c.greet.new.self ≡ step did.Greeted (run_of c.settle.new.self) = search rules in
      let stays = c.settle.ensures.free (c.enter_anew.ensures.enters.held ∙ ap (λ (r : Run). r.held) c.lose.ensures.run ∙ none) in
      greeted ∙ ap (step did.Greeted) (stays ∙ began (planned_of c.enter_anew.new.self) (course_of c.args.self.now).phase c.lose.new.self.phase (run_of (course_of c.args.self.now))
      (run_of c.lose.new.self) (run_of (course_of c.enter_anew.new.self)) c.lose.ensures.phase c.lose.ensures.run c.in_ok-enter_anew.ensures.goes_on.done);
  dropped = λ held is drops.
      let greeted : run_of c.greet.new.self ≡ step did.Greeted (run_of c.settle.new.self) = search rules in
      let stays = c.settle.ensures.dropped held (c.enter_anew.ensures.enters.held ∙ ap (λ (r : Run). r.held) c.lose.ensures.run ∙ is) drops in
      greeted ∙ ap (step did.Greeted) (stays ∙ began (planned_of c.enter_anew.new.self) (course_of c.args.self.now).phase c.lose.new.self.phase (run_of (course_of c.args.self.now))
      (run_of c.lose.new.self) (run_of (course_of c.enter_anew.new.self)) c.lose.ensures.phase c.lose.ensures.run c.in_ok-enter_anew.ensures.goes_on.done);
  carried = λ held is carries.
      let mid = run_of (course_of c.enter_anew.new.self) in
      let greeted : run_of c.greet.new.self ≡ step did.Greeted (run_of c.settle.new.self) = search rules in
      let ok : c.settle.result ≡ Ok tt = search rules in
      let before = c.settle.ensures.carried held (c.enter_anew.ensures.enters.held ∙ ap (λ (r : Run). r.held) c.lose.ensures.run ∙ is) carries in
      let settled : run_of c.settle.new.self ≡ step did.Settled mid =
      subst (λ (r : Result (Unit {0}) AllocError). OnOk r (run_of c.settle.new.self ≡ step did.Settled mid)) ok before in
      greeted ∙ ap (step did.Greeted) (settled ∙ ap (step did.Settled)
      (began (planned_of c.enter_anew.new.self) (course_of c.args.self.now).phase c.lose.new.self.phase (run_of (course_of c.args.self.now))
      (run_of c.lose.new.self) (run_of (course_of c.enter_anew.new.self)) c.lose.ensures.phase c.lose.ensures.run c.in_ok-enter_anew.ensures.goes_on.done));
}

pub returns-in_err-enter_anew-clause-loses : goal.returns-in_err-enter_anew-clause-loses
returns-in_err-enter_anew-clause-loses c = λ runs loss is.
    inr (
      began_some (planned_of c.enter_anew.new.self) (course_of c.args.self.now).phase c.lose.new.self.phase (run_of (course_of c.args.self.now))
          (run_of c.lose.new.self) (run_of (course_of c.enter_anew.new.self)) c.lose.ensures.phase c.lose.ensures.run c.in_err-enter_anew.ensures.breaks_off.some,
      c.in_err-enter_anew.ensures.exact.others runs,
    )

pub returns-then-is_some-clause-loses : goal.returns-then-is_some-clause-loses
returns-then-is_some-clause-loses c = λ runs loss is.
    inl (c.fail_link.ensures.fails.run ∙ began (planned_of c.enter_anew.new.self) (course_of c.args.self.now).phase c.lose.new.self.phase (run_of (course_of c.args.self.now))
    (run_of c.lose.new.self) (run_of (course_of c.enter_anew.new.self)) c.lose.ensures.phase c.lose.ensures.run c.in_ok-enter_anew.ensures.goes_on.done
    ∙ ap (λ (s : Planned). others_in s (used_anew c.args.self.now) (step did.Ended (run_of (course_of c.args.self.now))))
    (sym c.fail_link.ensures.fails.planned))

pub returns-then-is_err-clause-loses : goal.returns-then-is_err-clause-loses
returns-then-is_err-clause-loses c = λ runs loss is.
    let none : is_some c.loss.result ≡ false = search rules in
    absurd (no_loss (planned_of c.enter_anew.new.self) (planned_of c.refuse_link.new.self) c.loss.result loss none c.loss.ensures c.refuse_link.ensures.fails.planned is)

pub returns-then-is_err-2-clause-loses : goal.returns-then-is_err-2-clause-loses
returns-then-is_err-2-clause-loses c = λ runs loss is.
    let none : is_some c.loss.result ≡ false = search rules in
    absurd (no_loss (planned_of c.enter_anew.new.self) (planned_of c.refuse_link-then-is_err-2.new.self) c.loss.result loss none c.loss.ensures
    c.refuse_link-then-is_err-2.ensures.fails.planned is)

pub returns-clause-loses : goal.returns-clause-loses
returns-clause-loses c = λ runs loss is.
    let none : is_some c.loss.result ≡ false = search rules in
    absurd (no_loss (planned_of c.enter_anew.new.self) (planned_of c.enter_anew.new.self) c.loss.result loss none c.loss.ensures refl is)

use Rattle.std.proofs.Common.{◌≡◌, ℕ, true, false, take, rules, sym, subst}
use Rattle.std.specs.Prelude.{is_err}
use Rattle.world_mem.specs.Memory.{run_of}
use Rattle.world_mem.specs.Others.{OthersSome, changes}
use Rattle.world_mem.specs.Planned.{Planned}
use Rattle.world_mem.specs.Running.{Run}
use Rattle.world_mem.specs.Worlds.{course_of, used_in}
use Rattle.world_mem.proofs.Changing.{others_done, others_some}
use Rattle.world_mem.proofs.Lines.{on_err, on_ok}
use Rattle.world_mem.proofs.mem_world.MemWorld.enter.Goals as goal

pub returns-then-next_link-clause-breaks_off : goal.returns-then-next_link-clause-breaks_off
returns-then-next_link-clause-breaks_off c = record {
  some = (0, c.fail_link.ensures.fails.run);
  lost = search rules;
  cause = search rules;
}

pub returns-then-is_err-clause-breaks_off : goal.returns-then-is_err-clause-breaks_off
returns-then-is_err-clause-breaks_off c = record {
  some =
      let old = run_of (course_of c.args.self.now) in
      let used = used_in c.args.self.now in
      let new = run_of c.change_all.new.course in
      let failed : is_err c.change_all.result ≡ true = search rules in
      let some = on_err c.change_all.result ((n : ℕ) × (new ≡ changes (take n c.foreign.result.now) c.link-call.result used old)) failed
      c.change_all.ensures.some in
      let is = others_some c.next_link.new.self c.foreign.result.now c.link-call.result used old new c.foreign.ensures c.link-call.ensures some in
      subst (λ (s : Planned). OthersSome s used old (run_of (course_of c.refuse_link.new.self))) (sym c.refuse_link.ensures.fails.planned)
      (subst (λ (r : Run). OthersSome c.next_link.new.self used old r) (sym c.refuse_link.ensures.fails.run) is);
  lost = search rules;
  cause = search rules;
}

pub returns-clause-goes_on : goal.returns-clause-goes_on
returns-clause-goes_on c = record {
  done =
      let old = run_of (course_of c.args.self.now) in
      let used = used_in c.args.self.now in
      let new = run_of c.change_all.new.course in
      let done : is_err c.change_all.result ≡ false = search rules in
      let all = on_ok c.change_all.result (new ≡ changes c.foreign.result.now c.link-call.result used old) done c.change_all.ensures.done in
      others_done c.next_link.new.self c.foreign.result.now c.link-call.result used old new c.foreign.ensures c.link-call.ensures all;
  server = search rules;
  line = search rules;
  faults = search rules;
}

use Rattle.std.proofs.Common.{◌≡◌, inl, inr, ℕ, true, false, take, rules, sym, ◌∙◌, ap, subst}
use Rattle.std.specs.Prelude.{is_err}
use Rattle.imap_model.specs.Talking.{Connecting}
use Rattle.world_traits.specs.Links.{Linked}
use Rattle.world_mem.specs.Memory.{Line, run_of}
use Rattle.world_mem.specs.Others.{OthersSome, changes}
use Rattle.world_mem.specs.Planned.{Planned}
use Rattle.world_mem.specs.Running.{Run, step}
use Rattle.world_mem.specs.Standing.{in_use, is_on}
use Rattle.world_mem.specs.Worlds.{course_of, used_anew}
use Rattle.world_mem.specs.declared.did.Did.TheVariants as did
use Rattle.world_mem.proofs.Answering.{connecting, linked_then}
use Rattle.world_mem.proofs.Changing.{others_done, others_some, used_ended}
use Rattle.world_mem.proofs.Doing.{lost_off}
use Rattle.world_mem.proofs.Lines.{on_err, on_ok}
use Rattle.world_mem.proofs.mem_world.MemWorld.enter_anew.Goals as goal

pub end-requires : goal.end-requires
end-requires c = c.requires

pub returns-then-next_link-clause-breaks_off : goal.returns-then-next_link-clause-breaks_off
returns-then-next_link-clause-breaks_off c = record {
  some = inl c.fail_link.ensures.fails.run;
  lost = search rules;
  cause = search rules;
}

pub returns-then-is_err-clause-breaks_off : goal.returns-then-is_err-clause-breaks_off
returns-then-is_err-clause-breaks_off c = record {
  some =
      let failed : is_err c.end.result ≡ true = search rules in
      inl (c.refuse_link.ensures.fails.run
      ∙ on_err c.end.result (run_of c.end.new.self ≡ run_of (course_of c.args.self.now)) failed c.end.ensures.failed);
  lost = search rules;
  cause = search rules;
}

pub returns-then-is_err-2-clause-breaks_off : goal.returns-then-is_err-2-clause-breaks_off
returns-then-is_err-2-clause-breaks_off c = record {
  some =
      let old = run_of (course_of c.args.self.now) in
      let used = used_anew c.args.self.now in
      let mid = c.end.new.self in
      let new = run_of c.change_all.new.course in
      let ended : is_err c.end.result ≡ false = search rules in
      let failed : is_err c.change_all.result ≡ true = search rules in
      let after = on_ok c.end.result (run_of mid ≡ step did.Ended old) ended c.end.ensures.done in
      let same = used_ended (course_of c.args.self.now).phase mid.phase old (run_of mid) (ap (λ (l : Line). l.phase) c.end.ensures.line) c.requires after in
      let some = on_err c.change_all.result ((n : ℕ) × (new ≡ changes (take n c.foreign.result.now) c.link-call.result
      (in_use mid.phase (run_of mid).state) (run_of mid))) failed c.change_all.ensures.some in
      let is = others_some c.next_link.new.self c.foreign.result.now c.link-call.result used (step did.Ended old) new c.foreign.ensures
      c.link-call.ensures (subst (λ (u : _). (n : ℕ) × (new ≡ changes (take n c.foreign.result.now) c.link-call.result u (step did.Ended old))) same
      (subst (λ (r : Run). (n : ℕ) × (new ≡ changes (take n c.foreign.result.now) c.link-call.result (in_use mid.phase (run_of mid).state) r))
      after some)) in
      inr (subst (λ (s : Planned). OthersSome s used (step did.Ended old) (run_of (course_of c.refuse_link-then-is_err-2.new.self)))
      (sym c.refuse_link-then-is_err-2.ensures.fails.planned)
      (subst (λ (r : Run). OthersSome c.next_link.new.self used (step did.Ended old) r) (sym c.refuse_link-then-is_err-2.ensures.fails.run) is));
  lost = search rules;
  cause = search rules;
}

pub returns-then-is_err-2-clause-enters : goal.returns-then-is_err-2-clause-enters
returns-then-is_err-2-clause-enters c = record {
  next = search rules;
  told =
      let old = run_of (course_of c.args.self.now) in
      let mid = run_of c.end.new.self in
      let new = run_of c.change_all.new.course in
      subst (λ (r : Run). Linked Connecting old.clock r.clock) (sym c.refuse_link-then-is_err-2.ensures.fails.run)
      (linked_then Connecting old.clock mid.clock new.clock c.end.ensures.told (connecting mid.clock new.clock c.change_all.ensures.told.told));
  held =
      let ended : is_err c.end.result ≡ false = search rules in
      let after = on_ok c.end.result (run_of c.end.new.self ≡ step did.Ended (run_of (course_of c.args.self.now))) ended c.end.ensures.done in
      ap (λ (r : Run). r.held) c.refuse_link-then-is_err-2.ensures.fails.run ∙ c.change_all.ensures.told.held ∙ ap (λ (r : Run). r.held) after;
  stopped = search rules;
  sent = search rules;
  earlier = search rules;
  disk = search rules;
  count = search rules;
}

pub returns-clause-enters : goal.returns-clause-enters
returns-clause-enters c = record {
  next = search rules;
  told =
      let old = run_of (course_of c.args.self.now) in
      let mid = run_of c.end.new.self in
      let new = run_of c.change_all.new.course in
      linked_then Connecting old.clock mid.clock new.clock c.end.ensures.told (connecting mid.clock new.clock c.change_all.ensures.told.told);
  held =
      let ended : is_err c.end.result ≡ false = search rules in
      let after = on_ok c.end.result (run_of c.end.new.self ≡ step did.Ended (run_of (course_of c.args.self.now))) ended c.end.ensures.done in
      c.change_all.ensures.told.held ∙ ap (λ (r : Run). r.held) after;
  stopped = search rules;
  sent = search rules;
  earlier = search rules;
  disk = search rules;
  count = search rules;
}

pub returns-clause-goes_on : goal.returns-clause-goes_on
returns-clause-goes_on c = record {
  done =
      let old = run_of (course_of c.args.self.now) in
      let used = used_anew c.args.self.now in
      let mid = c.end.new.self in
      let new = run_of c.change_all.new.course in
      let ended : is_err c.end.result ≡ false = search rules in
      let done : is_err c.change_all.result ≡ false = search rules in
      let after = on_ok c.end.result (run_of mid ≡ step did.Ended old) ended c.end.ensures.done in
      let same = used_ended (course_of c.args.self.now).phase mid.phase old (run_of mid) (ap (λ (l : Line). l.phase) c.end.ensures.line) c.requires after in
      let all = on_ok c.change_all.result (new ≡ changes c.foreign.result.now c.link-call.result (in_use mid.phase (run_of mid).state)
      (run_of mid)) done c.change_all.ensures.done in
      others_done c.next_link.new.self c.foreign.result.now c.link-call.result used (step did.Ended old) new c.foreign.ensures c.link-call.ensures
      (subst (λ (u : _). new ≡ changes c.foreign.result.now c.link-call.result u (step did.Ended old)) same
      (subst (λ (r : Run). new ≡ changes c.foreign.result.now c.link-call.result (in_use mid.phase (run_of mid).state) r) after all));
  off =
      ap (λ (l : Line). is_on l.phase) (c.change_all.ensures.line ∙ c.end.ensures.line) ∙ lost_off (course_of c.args.self.now).phase c.requires;
  faults = search rules;
}

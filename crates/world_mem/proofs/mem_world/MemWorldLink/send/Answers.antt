use Rattle.std.proofs.Common.{◌≡◌, ◌⊎◌, inl, inr, ℕ, true, false, List, ◌++◌, length, Ok, rules, refl, sym, ◌∙◌, ap, subst}
use Rattle.std.specs.Prelude.{is_err, is_some}
use Rattle.server_mem.specs.States.{State}
use Rattle.imap_model.specs.Talking.{Answering}
use Rattle.world_traits.specs.Links.{AnyStep, Linked}
use Rattle.world_traits.specs.Counts.{counted}
use Rattle.world_traits.specs.Sends.{Arrives}
use Rattle.world_mem.specs.Heard.{HearsBytes}
use Rattle.world_mem.specs.Losing.{Loses}
use Rattle.world_mem.specs.Memory.{Had, run_of, line_of, sent_of, had_in, sending, SentSome}
use Rattle.world_mem.specs.Running.{Run}
use Rattle.world_mem.specs.Others.{OthersChange, others_in}
use Rattle.world_mem.specs.Planned.{Planned, IsShort, arriving}
use Rattle.world_mem.specs.Standing.{is_on}
use Rattle.world_mem.specs.declared.course.Phase.TheVariants as phases
use Rattle.world_mem.specs.Worlds.{course_of, used_in, server_of, served_by, planned_of, refused_of}
use Rattle.world_mem.specs.declared.plan.Loss.{Loss}
use Rattle.world_mem.proofs.Answering.{any_linked, linked_then}
use Rattle.world_mem.proofs.Lines.{is_there, is_sent, same_loss, no_loss, on_err, on_ok, same_connection, no_connection, runs_on, anyway}
use Rattle.world_mem.proofs.Parts.{sent_none, sent_same, sent_arriving}
use Rattle.world_mem.proofs.Sending.{after_others, arrives_then, awaits_still, sent_done, sent_or_linked}
use Rattle.world_mem.proofs.mem_world.MemWorldLink.send.Goals as goal

pub returns-in_err-enter-clause-files : goal.returns-in_err-enter-clause-files
returns-in_err-enter-clause-files c = any_linked Answering (run_of (course_of c.args.self.now)).clock
    (run_of (course_of c.enter.new.self)).clock c.enter.ensures.enters.told.told

pub returns-then-not-is_connected-clause-files : goal.returns-then-not-is_connected-clause-files
returns-then-not-is_connected-clause-files c =
    subst (λ (r : Run). Linked AnyStep (run_of (course_of c.args.self.now)).clock r.clock) (sym c.fail_link.ensures.fails.run)
    (any_linked Answering (run_of (course_of c.args.self.now)).clock (run_of (course_of c.enter.new.self)).clock c.enter.ensures.enters.told.told)

pub returns-then-is_err-clause-files : goal.returns-then-is_err-clause-files
returns-then-is_err-clause-files c =
    let old = run_of (course_of c.args.self.now) in
    let mid = run_of (course_of c.enter.new.self) in
    subst (λ (r : Run). Linked AnyStep old.clock r.clock) (sym c.refuse_link.ensures.fails.run)
    (linked_then AnyStep old.clock mid.clock (run_of c.arrive.new.self).clock
    (any_linked Answering old.clock mid.clock c.enter.ensures.enters.told.told) c.arrive.ensures.arrives.files)

pub returns-then-is_err-clause-told : goal.returns-then-is_err-clause-told
returns-then-is_err-clause-told c = λ tag command before behind is awaits.
    let old = run_of (course_of c.args.self.now) in
    let mid = run_of (course_of c.enter.new.self) in
    let bytes = c.args.bytes.now in
    let sent = c.arrive.ensures.told tag command before behind is (awaits_still tag before old mid c.enter.ensures.enters.told awaits) in
    record {
      done = tt;
      failed = subst (λ (r : Run). Arrives tag command before bytes behind old.clock r.clock ⊎ Linked Answering old.clock r.clock)
          (sym c.refuse_link.ensures.fails.run)
          (after_others tag command before bytes behind old.clock mid.clock (run_of c.arrive.new.self).clock c.enter.ensures.enters.told.told
          (sent_or_linked tag command before bytes behind mid.clock (run_of c.arrive.new.self).clock c.arrive.result sent));
    }

pub returns-in_default-clause-files : goal.returns-in_default-clause-files
returns-in_default-clause-files c =
    let old = run_of (course_of c.args.self.now) in
    let mid = run_of (course_of c.enter.new.self) in
    linked_then AnyStep old.clock mid.clock (run_of c.arrive.new.self).clock
    (any_linked Answering old.clock mid.clock c.enter.ensures.enters.told.told) c.arrive.ensures.arrives.files

pub returns-in_default-clause-told : goal.returns-in_default-clause-told
returns-in_default-clause-told c = λ tag command before behind is awaits.
    let old = run_of (course_of c.args.self.now) in
    let mid = run_of (course_of c.enter.new.self) in
    let bytes = c.args.bytes.now in
    let sent = c.arrive.ensures.told tag command before behind is (awaits_still tag before old mid c.enter.ensures.enters.told awaits) in
    let ok : c.arrive.result ≡ Ok tt = search rules in
    record {
      done = arrives_then tag command before bytes behind old.clock mid.clock (run_of c.arrive.new.self).clock c.enter.ensures.enters.told.told
          (sent_done tag command before bytes behind mid.clock (run_of c.arrive.new.self).clock c.arrive.result tt ok sent);
      failed = tt;
    }

pub returns-then-is_err-2-clause-files : goal.returns-then-is_err-2-clause-files
returns-then-is_err-2-clause-files c =
    let old = run_of (course_of c.args.self.now) in
    let mid = run_of (course_of c.enter.new.self) in
    subst (λ (r : Run). Linked AnyStep old.clock r.clock) (sym c.refuse_link-then-is_err-2.ensures.fails.run)
    (linked_then AnyStep old.clock mid.clock (run_of c.arrive_by.new.self).clock
    (any_linked Answering old.clock mid.clock c.enter.ensures.enters.told.told) c.arrive_by.ensures.arrives.files)

pub returns-then-is_err-2-clause-told : goal.returns-then-is_err-2-clause-told
returns-then-is_err-2-clause-told c = λ tag command before behind is awaits.
    let old = run_of (course_of c.args.self.now) in
    let mid = run_of (course_of c.enter.new.self) in
    let bytes = c.args.bytes.now in
    record {
      done = tt;
      failed = subst (λ (r : Run). Arrives tag command before bytes behind old.clock r.clock ⊎ Linked Answering old.clock r.clock)
          (sym c.refuse_link-then-is_err-2.ensures.fails.run)
          (after_others tag command before bytes behind old.clock mid.clock (run_of c.arrive_by.new.self).clock c.enter.ensures.enters.told.told
          (c.arrive_by.ensures.told tag command before behind is (awaits_still tag before old mid c.enter.ensures.enters.told awaits)));
    }

pub returns-clause-files : goal.returns-clause-files
returns-clause-files c =
    let old = run_of (course_of c.args.self.now) in
    let mid = run_of (course_of c.enter.new.self) in
    subst (λ (r : Run). Linked AnyStep old.clock r.clock) (sym c.fail_link-2.ensures.fails.run)
    (linked_then AnyStep old.clock mid.clock (run_of c.arrive_by.new.self).clock
    (any_linked Answering old.clock mid.clock c.enter.ensures.enters.told.told) c.arrive_by.ensures.arrives.files)

pub returns-clause-told : goal.returns-clause-told
returns-clause-told c = λ tag command before behind is awaits.
    let old = run_of (course_of c.args.self.now) in
    let mid = run_of (course_of c.enter.new.self) in
    let bytes = c.args.bytes.now in
    record {
      done = tt;
      failed = subst (λ (r : Run). Arrives tag command before bytes behind old.clock r.clock ⊎ Linked Answering old.clock r.clock)
          (sym c.fail_link-2.ensures.fails.run)
          (after_others tag command before bytes behind old.clock mid.clock (run_of c.arrive_by.new.self).clock c.enter.ensures.enters.told.told
          (c.arrive_by.ensures.told tag command before behind is (awaits_still tag before old mid c.enter.ensures.enters.told awaits)));
    }

pub returns-then-is_err-2-clause-short : goal.returns-then-is_err-2-clause-short
returns-then-is_err-2-clause-short c = λ loss is short tag command before behind part awaits.
    let old = run_of (course_of c.args.self.now) in
    let mid = run_of (course_of c.enter.new.self) in
    let same = same_loss (planned_of c.enter.new.self) (planned_of c.refuse_link-then-is_err-2.new.self) c.loss.result c.in-Some.loss loss
    c.in-Some.is c.loss.ensures c.refuse_link-then-is_err-2.ensures.fails.planned is in
    let stays = c.arrive_by.ensures.short (subst (λ (l : Loss). IsShort l (length c.args.bytes.now))
    (sym same) short) tag command before behind part (awaits_still tag before old mid c.enter.ensures.enters.told awaits) in
    subst (OthersChange old) (sym (c.refuse_link-then-is_err-2.ensures.fails.run ∙ stays)) c.enter.ensures.enters.told

pub returns-clause-short : goal.returns-clause-short
returns-clause-short c = λ loss is short tag command before behind part awaits.
    let old = run_of (course_of c.args.self.now) in
    let mid = run_of (course_of c.enter.new.self) in
    let same = same_loss (planned_of c.enter.new.self) (planned_of c.fail_link-2.new.self) c.loss.result c.in-Some.loss loss c.in-Some.is
    c.loss.ensures c.fail_link-2.ensures.fails.planned is in
    let stays = c.arrive_by.ensures.short (subst (λ (l : Loss). IsShort l (length c.args.bytes.now))
    (sym same) short) tag command before behind part (awaits_still tag before old mid c.enter.ensures.enters.told awaits) in
    subst (OthersChange old) (sym (c.fail_link-2.ensures.fails.run ∙ stays)) c.enter.ensures.enters.told

pub returns-clause-downed : goal.returns-clause-downed
returns-clause-downed c = λ runs there loss is. record {
  whole = λ long tag command before behind part awaits.
      let old = run_of (course_of c.args.self.now) in
      let mid = run_of (course_of c.enter.new.self) in
      let bytes = c.args.bytes.now in
      let same = same_loss (planned_of c.enter.new.self) (planned_of c.fail_link-2.new.self) c.loss.result c.in-Some.loss loss c.in-Some.is
      c.loss.ensures c.fail_link-2.ensures.fails.planned is in
      let sent = c.arrive_by.ensures.whole (λ short. long (subst (λ (l : Loss). IsShort l
      (length bytes)) same short)) tag command before behind part (awaits_still tag before old mid c.enter.ensures.enters.told awaits) in
      let ok : c.arrive_by.result ≡ Ok tt = search rules in
      inl (subst (λ (r : Run). Arrives tag command before bytes behind old.clock r.clock) (sym c.fail_link-2.ensures.fails.run)
      (arrives_then tag command before bytes behind old.clock mid.clock (run_of c.arrive_by.new.self).clock c.enter.ensures.enters.told.told
      (sent_done tag command before bytes behind mid.clock (run_of c.arrive_by.new.self).clock c.arrive_by.result tt ok sent)));
  arrived =
      let bytes = c.args.bytes.now in
      let done : is_err c.arrive_by.result ≡ false = search rules in
      let sent = on_ok c.arrive_by.result (sent_of c.arrive_by.new.self
      ≡ sent_of (course_of c.enter.new.self) ++ arriving c.in-Some.loss bytes) done c.arrive_by.ensures.sent in
      let same = same_loss (planned_of c.enter.new.self) (planned_of c.fail_link-2.new.self) c.loss.result c.in-Some.loss loss c.in-Some.is
      c.loss.ensures c.fail_link-2.ensures.fails.planned is in
      inl (c.fail_link-2.ensures.fails.sent ∙ sent ∙ ap (λ (b : List ℕ). b ++ arriving c.in-Some.loss bytes) c.enter.ensures.enters.sent
      ∙ ap (λ (l : Loss). sent_of (course_of c.args.self.now) ++ arriving l bytes) same);
  loses =
      let bytes = c.args.bytes.now in
      let old = run_of (course_of c.args.self.now) in
      let mid = run_of (course_of c.enter.new.self) in
      let planned = planned_of c.enter.new.self in
      let last = planned_of c.fail_link-2.new.self in
      let done : is_err c.arrive_by.result ≡ false = search rules in
      let same = same_loss planned last c.loss.result c.in-Some.loss loss c.in-Some.is c.loss.ensures c.fail_link-2.ensures.fails.planned is in
      let loses = on_ok c.arrive_by.result (Loses c.in-Some.loss bytes (server_of c.enter.new.self) mid (run_of c.arrive_by.new.self)) done
      c.arrive_by.ensures.loses in
      let served = c.in_ok-enter.ensures.goes_on.server ∙ ap (served_by c.args.self.now) c.in_ok-enter.ensures.goes_on.done in
      inl (subst (λ (s : Planned). Loses loss bytes (served_by c.args.self.now (others_in s (used_in c.args.self.now) old)) (others_in s (used_in c.args.self.now) old)
      (run_of (course_of c.fail_link-2.new.self))) (sym c.fail_link-2.ensures.fails.planned)
      (subst (λ (x : State). Loses loss bytes x (others_in planned (used_in c.args.self.now) old) (run_of (course_of c.fail_link-2.new.self))) served
      (subst (λ (r : Run). Loses loss bytes (server_of c.enter.new.self) r (run_of (course_of c.fail_link-2.new.self))) c.in_ok-enter.ensures.goes_on.done
      (subst (λ (r : Run). Loses loss bytes (server_of c.enter.new.self) mid r) (sym c.fail_link-2.ensures.fails.run)
      (subst (λ (l : Loss). Loses l bytes (server_of c.enter.new.self) mid (run_of c.arrive_by.new.self)) same loses)))));
}

-- what was sent
pub returns-in_err-enter-clause-line : goal.returns-in_err-enter-clause-line
returns-in_err-enter-clause-line c = record {
  sent = search rules;
  front = anyway c.from_residual.result (sent_none c.args.bytes.now (sent_of (course_of c.args.self.now)) (sent_of (course_of c.enter.new.self)) c.enter.ensures.enters.sent);
  unsent = search rules;
  earlier = search rules;
  received = search rules;
  lost = search rules;
}

pub returns-then-not-is_connected-clause-line : goal.returns-then-not-is_connected-clause-line
returns-then-not-is_connected-clause-line c = record {
  sent = search rules;
  front =
      sent_none c.args.bytes.now (sent_of (course_of c.args.self.now)) (sent_of (course_of c.fail_link.new.self))
      (c.fail_link.ensures.fails.sent ∙ c.enter.ensures.enters.sent);
  unsent = search rules;
  earlier = search rules;
  received = search rules;
  lost = search rules;
}

pub returns-then-is_err-clause-line : goal.returns-then-is_err-clause-line
returns-then-is_err-clause-line c = record {
  sent = search rules;
  front =
      let bytes = c.args.bytes.now in
      let failed : is_err c.arrive.result ≡ true = search rules in
      let front = on_err c.arrive.result (SentSome bytes (sent_of (course_of c.enter.new.self)) (sent_of c.arrive.new.self)) failed c.arrive.ensures.arrives.front in
      sent_same bytes (sent_of (course_of c.enter.new.self)) (sent_of c.arrive.new.self) (sent_of (course_of c.args.self.now))
      (sent_of (course_of c.refuse_link.new.self)) c.enter.ensures.enters.sent c.refuse_link.ensures.fails.sent front;
  unsent =
      λ none.
      let on : is_on (course_of c.enter.new.self).phase ≡ true = search rules in
      is_sent tt (planned_of c.enter.new.self) (planned_of c.refuse_link.new.self) (refused_of c.args.self.now) (refused_of c.enter.new.self)
      (line_of (course_of c.args.self.now)) (line_of (course_of c.enter.new.self)) c.refuse_link.ensures.fails.planned
      c.in_ok-enter.ensures.exact c.in_ok-enter.ensures.goes_on.line on none;
  earlier = search rules;
  received = search rules;
  lost = search rules;
}

pub returns-then-is_err-2-clause-line : goal.returns-then-is_err-2-clause-line
returns-then-is_err-2-clause-line c = record {
  sent = search rules;
  front =
      let bytes = c.args.bytes.now in
      let failed : is_err c.arrive_by.result ≡ true = search rules in
      let front = on_err c.arrive_by.result (SentSome bytes (sent_of (course_of c.enter.new.self)) (sent_of c.arrive_by.new.self)) failed
      c.arrive_by.ensures.arrives.front in
      sent_same bytes (sent_of (course_of c.enter.new.self)) (sent_of c.arrive_by.new.self) (sent_of (course_of c.args.self.now))
      (sent_of (course_of c.refuse_link-then-is_err-2.new.self)) c.enter.ensures.enters.sent c.refuse_link-then-is_err-2.ensures.fails.sent front;
  unsent =
      λ none.
      let on : is_on (course_of c.enter.new.self).phase ≡ true = search rules in
      is_sent tt (planned_of c.enter.new.self) (planned_of c.refuse_link-then-is_err-2.new.self) (refused_of c.args.self.now) (refused_of c.enter.new.self)
      (line_of (course_of c.args.self.now)) (line_of (course_of c.enter.new.self)) c.refuse_link-then-is_err-2.ensures.fails.planned
      c.in_ok-enter.ensures.exact c.in_ok-enter.ensures.goes_on.line on none;
  earlier = search rules;
  received = search rules;
  lost = search rules;
}

pub returns-clause-line : goal.returns-clause-line
returns-clause-line c = record {
  sent = search rules;
  front =
      let bytes = c.args.bytes.now in
      let done : is_err c.arrive_by.result ≡ false = search rules in
      let sent = on_ok c.arrive_by.result (sent_of c.arrive_by.new.self
      ≡ sent_of (course_of c.enter.new.self) ++ arriving c.in-Some.loss bytes) done c.arrive_by.ensures.sent in
      sent_arriving c.in-Some.loss bytes (sent_of (course_of c.args.self.now)) (sent_of (course_of c.fail_link-2.new.self))
      (c.fail_link-2.ensures.fails.sent ∙ sent ∙ ap (λ (b : List ℕ). b ++ arriving c.in-Some.loss bytes) c.enter.ensures.enters.sent);
  unsent =
      λ none.
      let on : is_on (course_of c.enter.new.self).phase ≡ true = search rules in
      is_sent tt (planned_of c.enter.new.self) (planned_of c.fail_link-2.new.self) (refused_of c.args.self.now) (refused_of c.enter.new.self)
      (line_of (course_of c.args.self.now)) (line_of (course_of c.enter.new.self)) c.fail_link-2.ensures.fails.planned
      c.in_ok-enter.ensures.exact c.in_ok-enter.ensures.goes_on.line on none;
  earlier = search rules;
  received = search rules;
  lost = search rules;
}

pub returns-in_default-clause-line : goal.returns-in_default-clause-line
returns-in_default-clause-line c = record {
  sent =
      let bytes = c.args.bytes.now in
      let done : is_err c.arrive.result ≡ false = search rules in
      let had = on_ok c.arrive.result (had_in (line_of c.arrive.new.self)
      ≡ sending bytes (had_in (line_of (course_of c.enter.new.self)))) done c.arrive.ensures.had in
      ap (λ (h : Had). h.sent) had ∙ ap (λ (b : List ℕ). b ++ bytes) c.enter.ensures.enters.sent;
  front = search rules;
  unsent =
      λ none.
      let on : is_on (course_of c.enter.new.self).phase ≡ true = search rules in
      is_sent tt (planned_of c.enter.new.self) (planned_of c.enter.new.self) (refused_of c.args.self.now) (refused_of c.enter.new.self)
      (line_of (course_of c.args.self.now)) (line_of (course_of c.enter.new.self)) refl c.in_ok-enter.ensures.exact c.in_ok-enter.ensures.goes_on.line on none;
  earlier = search rules;
  received =
      let bytes = c.args.bytes.now in
      let done : is_err c.arrive.result ≡ false = search rules in
      let had = on_ok c.arrive.result (had_in (line_of c.arrive.new.self)
      ≡ sending bytes (had_in (line_of (course_of c.enter.new.self)))) done c.arrive.ensures.had in
      let on = on_ok c.arrive.result (c.arrive.new.self.phase ≡ phases.On) done c.arrive.ensures.on in
      let was : is_on (course_of c.enter.new.self).phase ≡ true = search rules in
      same_connection (line_of (course_of c.args.self.now)) (line_of (course_of c.enter.new.self))
      (line_of c.arrive.new.self) c.in_ok-enter.ensures.goes_on.line was (ap is_on on) (ap (λ (h : Had). h.received) had);
  lost = search rules;
}

-- what arrived
pub returns-in_err-enter-clause-downed : goal.returns-in_err-enter-clause-downed
returns-in_err-enter-clause-downed c = λ runs there loss is.
    let refused = c.in_err-enter.ensures.exact.others runs in
    record { whole = λ long tag command before behind part awaits. inr refused; arrived = inr refused; loses = inr refused }

pub returns-then-not-is_connected-clause-downed : goal.returns-then-not-is_connected-clause-downed
returns-then-not-is_connected-clause-downed c = λ runs there loss is.
    let off : is_on (course_of c.enter.new.self).phase ≡ false = search rules in
    absurd (there (no_connection (line_of (course_of c.args.self.now)) (line_of (course_of c.enter.new.self)) c.in_ok-enter.ensures.goes_on.line off))

pub returns-then-is_err-clause-downed : goal.returns-then-is_err-clause-downed
returns-then-is_err-clause-downed c = λ runs there loss is.
    let refused = c.refuse_link.ensures.refused ∙ ap counted (c.in_ok-enter.ensures.exact.others
    (runs_on (planned_of c.enter.new.self) (planned_of c.refuse_link.new.self) c.refuse_link.ensures.fails.planned runs)) in
    record { whole = λ long tag command before behind part awaits. inr refused; arrived = inr refused; loses = inr refused }

pub returns-in_default-clause-downed : goal.returns-in_default-clause-downed
returns-in_default-clause-downed c = λ runs there loss is.
    let none : is_some c.loss.result ≡ false = search rules in
    absurd (no_loss (planned_of c.enter.new.self) (planned_of c.enter.new.self) c.loss.result loss none c.loss.ensures refl is)

pub returns-then-is_err-2-clause-downed : goal.returns-then-is_err-2-clause-downed
returns-then-is_err-2-clause-downed c = λ runs there loss is.
    let refused = c.refuse_link-then-is_err-2.ensures.refused ∙ ap counted (c.in_ok-enter.ensures.exact.others
    (runs_on (planned_of c.enter.new.self) (planned_of c.refuse_link-then-is_err-2.new.self) c.refuse_link-then-is_err-2.ensures.fails.planned runs)) in
    record { whole = λ long tag command before behind part awaits. inr refused; arrived = inr refused; loses = inr refused }

-- what the server heard
pub returns-in_default-clause-hears : goal.returns-in_default-clause-hears
returns-in_default-clause-hears c =
    let bytes = c.args.bytes.now in
    let mid = run_of (course_of c.enter.new.self) in
    let done : is_err c.arrive.result ≡ false = search rules in
    let heard = on_ok c.arrive.result (HearsBytes bytes (server_of c.enter.new.self) mid c.arrive.new.self.server
    (run_of c.arrive.new.self)) done c.arrive.ensures.hears in
    let served = c.in_ok-enter.ensures.goes_on.server ∙ ap (served_by c.args.self.now) c.in_ok-enter.ensures.goes_on.done in
    subst (λ (x : State). HearsBytes bytes x (others_in (planned_of c.enter.new.self) (used_in c.args.self.now) (run_of (course_of c.args.self.now)))
    c.arrive.new.self.server (run_of c.arrive.new.self)) served
    (subst (λ (r : Run). HearsBytes bytes (server_of c.enter.new.self) r c.arrive.new.self.server (run_of c.arrive.new.self)) c.in_ok-enter.ensures.goes_on.done heard)

-- nothing is sent behind the stop, or where there is no connection
pub returns-in_err-enter-clause-unheard : goal.returns-in_err-enter-clause-unheard
returns-in_err-enter-clause-unheard c = λ runs off. inr (c.in_err-enter.ensures.breaks_off.some, c.in_err-enter.ensures.exact.others runs)

pub returns-then-not-is_connected-clause-unheard : goal.returns-then-not-is_connected-clause-unheard
returns-then-not-is_connected-clause-unheard c = λ runs off.
    inl (
      c.fail_link.ensures.fails.run ∙ c.in_ok-enter.ensures.goes_on.done
          ∙ ap (λ (s : Planned). others_in s (used_in c.args.self.now) (run_of (course_of c.args.self.now))) (sym c.fail_link.ensures.fails.planned),
      c.fail_link.ensures.refused ∙ c.in_ok-enter.ensures.exact.others
          (runs_on (planned_of c.enter.new.self) (planned_of c.fail_link.new.self) c.fail_link.ensures.fails.planned runs),
    )

pub returns-then-is_err-clause-unheard : goal.returns-then-is_err-clause-unheard
returns-then-is_err-clause-unheard c = λ runs off.
    let on : is_on (course_of c.enter.new.self).phase ≡ true = search rules in
    absurd (is_there (line_of (course_of c.args.self.now)) (line_of (course_of c.enter.new.self)) c.in_ok-enter.ensures.goes_on.line on off)

pub returns-in_default-clause-unheard : goal.returns-in_default-clause-unheard
returns-in_default-clause-unheard c = λ runs off.
    let on : is_on (course_of c.enter.new.self).phase ≡ true = search rules in
    absurd (is_there (line_of (course_of c.args.self.now)) (line_of (course_of c.enter.new.self)) c.in_ok-enter.ensures.goes_on.line on off)

pub returns-then-is_err-2-clause-unheard : goal.returns-then-is_err-2-clause-unheard
returns-then-is_err-2-clause-unheard c = λ runs off.
    let on : is_on (course_of c.enter.new.self).phase ≡ true = search rules in
    absurd (is_there (line_of (course_of c.args.self.now)) (line_of (course_of c.enter.new.self)) c.in_ok-enter.ensures.goes_on.line on off)

pub returns-clause-unheard : goal.returns-clause-unheard
returns-clause-unheard c = λ runs off.
    let on : is_on (course_of c.enter.new.self).phase ≡ true = search rules in
    absurd (is_there (line_of (course_of c.args.self.now)) (line_of (course_of c.enter.new.self)) c.in_ok-enter.ensures.goes_on.line on off)

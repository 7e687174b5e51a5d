use Rattle.std.proofs.Common.{◌≡◌, inl, rules, sym, ◌∙◌, subst}
use Rattle.world_traits.specs.Links.{Linked, AnyStep}
use Rattle.world_traits.specs.Sends.{Arrives}
use Rattle.world_mem.specs.Heard.{HearsSome}
use Rattle.world_mem.specs.Memory.{run_of, sent_of}
use Rattle.world_mem.specs.Running.{Run}
use Rattle.world_mem.proofs.Answering.{linked_then}
use Rattle.world_mem.proofs.Parts.{bytes_heard, none_of_some, some_heard, sent_all}
use Rattle.world_mem.proofs.Sending.{all_come, begun_with, cut_off, heard_or_linked, heard_there, none_unfinished, sent_failed}
use Rattle.world_mem.proofs.Lines.{anyway}
use Rattle.world_mem.proofs.course.Course.arrive.Goals as goal

pub returns-in_err-hear-clause-told : goal.returns-in_err-hear-clause-told
returns-in_err-hear-clause-told c = λ tag command before behind is awaits.
    let w = c.args.self.now in
    let mid = c.take_in.new.self in
    let bytes = c.args.bytes.now in
    let cut = cut_off w c.requires tag command before bytes behind is awaits mid c.in_ok-take_in.ensures.taken.phase c.take_in.ensures.run c.texts_are_cut.ensures in
    let all = c.in_ok-take_in.ensures.taken.begun ∙ begun_with w c.requires tag command before bytes behind is awaits bytes in
    sent_failed tag command before bytes behind (run_of w).clock
    (run_of c.hear.new.self).clock c.from_residual-in_err-hear.result c.in_err-hear.field-0.0 (search rules)
    (heard_or_linked w c.requires tag command before bytes behind is awaits mid c.in_ok-take_in.ensures.taken.phase c.take_in.ensures.run
    c.no_text_is_a_front.ensures c.first_parts_tell_tags.ensures (run_of c.hear.new.self)
    (c.in_err-hear.ensures.one bytes cut all).failed)

pub returns-in_err-rest-clause-told : goal.returns-in_err-rest-clause-told
returns-in_err-rest-clause-told c = λ tag command before behind is awaits.
    let w = c.args.self.now in
    let mid = c.take_in.new.self in
    let bytes = c.args.bytes.now in
    let cut = cut_off w c.requires tag command before bytes behind is awaits mid c.in_ok-take_in.ensures.taken.phase c.take_in.ensures.run c.texts_are_cut.ensures in
    let all = c.in_ok-take_in.ensures.taken.begun ∙ begun_with w c.requires tag command before bytes behind is awaits bytes in
    let arrives = heard_there w c.requires tag command before bytes behind is awaits mid c.in_ok-take_in.ensures.taken.phase
    c.take_in.ensures.run c.no_text_is_a_front.ensures c.first_parts_tell_tags.ensures (run_of c.hear.new.self)
    (c.in_ok-hear.ensures.one bytes cut all).done in
    sent_failed tag command before bytes behind (run_of w).clock
    (run_of c.rest.new.self).clock c.from_residual-in_err-rest.result c.in_err-rest.field-0.0 (search rules)
    (inl (subst (λ (r : Run). Arrives tag command before bytes behind (run_of w).clock r.clock) (sym c.in_err-rest.ensures.failed) arrives))

pub returns-clause-arrives : goal.returns-clause-arrives
returns-clause-arrives c = record {
  earlier = search rules;
  files =
      linked_then AnyStep (run_of c.args.self.now).clock (run_of c.hear.new.self).clock (run_of c.rest.new.self).clock
      (subst (λ (r : Run). Linked AnyStep r.clock (run_of c.hear.new.self).clock) c.take_in.ensures.run c.hear.ensures.files)
      c.in_ok-rest.ensures.begun.1;
  some = search rules;
  front = search rules;
}

pub returns-clause-told : goal.returns-clause-told
returns-clause-told c = λ tag command before behind is awaits.
    let w = c.args.self.now in
    let mid = c.take_in.new.self in
    let bytes = c.args.bytes.now in
    let cut = cut_off w c.requires tag command before bytes behind is awaits mid c.in_ok-take_in.ensures.taken.phase c.take_in.ensures.run c.texts_are_cut.ensures in
    let all = c.in_ok-take_in.ensures.taken.begun ∙ begun_with w c.requires tag command before bytes behind is awaits bytes in
    let arrives = heard_there w c.requires tag command before bytes behind is awaits mid c.in_ok-take_in.ensures.taken.phase
    c.take_in.ensures.run c.no_text_is_a_front.ensures c.first_parts_tell_tags.ensures (run_of c.hear.new.self)
    (c.in_ok-hear.ensures.one bytes cut all).done in
    let ended = c.in_ok-hear.ensures.ended (all_come w c.requires tag command before bytes behind is awaits mid
    c.in_ok-take_in.ensures.taken.phase c.take_in.ensures.run c.texts_are_cut.ensures c.in_ok-take_in.ensures.taken.begun) in
    let same : run_of c.rest.new.self ≡ run_of c.hear.new.self =
    c.in_ok-rest.ensures.begun.0 (none_unfinished c.hear.new.self c.in_ok-hear.ensures.listens.phase ended) in
    record { done = subst (λ (r : Run). Arrives tag command before bytes behind (run_of w).clock r.clock) (sym same) arrives; failed = tt }

pub returns-clause-hears : goal.returns-clause-hears
returns-clause-hears c =
    let w = c.args.self.now in
    let mid = c.take_in.new.self in
    bytes_heard c.args.bytes.now w.server mid.server (run_of w) (run_of mid) c.in_ok-take_in.ensures.taken.server c.take_in.ensures.run
    c.hear.new.self.server c.rest.new.self.server (run_of c.hear.new.self)
    (run_of c.rest.new.self) c.in_ok-hear.ensures.all c.rest.ensures.server c.in_ok-rest.ensures.left

pub returns-in_err-take_in-clause-arrives : goal.returns-in_err-take_in-clause-arrives
returns-in_err-take_in-clause-arrives c = record {
  earlier = search rules;
  files = search rules;
  some =
      let w = c.args.self.now in anyway c.from_residual.result (none_of_some c.args.bytes.now w.server (run_of w)
      (run_of c.take_in.new.self) c.take_in.ensures.run);
  front = search rules;
}

pub returns-in_err-hear-clause-arrives : goal.returns-in_err-hear-clause-arrives
returns-in_err-hear-clause-arrives c = record {
  earlier = search rules;
  files = search rules;
  some =
      let w = c.args.self.now in
      let mid = c.take_in.new.self in
      anyway c.from_residual-in_err-hear.result
      (some_heard c.args.bytes.now w.server mid.server (run_of w) (run_of mid) c.in_ok-take_in.ensures.taken.server c.take_in.ensures.run
      (run_of c.hear.new.self) c.in_err-hear.ensures.some);
  front =
      anyway c.from_residual-in_err-hear.result (sent_all c.args.bytes.now (sent_of c.args.self.now) (sent_of c.hear.new.self)
      (c.hear.ensures.listens.sent ∙ c.in_ok-take_in.ensures.taken.sent));
}

pub returns-in_err-rest-clause-arrives : goal.returns-in_err-rest-clause-arrives
returns-in_err-rest-clause-arrives c = record {
  earlier = search rules;
  files = search rules;
  some =
      let w = c.args.self.now in
      let mid = c.take_in.new.self in
      anyway c.from_residual-in_err-rest.result
      (subst (HearsSome c.args.bytes.now w.server (run_of w)) (sym c.in_err-rest.ensures.failed)
      (some_heard c.args.bytes.now w.server mid.server (run_of w) (run_of mid) c.in_ok-take_in.ensures.taken.server c.take_in.ensures.run
      (run_of c.hear.new.self) (c.hear.new.self.server, c.in_ok-hear.ensures.all.parts)));
  front =
      anyway c.from_residual-in_err-rest.result (sent_all c.args.bytes.now (sent_of c.args.self.now) (sent_of c.rest.new.self)
      (c.rest.ensures.sent ∙ c.hear.ensures.listens.sent ∙ c.in_ok-take_in.ensures.taken.sent));
}

use Rattle.std.proofs.Common.{rules, ◌∙◌}
use Rattle.world_mem.specs.Memory.{run_of, sent_of}
use Rattle.world_mem.proofs.Parts.{last_heard, none_of_some, some_heard, sent_all}
use Rattle.world_mem.proofs.Sending.{begun_with, cut_off, heard_or_linked, heard_there, sent_failed}
use Rattle.world_mem.proofs.Lines.{anyway}
use Rattle.world_mem.proofs.course.Course.arrive_last.Goals as goal

pub returns-in_err-hear-clause-told : goal.returns-in_err-hear-clause-told
returns-in_err-hear-clause-told c = λ tag command before behind is awaits.
    let w = c.args.self.now in
    let mid = c.take_in.new.self in
    let bytes = c.args.bytes.now in
    let cut = cut_off w c.requires tag command before bytes behind is awaits mid c.in_ok-take_in.ensures.taken.phase c.take_in.ensures.run c.texts_are_cut.ensures in
    let all = c.in_ok-take_in.ensures.taken.begun ∙ begun_with w c.requires tag command before bytes behind is awaits bytes in
    sent_failed tag command before bytes behind (run_of w).clock
    (run_of c.hear.new.self).clock c.from_residual-in_err-hear.result c.in_err-hear.field-0.0 (search rules)
    (heard_or_linked w c.requires tag command before bytes behind is awaits mid c.in_ok-take_in.ensures.taken.phase c.take_in.ensures.run
    c.no_text_is_a_front.ensures c.first_parts_tell_tags.ensures (run_of c.hear.new.self)
    (c.in_err-hear.ensures.one bytes cut all).failed)

pub returns-clause-told : goal.returns-clause-told
returns-clause-told c = λ tag command before behind is awaits.
    let w = c.args.self.now in
    let mid = c.take_in.new.self in
    let bytes = c.args.bytes.now in
    let cut = cut_off w c.requires tag command before bytes behind is awaits mid c.in_ok-take_in.ensures.taken.phase c.take_in.ensures.run c.texts_are_cut.ensures in
    let all = c.in_ok-take_in.ensures.taken.begun ∙ begun_with w c.requires tag command before bytes behind is awaits bytes in
    record {
      done = heard_there w c.requires tag command before bytes behind is awaits mid c.in_ok-take_in.ensures.taken.phase c.take_in.ensures.run
          c.no_text_is_a_front.ensures c.first_parts_tell_tags.ensures (run_of c.hear.new.self)
          (c.in_ok-hear.ensures.one bytes cut all).done;
      failed = tt;
    }

pub returns-clause-last : goal.returns-clause-last
returns-clause-last c =
    let w = c.args.self.now in
    let mid = c.take_in.new.self in
    last_heard c.args.bytes.now w.server mid.server (run_of w) (run_of mid) c.in_ok-take_in.ensures.taken.server c.take_in.ensures.run
    c.hear.new.self.server (run_of c.hear.new.self) c.in_ok-hear.ensures.all

pub returns-in_err-take_in-clause-arrives : goal.returns-in_err-take_in-clause-arrives
returns-in_err-take_in-clause-arrives c = record {
  earlier = search rules;
  files = search rules;
  some =
      let w = c.args.self.now in anyway c.from_residual.result (none_of_some c.args.bytes.now w.server (run_of w)
      (run_of c.take_in.new.self) c.take_in.ensures.run);
  front = search rules;
}

pub returns-in_err-hear-clause-arrives : goal.returns-in_err-hear-clause-arrives
returns-in_err-hear-clause-arrives c = record {
  earlier = search rules;
  files = search rules;
  some =
      let w = c.args.self.now in
      let mid = c.take_in.new.self in
      anyway c.from_residual-in_err-hear.result
      (some_heard c.args.bytes.now w.server mid.server (run_of w) (run_of mid) c.in_ok-take_in.ensures.taken.server c.take_in.ensures.run
      (run_of c.hear.new.self) c.in_err-hear.ensures.some);
  front =
      anyway c.from_residual-in_err-hear.result (sent_all c.args.bytes.now (sent_of c.args.self.now) (sent_of c.hear.new.self)
      (c.hear.ensures.listens.sent ∙ c.in_ok-take_in.ensures.taken.sent));
}

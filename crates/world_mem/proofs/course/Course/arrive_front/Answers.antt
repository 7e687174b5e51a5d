use Rattle.std.proofs.Common.{rules, take, sym, subst}
use Rattle.command_texts.specs.Cutting.{NoPart}
use Rattle.world_mem.specs.Memory.{run_of, sent_of}
use Rattle.world_mem.proofs.Parts.{some_of_front, sent_front}
use Rattle.world_mem.proofs.Sending.{begun_with, cut_there, no_front_part}
use Rattle.world_mem.proofs.Lines.{anyway}
use Rattle.world_mem.proofs.course.Course.arrive_front.Goals as goal

pub returns-in_err-arrive_last-clause-told : goal.returns-in_err-arrive_last-clause-told
returns-in_err-arrive_last-clause-told c = λ tag command before behind is awaits.
    let w = c.args.self.now in
    let bytes = c.args.bytes.now in
    let piece = take c.args.count bytes in
    c.arrive_last.ensures.none (subst (NoPart w.server.parts) (sym (begun_with w c.requires.on tag command before bytes behind is awaits piece))
    (no_front_part w.server.parts bytes c.args.count (cut_there w c.requires.on tag command before bytes behind is awaits
    c.texts_are_cut.ensures) c.requires.less))

pub returns-clause-told : goal.returns-clause-told
returns-clause-told c = λ tag command before behind is awaits.
    let w = c.args.self.now in
    let bytes = c.args.bytes.now in
    let piece = take c.args.count bytes in
    c.arrive_last.ensures.none (subst (NoPart w.server.parts) (sym (begun_with w c.requires.on tag command before bytes behind is awaits piece))
    (no_front_part w.server.parts bytes c.args.count (cut_there w c.requires.on tag command before bytes behind is awaits
    c.texts_are_cut.ensures) c.requires.less))

pub returns-in_err-arrive_last-clause-arrives : goal.returns-in_err-arrive_last-clause-arrives
returns-in_err-arrive_last-clause-arrives c = record {
  earlier = search rules;
  files = search rules;
  some =
      let w = c.args.self.now in anyway c.from_residual.result (some_of_front c.args.count c.args.bytes.now w.server (run_of w)
      (run_of c.arrive_last.new.self) c.in_err-arrive_last.ensures.arrives.some);
  front =
      anyway c.from_residual.result (sent_front c.args.count c.args.bytes.now (sent_of c.args.self.now)
      (sent_of c.arrive_last.new.self) c.in_err-arrive_last.ensures.arrives.front);
}

use Rattle.std.proofs.Common.{◌≡◌, ◌++◌, rules, refl, ap}
use Rattle.world_mem.specs.Memory.{run_of, sent_of}
use Rattle.world_mem.specs.Standing.{is_on}
use Rattle.world_mem.proofs.Doing.{sound_server}
use Rattle.world_mem.proofs.Parts.{sent_none, sent_all}
use Rattle.world_mem.proofs.Lines.{anyway}
use Rattle.world_mem.proofs.course.Course.take_in.Goals as goal

pub take_in-requires : goal.take_in-requires
take_in-requires c =
    let w = c.args.self.now in
    sound_server w.phase w.server (run_of w).state (ap is_on c.requires) w.stands.server_is w.stands.sound

pub returns-in_default-clause-front : goal.returns-in_default-clause-front
returns-in_default-clause-front c = sent_none c.args.bytes.now (sent_of c.args.self.now) (sent_of c.args.self.now) refl

pub returns-in_err-extend_from_slice-clause-front : goal.returns-in_err-extend_from_slice-clause-front
returns-in_err-extend_from_slice-clause-front c =
    let same : c.extend_from_slice.new.self.items ≡ sent_of c.args.self.now = search rules in
    anyway c.from_residual.result
    (sent_none c.args.bytes.now (sent_of c.args.self.now) c.extend_from_slice.new.self.items same)

pub returns-in_err-take_in-clause-front : goal.returns-in_err-take_in-clause-front
returns-in_err-take_in-clause-front c =
    let more : c.extend_from_slice.new.self.items ≡ sent_of c.args.self.now ++ c.args.bytes.now = search rules in
    anyway c.from_residual-in_err-take_in.result
    (sent_all c.args.bytes.now (sent_of c.args.self.now) c.extend_from_slice.new.self.items more)

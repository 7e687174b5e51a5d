use Rattle.std.proofs.Common.{◌≡◌, inr, false, [], rules, refl, sym, ◌∙◌}
use Rattle.std.proofs.lemmas.List.{append-nil}
use Rattle.world_traits.specs.Links.{AnyStep}
use Rattle.world_mem.specs.Heard.{hears, stops}
use Rattle.world_mem.specs.Memory.{run_of}
use Rattle.world_mem.proofs.Answering.{linked_then}
use Rattle.world_mem.proofs.Parts.{parts_or_not, parts_later, all_heard, all_later}
use Rattle.world_mem.proofs.Sending.{any_heard, any_or_not, failed_only, heard_alone, heard_or_not, one_heard}
use Rattle.world_mem.proofs.Lines.{anyway}
use Rattle.world_mem.proofs.course.Course.hear.Goals as goal

pub returns-in_err-hear_next-clause-files : goal.returns-in_err-hear_next-clause-files
returns-in_err-hear_next-clause-files c =
    let w = c.args.self.now in
    any_or_not w.server c.hear_next.new.self.server (run_of w) (run_of c.hear_next.new.self) c.in_err-hear_next.ensures.broken

pub returns-in_err-hear_next-clause-one : goal.returns-in_err-hear_next-clause-one
returns-in_err-hear_next-clause-one c = λ part is all.
    let w = c.args.self.now in
    failed_only part w.server (run_of w) (run_of c.hear_next.new.self) c.from_residual.result c.in_err-hear_next.field-0.0 (search rules)
    (heard_or_not part w.server c.hear_next.new.self.server (run_of w) (run_of c.hear_next.new.self) is all c.in_err-hear_next.ensures.broken)

pub returns-then-not-branch-clause-one : goal.returns-then-not-branch-clause-one
returns-then-not-branch-clause-one c = λ part is all. absurd (c.in_ok-hear_next.ensures.rest (search rules) part [] is (all ∙ sym (append-nil part)))

pub returns-then-not-branch-clause-ended : goal.returns-then-not-branch-clause-ended
returns-then-not-branch-clause-ended c = λ is. absurd (c.in_ok-hear_next.ensures.rest (search rules) c.args.self.now.server.begun [] is
    (sym (append-nil c.args.self.now.server.begun)))

pub returns-in_err-hear_rest-clause-files : goal.returns-in_err-hear_rest-clause-files
returns-in_err-hear_rest-clause-files c =
    let w = c.args.self.now in
    linked_then AnyStep (run_of w).clock (run_of c.hear_next.new.self).clock (run_of c.hear_rest.new.self).clock
    (any_heard w.server c.hear_next.new.self.server (run_of w) (run_of c.hear_next.new.self)
    (c.in_ok-hear_next.ensures.more (search rules))) c.hear_rest.ensures.files

pub returns-in_err-hear_rest-clause-one : goal.returns-in_err-hear_rest-clause-one
returns-in_err-hear_rest-clause-one c = λ part is all.
    let w = c.args.self.now in
    failed_only part w.server (run_of w) (run_of c.hear_rest.new.self) c.from_residual-in_err-hear_rest.result c.in_err-hear_rest.field-0.0 (search rules)
    (inr (heard_alone part w.server c.hear_next.new.self.server (run_of w) (run_of c.hear_next.new.self)
    (run_of c.hear_rest.new.self) is all (c.in_ok-hear_next.ensures.more (search rules)) c.hear_rest.ensures.none))

pub returns-clause-files : goal.returns-clause-files
returns-clause-files c =
    let w = c.args.self.now in
    linked_then AnyStep (run_of w).clock (run_of c.hear_next.new.self).clock (run_of c.hear_rest.new.self).clock
    (any_heard w.server c.hear_next.new.self.server (run_of w) (run_of c.hear_next.new.self)
    (c.in_ok-hear_next.ensures.more (search rules))) c.hear_rest.ensures.files

pub returns-clause-one : goal.returns-clause-one
returns-clause-one c = λ part is all.
    let w = c.args.self.now in
    record {
      done = heard_alone part w.server c.hear_next.new.self.server (run_of w) (run_of c.hear_next.new.self)
          (run_of c.hear_rest.new.self) is all (c.in_ok-hear_next.ensures.more (search rules)) c.hear_rest.ensures.none;
      failed = tt;
    }

pub returns-clause-ended : goal.returns-clause-ended
returns-clause-ended c = λ is.
    let w = c.args.self.now in
    let heard = one_heard w.server.begun w.server c.hear_next.new.self.server (run_of w) (run_of c.hear_next.new.self) is refl
    (c.in_ok-hear_next.ensures.more (search rules)) in
    c.in_ok-hear_rest.ensures.ended heard.1

pub returns-in_err-hear_next-clause-some : goal.returns-in_err-hear_next-clause-some
returns-in_err-hear_next-clause-some c =
    let w = c.args.self.now in
    anyway c.from_residual.result
    (parts_or_not w.server w.server c.hear_next.new.self.server (run_of w) (run_of w) (run_of c.hear_next.new.self) stops c.in_err-hear_next.ensures.broken)

pub returns-then-not-branch-clause-all : goal.returns-then-not-branch-clause-all
returns-then-not-branch-clause-all c =
    let w = c.args.self.now in
    let none : c.in_ok-hear_next.field-0 ≡ false = search rules in
    all_heard w.server w.server c.hear_next.new.self.server (run_of w) (run_of w) (run_of c.hear_next.new.self) stops
    (c.in_ok-hear_next.ensures.server none) (c.in_ok-hear_next.ensures.same none) (c.in_ok-hear_next.ensures.rest none)

pub returns-in_err-hear_rest-clause-some : goal.returns-in_err-hear_rest-clause-some
returns-in_err-hear_rest-clause-some c =
    let w = c.args.self.now in
    anyway c.from_residual-in_err-hear_rest.result
    (parts_later w.server c.hear_next.new.self.server (run_of w) (run_of c.hear_next.new.self) (run_of c.hear_rest.new.self)
    (hears stops (c.in_ok-hear_next.ensures.more (search rules))) c.in_err-hear_rest.ensures.some)

pub returns-clause-all : goal.returns-clause-all
returns-clause-all c =
    let w = c.args.self.now in
    all_later w.server c.hear_next.new.self.server c.hear_rest.new.self.server (run_of w) (run_of c.hear_next.new.self)
    (run_of c.hear_rest.new.self) (hears stops (c.in_ok-hear_next.ensures.more (search rules))) c.in_ok-hear_rest.ensures.all

use Rattle.std.proofs.Common.{◌≡◌, List, [], ◌∷◌, ◌++◌, Some, true, rules, sym, ◌∙◌, ap, subst}
use Rattle.imap_model.specs.Talking.{Connecting}
use Rattle.imap_model.specs.WellFormed.{IsWellFormed}
use Rattle.imap_model.specs.declared.server.Server.{Server}
use Rattle.server_mem.specs.Hearing.{with_bytes}
use Rattle.world_traits.specs.Links.{Linked}
use Rattle.world_mem.specs.Heard.{CarriesNone, CarriesOne}
use Rattle.world_mem.specs.Image.{bytes_of}
use Rattle.world_mem.specs.Memory.{run_of}
use Rattle.world_mem.specs.Running.{Run, start}
use Rattle.world_mem.specs.Standing.{Stands}
use Rattle.world_mem.specs.declared.course.Phase.TheVariants as phases
use Rattle.world_mem.specs.declared.did.Did.{Did}
use Rattle.world_mem.specs.declared.did.Did.TheVariants as did
use Rattle.world_mem.proofs.Answering.{one_greeting}
use Rattle.world_mem.proofs.Doing.{one_did}
use Rattle.world_mem.proofs.Settling.{settled_told, settled_stands, dropped_stands, not_free, not_dropped, carries_it}
use Rattle.world_mem.proofs.course.Course.settle.Goals as goal

pub invariant_of-self-in-Ok-true : goal.invariant_of-self-in-Ok-true
invariant_of-self-in-Ok-true c =
    let w = c.args.self.now in
    let x = c.in-Some.held in
    let waits : w.phase ≡ phases.Waiting = search rules in
    let is : w.held ≡ Some x = search rules in
    let log : c.push_reserved.new.self.items ≡ w.log.items ++ did.Settled ∷ [] =
    c.push_reserved.ensures.items ∙ ap (λ (l : List Did). l ++ did.Settled ∷ []) c.reserve.ensures.items in
    let carried : CarriesOne (with_bytes x.part w.server) c.carry_out-done.new.server =
    subst (λ (b : List _). CarriesOne (with_bytes b w.server) c.carry_out-done.new.server) c.as_slice.ensures
    (c.in-Ok-true.ensures.carried c.in-Ok-true.field-0-test) in
    record {
      stands = subst (λ (y : Run). Stands w.files
          c.carry_out-done.new.server phases.Off w.held w.parts w.unfinished w.lines.items w.received y)
          (sym (one_did w.log.items c.push_reserved.new.self.items did.Settled
          (start (bytes_of w.given) w.began.value w.began_held.value) log))
          (settled_stands w.files w.server w.phase w.held w.parts w.unfinished w.lines.items w.received
          (run_of w) w.stands waits x is c.texts_are_cut.ensures c.carry_out-done.new.server carried);
    }

pub returns-in-Ok-true-clause-told : goal.returns-in-Ok-true-clause-told
returns-in-Ok-true-clause-told c =
    let w = c.args.self.now in
    let x = c.in-Some.held in
    let waits : w.phase ≡ phases.Waiting = search rules in
    let is : w.held ≡ Some x = search rules in
    let log : c.push_reserved.new.self.items ≡ w.log.items ++ did.Settled ∷ [] =
    c.push_reserved.ensures.items ∙ ap (λ (l : List Did). l ++ did.Settled ∷ []) c.reserve.ensures.items in
    subst (λ (y : Run). Linked Connecting (run_of w).clock y.clock)
    (sym (one_did w.log.items c.push_reserved.new.self.items did.Settled
    (start (bytes_of w.given) w.began.value w.began_held.value) log))
    (settled_told w.files w.server w.phase w.held w.parts w.unfinished w.lines.items w.received (run_of w) w.stands waits x is
    (subst (λ (s : Server). IsWellFormed s.boxes) c.server.ensures.value c.server.ensures.well))

pub invariant_of-self-in-Ok-false : goal.invariant_of-self-in-Ok-false
invariant_of-self-in-Ok-false c =
    let w = c.args.self.now in
    let log : c.push_reserved-in-Ok-false.new.self.items ≡ w.log.items ++ did.Greeted ∷ [] =
    c.push_reserved-in-Ok-false.ensures.items ∙ ap (λ (l : List Did). l ++ did.Greeted ∷ []) c.reserve.ensures.items in
    record {
      stands = subst (λ (y : Run). Stands w.files
          c.carry_out-done.new.server phases.Off w.held w.parts w.unfinished w.lines.items w.received y)
          (sym (one_did w.log.items c.push_reserved-in-Ok-false.new.self.items did.Greeted
          (start (bytes_of w.given) w.began.value w.began_held.value) log))
          (dropped_stands w.files w.server w.phase w.held w.parts w.unfinished w.lines.items w.received
          (run_of w) w.stands c.carry_out-done.new.server (c.in-Ok-false.ensures.none c.in-Ok-false.field-0-test));
    }

pub returns-in-Ok-false-clause-told : goal.returns-in-Ok-false-clause-told
returns-in-Ok-false-clause-told c =
    let w = c.args.self.now in
    let log : c.push_reserved-in-Ok-false.new.self.items ≡ w.log.items ++ did.Greeted ∷ [] =
    c.push_reserved-in-Ok-false.ensures.items ∙ ap (λ (l : List Did). l ++ did.Greeted ∷ []) c.reserve.ensures.items in
    subst (λ (y : Run). Linked Connecting (run_of w).clock y.clock)
    (sym (one_did w.log.items c.push_reserved-in-Ok-false.new.self.items did.Greeted
    (start (bytes_of w.given) w.began.value w.began_held.value) log)) (one_greeting (run_of w))

pub invariant_of-self-in-Err : goal.invariant_of-self-in-Err
invariant_of-self-in-Err c =
    let w = c.args.self.now in
    let log : c.push_reserved-in-Err.new.self.items ≡ w.log.items ++ did.Greeted ∷ [] =
    c.push_reserved-in-Err.ensures.items ∙ ap (λ (l : List Did). l ++ did.Greeted ∷ []) c.reserve.ensures.items in
    record {
      stands = subst (λ (y : Run). Stands w.files
          c.carry_out-done.new.server phases.Off w.held w.parts w.unfinished w.lines.items w.received y)
          (sym (one_did w.log.items c.push_reserved-in-Err.new.self.items did.Greeted
          (start (bytes_of w.given) w.began.value w.began_held.value) log))
          (dropped_stands w.files w.server w.phase w.held w.parts w.unfinished w.lines.items w.received
          (run_of w) w.stands c.carry_out-done.new.server (c.in-Err.ensures.failed));
    }

pub returns-in-Err-clause-told : goal.returns-in-Err-clause-told
returns-in-Err-clause-told c =
    let w = c.args.self.now in
    let log : c.push_reserved-in-Err.new.self.items ≡ w.log.items ++ did.Greeted ∷ [] =
    c.push_reserved-in-Err.ensures.items ∙ ap (λ (l : List Did). l ++ did.Greeted ∷ []) c.reserve.ensures.items in
    subst (λ (y : Run). Linked Connecting (run_of w).clock y.clock)
    (sym (one_did w.log.items c.push_reserved-in-Err.new.self.items did.Greeted
    (start (bytes_of w.given) w.began.value w.began_held.value) log)) (one_greeting (run_of w))

pub returns-in-Ok-true-clause-free : goal.returns-in-Ok-true-clause-free
returns-in-Ok-true-clause-free c = λ none.
    let w = c.args.self.now in
    let x = c.in-Some.held in
    let waits : w.phase ≡ phases.Waiting = search rules in
    let is : w.held ≡ Some x = search rules in
    absurd (not_free w.files w.server w.phase w.held w.parts w.unfinished w.lines.items w.received (run_of w) w.stands waits x is none)

pub returns-in-Ok-false-clause-free : goal.returns-in-Ok-false-clause-free
returns-in-Ok-false-clause-free c = λ none.
    let w = c.args.self.now in
    let x = c.in-Some.held in
    let waits : w.phase ≡ phases.Waiting = search rules in
    let is : w.held ≡ Some x = search rules in
    absurd (not_free w.files w.server w.phase w.held w.parts w.unfinished w.lines.items w.received (run_of w) w.stands waits x is none)

pub returns-in-Err-clause-free : goal.returns-in-Err-clause-free
returns-in-Err-clause-free c = λ none.
    let w = c.args.self.now in
    let x = c.in-Some.held in
    let waits : w.phase ≡ phases.Waiting = search rules in
    let is : w.held ≡ Some x = search rules in
    absurd (not_free w.files w.server w.phase w.held w.parts w.unfinished w.lines.items w.received (run_of w) w.stands waits x is none)

pub returns-in-Ok-true-clause-dropped : goal.returns-in-Ok-true-clause-dropped
returns-in-Ok-true-clause-dropped c = λ held there drops.
    let w = c.args.self.now in
    let x = c.in-Some.held in
    let waits : w.phase ≡ phases.Waiting = search rules in
    let is : w.held ≡ Some x = search rules in
    let carried : x.carried ≡ true = search rules in
    absurd (not_dropped w.files w.server w.phase w.held w.parts w.unfinished w.lines.items w.received (run_of w) w.stands waits x is carried held there drops)

pub returns-in-Ok-false-clause-dropped : goal.returns-in-Ok-false-clause-dropped
returns-in-Ok-false-clause-dropped c = λ held there drops.
    let w = c.args.self.now in
    let x = c.in-Some.held in
    let waits : w.phase ≡ phases.Waiting = search rules in
    let is : w.held ≡ Some x = search rules in
    let carried : x.carried ≡ true = search rules in
    absurd (not_dropped w.files w.server w.phase w.held w.parts w.unfinished w.lines.items w.received (run_of w) w.stands waits x is carried held there drops)

pub returns-in-Err-clause-dropped : goal.returns-in-Err-clause-dropped
returns-in-Err-clause-dropped c = λ held there drops.
    let w = c.args.self.now in
    let x = c.in-Some.held in
    let waits : w.phase ≡ phases.Waiting = search rules in
    let is : w.held ≡ Some x = search rules in
    let carried : x.carried ≡ true = search rules in
    absurd (not_dropped w.files w.server w.phase w.held w.parts w.unfinished w.lines.items w.received (run_of w) w.stands waits x is carried held there drops)

pub returns-in-Ok-true-clause-carried : goal.returns-in-Ok-true-clause-carried
returns-in-Ok-true-clause-carried c = λ held there carried.
    let w = c.args.self.now in
    let log : c.push_reserved.new.self.items ≡ w.log.items ++ did.Settled ∷ [] =
    c.push_reserved.ensures.items ∙ ap (λ (l : List Did). l ++ did.Settled ∷ []) c.reserve.ensures.items in
    one_did w.log.items c.push_reserved.new.self.items did.Settled (start (bytes_of w.given) w.began.value w.began_held.value) log

pub returns-in-Ok-false-clause-carried : goal.returns-in-Ok-false-clause-carried
returns-in-Ok-false-clause-carried c = λ held there carried.
    let w = c.args.self.now in
    let x = c.in-Some.held in
    let waits : w.phase ≡ phases.Waiting = search rules in
    let is : w.held ≡ Some x = search rules in
    let none : CarriesNone (with_bytes x.part w.server) = subst (λ (b : List _). CarriesNone (with_bytes b w.server)) c.as_slice.ensures
    (c.in-Ok-false.ensures.left c.in-Ok-false.field-0-test) in
    absurd (carries_it w.files w.server w.phase w.held w.parts w.unfinished w.lines.items w.received
    (run_of w) w.stands waits x is c.texts_are_cut.ensures c.no_text_is_a_front.ensures none)

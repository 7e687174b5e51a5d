use Rattle.std.proofs.Common.{◌≡◌, IfOk, Option, rules, ◌∙◌, ap, subst}
use Rattle.server_mem.specs.States.{State}
use Rattle.world_mem.specs.Image.{bytes_of}
use Rattle.world_mem.specs.Memory.{run_of, line_of}
use Rattle.world_mem.specs.Restarting.{no_line}
use Rattle.world_mem.specs.Running.{Run}
use Rattle.world_mem.specs.declared.course.Phase.TheVariants as phases
use Rattle.world_mem.specs.declared.did.Held.{Held}
use Rattle.world_mem.proofs.Doing.{lawful_server, waiting_whole, waiting_sound, waiting_ends}
use Rattle.world_mem.proofs.Restarting.{waits_on, no_held, same_held, without}
use Rattle.world_mem.proofs.course.Course.restarted.Goals as goal

pub begun-requires : goal.begun-requires
begun-requires c =
    let w = c.args.self in
    let waits : w.phase ≡ phases.Waiting = search rules in
    record {
      whole = waiting_whole w.files w.server w.phase w.held w.parts w.unfinished w.lines.items w.received (run_of w) w.stands waits;
      sound = waiting_sound w.files w.server w.phase w.held w.parts w.unfinished w.lines.items w.received (run_of w) w.stands waits;
      ends = waiting_ends w.files w.server w.phase w.held w.parts w.unfinished w.lines.items w.received (run_of w) w.stands waits;
      lawful = lawful_server w.phase w.server (run_of w).state w.stands.server_is w.stands.lawful;
    }

pub begun-requires-2 : goal.begun-requires-2
begun-requires-2 c =
    let w = c.args.self in
    record {
      whole = search rules;
      sound = search rules;
      ends = search rules;
      lawful = ap (λ (s : State). s.muted) c.lose.ensures
          ∙ lawful_server w.phase w.server (run_of w).state w.stands.server_is w.stands.lawful;
    }

pub returns-then-eq-clause-run : goal.returns-then-eq-clause-run
returns-then-eq-clause-run c =
    let w = c.args.self in
    let waits : w.phase ≡ phases.Waiting = search (rules, c.if-eq.ensures) in
    subst (λ (r : Run). IfOk c.begun.result (λ course. run_of course ≡ r))
    (waits_on (bytes_of c.args.files) w.files w.server w.phase w.held w.parts w.unfinished w.lines.items w.received
    (run_of w) w.stands waits) c.begun.ensures.run

pub returns-then-eq-clause-line : goal.returns-then-eq-clause-line
returns-then-eq-clause-line c =
    let w = c.args.self in
    let waits : w.phase ≡ phases.Waiting = search (rules, c.if-eq.ensures) in
    subst (λ (x : Option Held). IfOk c.begun.result (λ course. line_of course ≡ no_line x))
    (same_held (bytes_of c.args.files) w.files w.server w.phase w.held w.parts w.unfinished w.lines.items w.received
    (run_of w) w.stands waits) c.begun.ensures.line

pub returns-clause-run : goal.returns-clause-run
returns-clause-run c =
    let w = c.args.self in
    let not_waiting : w.phase ≡ phases.Waiting → ⊥ = search rules in
    subst (λ (r : Run). IfOk c.begun-2.result (λ course. run_of course ≡ r))
    (without (bytes_of c.args.files) w.files w.server w.phase w.held w.parts w.unfinished w.lines.items w.received
    (run_of w) w.stands not_waiting c.lose.new.self c.lose.ensures) c.begun-2.ensures.run

pub returns-clause-line : goal.returns-clause-line
returns-clause-line c =
    let w = c.args.self in
    let not_waiting : w.phase ≡ phases.Waiting → ⊥ = search rules in
    subst (λ (x : Option Held). IfOk c.begun-2.result (λ course. line_of course ≡ no_line x))
    (no_held (bytes_of c.args.files) w.files w.server w.phase w.held w.parts w.unfinished w.lines.items w.received
    (run_of w) w.stands not_waiting) c.begun-2.ensures.line

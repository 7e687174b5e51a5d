use Rattle.std.proofs.Common.{◌≡◌, ℕ, List, Bool, true, false, Option, Some, None, rules, sym, ◌∙◌, ap, ap₂, subst}
use Rattle.imap_model.specs.Lawful.{broken_rule}
use Rattle.imap_model.specs.Talking.{Connecting}
use Rattle.world_traits.specs.Links.{Linked}
use Rattle.world_mem.specs.Memory.{run_of}
use Rattle.world_mem.specs.Others.{OthersChange, rested, renews}
use Rattle.world_mem.specs.Running.{Run, step}
use Rattle.world_mem.specs.Standing.{in_use, is_on, rested_phase}
use Rattle.world_mem.specs.declared.course.Phase.{Phase}
use Rattle.world_mem.specs.declared.did.Did.TheVariants as did
use Rattle.world_mem.proofs.Answering.{connecting, linked_start, no_change_as}
use Rattle.world_mem.proofs.Changing.{alone_made, alone_over}
use Rattle.world_mem.proofs.Doing.{not_hearing, on_rested, rested_twice, used_rested}
use Rattle.world_mem.proofs.Lines.{more_err, more_ok}
use Rattle.world_mem.proofs.course.Course.change_alone.Goals as goal

pub change_between-requires : goal.change_between-requires
change_between-requires c =
    let w = c.args.self.now in
    let mid = c.let_go.new.self in
    let off : is_on mid.phase ≡ false = search rules in
    not_hearing mid.phase (ap rested_phase c.let_go.ensures.phase ∙ rested_twice w.phase ∙ sym c.let_go.ensures.phase) off

-- it would renew the mailbox that is in use
pub returns-then-renews-clause-done : goal.returns-then-renews-clause-done
returns-then-renews-clause-done c =
    let w = c.args.self.now in
    let mid = c.let_go.new.self in
    let old = run_of w in
    let used : in_use mid.phase (run_of mid).state ≡ in_use w.phase old.state =
    ap₂ (λ (p : Phase) (r : Run). in_use p r.state) c.let_go.ensures.phase c.let_go.ensures.run ∙ used_rested w.phase old.state in
    let would : renews (in_use w.phase old.state) c.args.name.now c.args.change.now ≡ true =
    sym (ap (λ (u : Option (List ℕ)). renews u c.args.name.now c.args.change.now) used) ∙ sym c.renews.ensures ∙ (search rules) in
    alone_over (is_on w.phase) (in_use w.phase old.state) c.args.name.now c.args.change.now old (run_of mid) would c.let_go.ensures.run

pub returns-then-renews-clause-told : goal.returns-then-renews-clause-told
returns-then-renews-clause-told c =
    let w = c.args.self.now in
    let mid = c.let_go.new.self in
    let old = run_of w in
    subst (λ (r : Run). Linked Connecting old.clock r.clock) (sym c.let_go.ensures.run) (linked_start Connecting old.clock)

pub returns-then-renews-clause-others : goal.returns-then-renews-clause-others
returns-then-renews-clause-others c = λ on. no_change_as (run_of c.args.self.now) (run_of c.let_go.new.self) c.let_go.ensures.run

pub returns-then-renews-clause-lawful : goal.returns-then-renews-clause-lawful
returns-then-renews-clause-lawful c = λ keeps.
    let w = c.args.self.now in
    let mid = c.let_go.new.self in
    let old = run_of w in
    let used : in_use mid.phase (run_of mid).state ≡ in_use w.phase old.state =
    ap₂ (λ (p : Phase) (r : Run). in_use p r.state) c.let_go.ensures.phase c.let_go.ensures.run ∙ used_rested w.phase old.state in
    let would : renews (in_use w.phase old.state) c.args.name.now c.args.change.now ≡ true =
    sym (ap (λ (u : Option (List ℕ)). renews u c.args.name.now c.args.change.now) used) ∙ sym c.renews.ensures ∙ (search rules) in
    absurd (cc (sym keeps ∙ would))

pub returns-then-renews-clause-rule : goal.returns-then-renews-clause-rule
returns-then-renews-clause-rule c = λ number is. absurd (cc is)

-- there is a connection
pub returns-then-is_connected-clause-done : goal.returns-then-is_connected-clause-done
returns-then-is_connected-clause-done c =
    let w = c.args.self.now in
    let mid = c.let_go.new.self in
    let old = run_of w in
    let used : in_use mid.phase (run_of mid).state ≡ in_use w.phase old.state =
    ap₂ (λ (p : Phase) (r : Run). in_use p r.state) c.let_go.ensures.phase c.let_go.ensures.run ∙ used_rested w.phase old.state in
    let on : is_on mid.phase ≡ is_on w.phase = ap is_on c.let_go.ensures.phase ∙ on_rested w.phase in
    let keeps : renews (in_use w.phase old.state) c.args.name.now c.args.change.now ≡ false =
    sym (ap (λ (u : Option (List ℕ)). renews u c.args.name.now c.args.change.now) used) ∙ sym c.renews.ensures ∙ (search rules) in
    let is : is_on w.phase ≡ true = sym on ∙ (search rules) in
    let new = run_of c.change.new.self in
    let d = step (did.Changed c.args.name.now c.args.change.now) in
    more_ok c.change.result (λ (made : new ≡ d (run_of mid)).
    alone_made (is_on w.phase) (in_use w.phase old.state) c.args.name.now c.args.change.now old new keeps
    (made ∙ ap d c.let_go.ensures.run ∙ sym (ap (λ (b : Bool). d (rested b old)) is))) c.change.ensures.done

pub returns-then-is_connected-clause-told : goal.returns-then-is_connected-clause-told
returns-then-is_connected-clause-told c =
    let w = c.args.self.now in
    let mid = c.let_go.new.self in
    let old = run_of w in
    let new = run_of c.change.new.self in
    connecting old.clock new.clock (subst (λ (r : Run). OthersChange r new) c.let_go.ensures.run c.change.ensures.told).told

pub returns-then-is_connected-clause-others : goal.returns-then-is_connected-clause-others
returns-then-is_connected-clause-others c = λ on.
    subst (λ (r : Run). OthersChange r (run_of c.change.new.self)) c.let_go.ensures.run c.change.ensures.told

pub returns-then-is_connected-clause-lawful : goal.returns-then-is_connected-clause-lawful
returns-then-is_connected-clause-lawful c =
    let name = c.args.name.now in
    let change = c.args.change.now in
    more_ok c.change.result (λ (none : broken_rule (run_of c.let_go.new.self).state.server.boxes name change ≡ None) keeps.
    subst (λ (r : Run). broken_rule r.state.server.boxes name change ≡ None) c.let_go.ensures.run none) c.change.ensures.lawful

pub returns-then-is_connected-clause-rule : goal.returns-then-is_connected-clause-rule
returns-then-is_connected-clause-rule c = λ number is.
    subst (λ (r : Run). broken_rule r.state.server.boxes c.args.name.now c.args.change.now ≡ Some number) c.let_go.ensures.run
    (c.change.ensures.rule number is)

pub returns-then-is_connected-clause-failed : goal.returns-then-is_connected-clause-failed
returns-then-is_connected-clause-failed c =
    more_err c.change.result (λ (same : run_of c.change.new.self ≡ run_of c.let_go.new.self). same ∙ c.let_go.ensures.run) c.change.ensures.failed

pub returns-then-is_connected-clause-line : goal.returns-then-is_connected-clause-line
returns-then-is_connected-clause-line c = c.change.ensures.line ∙ c.let_go.ensures.line

-- there is none
pub returns-clause-done : goal.returns-clause-done
returns-clause-done c =
    let w = c.args.self.now in
    let mid = c.let_go.new.self in
    let old = run_of w in
    let used : in_use mid.phase (run_of mid).state ≡ in_use w.phase old.state =
    ap₂ (λ (p : Phase) (r : Run). in_use p r.state) c.let_go.ensures.phase c.let_go.ensures.run ∙ used_rested w.phase old.state in
    let on : is_on mid.phase ≡ is_on w.phase = ap is_on c.let_go.ensures.phase ∙ on_rested w.phase in
    let keeps : renews (in_use w.phase old.state) c.args.name.now c.args.change.now ≡ false =
    sym (ap (λ (u : Option (List ℕ)). renews u c.args.name.now c.args.change.now) used) ∙ sym c.renews.ensures ∙ (search rules) in
    let is : is_on w.phase ≡ false = sym on ∙ (search rules) in
    let new = run_of c.change_between.new.self in
    let d = step (did.Changed c.args.name.now c.args.change.now) in
    more_ok c.change_between.result (λ (made : new ≡ d (step did.Ended (run_of mid))).
    alone_made (is_on w.phase) (in_use w.phase old.state) c.args.name.now c.args.change.now old new keeps
    (made ∙ ap (λ (r : Run). d (step did.Ended r)) c.let_go.ensures.run ∙ sym (ap (λ (b : Bool). d (rested b old)) is))) c.change_between.ensures.done

pub returns-clause-told : goal.returns-clause-told
returns-clause-told c =
    subst (λ (r : Run). Linked Connecting r.clock (run_of c.change_between.new.self).clock) c.let_go.ensures.run c.change_between.ensures.told

pub returns-clause-others : goal.returns-clause-others
returns-clause-others c = λ is.
    let w = c.args.self.now in
    let mid = c.let_go.new.self in
    let old = run_of w in
    let on : is_on mid.phase ≡ is_on w.phase = ap is_on c.let_go.ensures.phase ∙ on_rested w.phase in
    let off : is_on mid.phase ≡ false = search rules in
    absurd (cc (sym is ∙ sym on ∙ off))

pub returns-clause-lawful : goal.returns-clause-lawful
returns-clause-lawful c =
    let name = c.args.name.now in
    let change = c.args.change.now in
    more_ok c.change_between.result (λ (none : broken_rule (run_of c.let_go.new.self).state.server.boxes name change ≡ None) keeps.
    subst (λ (r : Run). broken_rule r.state.server.boxes name change ≡ None) c.let_go.ensures.run none) c.change_between.ensures.lawful

pub returns-clause-rule : goal.returns-clause-rule
returns-clause-rule c = λ number is.
    subst (λ (r : Run). broken_rule r.state.server.boxes c.args.name.now c.args.change.now ≡ Some number) c.let_go.ensures.run
    (c.change_between.ensures.rule number is)

pub returns-clause-failed : goal.returns-clause-failed
returns-clause-failed c =
    more_err c.change_between.result (λ (same : run_of c.change_between.new.self ≡ run_of c.let_go.new.self). same ∙ c.let_go.ensures.run)
    c.change_between.ensures.failed

pub returns-clause-line : goal.returns-clause-line
returns-clause-line c = c.change_between.ensures.line ∙ c.let_go.ensures.line

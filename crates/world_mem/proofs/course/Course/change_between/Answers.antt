use Rattle.std.proofs.Common.{◌≡◌, ℕ, List, [], ◌∷◌, ◌++◌, Some, None, Result, Err, rules, sym, ◌∙◌, ap, subst}
use Rattle.std.specs.Prelude.{IsErrOf}
use Rattle.imap_model.specs.Changes.{Changes}
use Rattle.imap_model.specs.Lawful.{broken_rule}
use Rattle.imap_model.specs.PlainChanges.{with_change}
use Rattle.imap_model.specs.Talking.{Connecting}
use Rattle.imap_model.specs.declared.deed.Author.TheVariants.{Other}
use Rattle.imap_model.specs.declared.server.Server.{Server}
use Rattle.server_mem.specs.States.{State}
use Rattle.server_mem.specs.declared.mem_server.ForeignFault.{ForeignFault}
use Rattle.server_mem.specs.declared.mem_server.ForeignFault.TheVariants.{NotLawful}
use Rattle.world_traits.specs.Links.{Linked}
use Rattle.world_mem.specs.Image.{bytes_of}
use Rattle.world_mem.specs.Running.{Run, run, start, step}
use Rattle.world_mem.specs.Standing.{Stands}
use Rattle.world_mem.specs.Memory.{run_of}
use Rattle.world_mem.specs.declared.did.Did.{Did}
use Rattle.world_mem.specs.declared.did.Did.TheVariants as did
use Rattle.world_mem.proofs.Answering.{connecting, linked_start, linked_then, one_change, one_end}
use Rattle.world_mem.proofs.Doing.{changed_stands, ended_stands, server_same, two_did}
use Rattle.world_mem.proofs.Faults.{not_rule, no_rule}
use Rattle.world_mem.proofs.course.Course.change_between.Goals as goal

pub invariant_of-self-2 : goal.invariant_of-self-2
invariant_of-self-2 c =
    let w = c.args.self.now in
    let own = c.in_ok-own.own in
    let d = did.Changed c.copy-2.result own in
    let is : c.push_reserved-2.new.self.items ≡ (w.log.items ++ did.Ended ∷ []) ++ d ∷ [] =
    c.push_reserved-2.ensures.items ∙ ap (λ (l : List Did). l ++ d ∷ [])
    (c.push_reserved.ensures.items ∙ ap (λ (l : List Did). l ++ did.Ended ∷ []) c.reserve.ensures.items) in
    let same : d ≡ did.Changed c.args.name.now c.args.change.now =
    ap (λ (n : List ℕ). did.Changed n own) c.copy-2.ensures ∙ ap (λ (x : _). did.Changed c.args.name.now x) c.in_ok-own.ensures in
    record {
      stands = subst (λ (x : Run). Stands w.files c.foreign.new.self w.phase w.held w.parts w.unfinished w.lines.items w.received x)
          (sym (two_did w.log.items c.push_reserved-2.new.self.items did.Ended d (start (bytes_of w.given) w.began.value w.began_held.value) is
          ∙ ap (λ (x : Did). step x (step did.Ended (run_of w))) same))
          (changed_stands w.files w.server w.phase w.held w.parts w.unfinished w.lines.items w.received (step did.Ended (run_of w))
          (ended_stands w.files w.server w.phase w.held w.parts w.unfinished w.lines.items w.received (run_of w) w.stands c.requires)
          c.args.name.now c.args.change.now c.foreign.new.self c.in_ok-foreign.ensures.done);
    }

pub returns-clause-done : goal.returns-clause-done
returns-clause-done c =
    let w = c.args.self.now in
    let own = c.in_ok-own.own in
    let d = did.Changed c.copy-2.result own in
    let is : c.push_reserved-2.new.self.items ≡ (w.log.items ++ did.Ended ∷ []) ++ d ∷ [] =
    c.push_reserved-2.ensures.items ∙ ap (λ (l : List Did). l ++ d ∷ [])
    (c.push_reserved.ensures.items ∙ ap (λ (l : List Did). l ++ did.Ended ∷ []) c.reserve.ensures.items) in
    let same : d ≡ did.Changed c.args.name.now c.args.change.now =
    ap (λ (n : List ℕ). did.Changed n own) c.copy-2.ensures ∙ ap (λ (x : _). did.Changed c.args.name.now x) c.in_ok-own.ensures in
    two_did w.log.items c.push_reserved-2.new.self.items did.Ended d (start (bytes_of w.given) w.began.value w.began_held.value) is
    ∙ ap (λ (x : Did). step x (step did.Ended (run_of w))) same

pub returns-clause-told : goal.returns-clause-told
returns-clause-told c =
    let w = c.args.self.now in
    let r = run_of w in
    let name = c.args.name.now in
    let change = c.args.change.now in
    let stays : w.server.server ≡ r.state.server = server_same w.phase w.server r.state w.stands.server_is in
    let became : c.foreign.new.self.server ≡ with_change Other name change r.state.server =
    ap (λ (s : State). s.server) c.in_ok-foreign.ensures.done ∙ ap (λ (s : Server). with_change Other name change s) stays in
    let lawful : Changes r.state.server.boxes Other name change r.state.server (with_change Other name change r.state.server) =
    subst (λ (t : Server). Changes r.state.server.boxes Other name change r.state.server t) became
    (subst (λ (s : Server). Changes s.boxes Other name change s c.foreign.new.self.server) stays c.in_ok-foreign.ensures.lawful) in
    let ended = step did.Ended r in
    let new = step (did.Changed name change) ended in
    subst (λ (x : Run). Linked Connecting r.clock x.clock) (sym (returns-clause-done c))
    (linked_then Connecting r.clock ended.clock new.clock (one_end r) (connecting ended.clock new.clock
    (one_change name change r.state.server (with_change Other name change r.state.server) ended.clock w.stands.server_fits lawful)))

pub returns-in_err-own-clause-told : goal.returns-in_err-own-clause-told
returns-in_err-own-clause-told c = linked_start Connecting (run_of c.args.self.now).clock

pub returns-in_err-reserve-clause-told : goal.returns-in_err-reserve-clause-told
returns-in_err-reserve-clause-told c =
    let w = c.args.self.now in
    subst (λ (l : List Did). Linked Connecting (run_of w).clock (run l (start (bytes_of w.given) w.began.value w.began_held.value)).clock)
    (sym c.reserve.ensures.items) (linked_start Connecting (run_of w).clock)

pub returns-in_err-foreign-clause-told : goal.returns-in_err-foreign-clause-told
returns-in_err-foreign-clause-told c =
    let w = c.args.self.now in
    subst (λ (l : List Did). Linked Connecting (run_of w).clock (run l (start (bytes_of w.given) w.began.value w.began_held.value)).clock)
    (sym c.reserve.ensures.items) (linked_start Connecting (run_of w).clock)

pub returns-in_err-own-clause-rule : goal.returns-in_err-own-clause-rule
returns-in_err-own-clause-rule c = λ number is. not_rule number c.from_residual.result (search rules) is

pub returns-in_err-reserve-clause-rule : goal.returns-in_err-reserve-clause-rule
returns-in_err-reserve-clause-rule c = λ number is. not_rule number c.from_residual-in_err-reserve.result (search rules) is

pub returns-in_err-foreign-clause-rule : goal.returns-in_err-foreign-clause-rule
returns-in_err-foreign-clause-rule c = λ number is.
    let w = c.args.self.now in
    let same : c.from_residual-in_err-foreign.result ≡ Err c.in_err-foreign.field-0.0 = search rules in
    let rule : broken_rule w.server.server.boxes c.args.name.now c.args.change.now ≡ Some number =
    (c.in_err-foreign.ensures.rule number).0 (subst (λ (x : Result (Unit {0}) ForeignFault). IsErrOf x (NotLawful number)) same is) in
    subst (λ (s : Server). broken_rule s.boxes c.args.name.now c.args.change.now ≡ Some number)
    (server_same w.phase w.server (run_of w).state w.stands.server_is) rule

pub returns-clause-rule : goal.returns-clause-rule
returns-clause-rule c = λ number is. absurd (cc is)

pub returns-clause-lawful : goal.returns-clause-lawful
returns-clause-lawful c =
    let w = c.args.self.now in
    subst (λ (s : Server). broken_rule s.boxes c.args.name.now c.args.change.now ≡ None) (server_same w.phase w.server (run_of w).state w.stands.server_is)
    (no_rule (broken_rule w.server.server.boxes c.args.name.now c.args.change.now) c.in_ok-foreign.field-0 c.in_ok-foreign.ensures.rule)

use Rattle.std.proofs.Common.{◌≡◌, ℕ, List, [], ◌∷◌, ◌++◌, Some, None, Result, Err, rules, refl, sym, ◌∙◌, ap, subst}
use Rattle.imap_model.specs.Changes.{Changes}
use Rattle.imap_model.specs.Lawful.{broken_rule}
use Rattle.imap_model.specs.PlainChanges.{with_change}
use Rattle.imap_model.specs.declared.deed.Author.TheVariants.{Other}
use Rattle.imap_model.specs.declared.server.Server.{Server}
use Rattle.server_mem.specs.States.{State}
use Rattle.server_mem.specs.declared.mem_server.ForeignFault.{ForeignFault}
use Rattle.server_mem.specs.declared.mem_server.ForeignFault.TheVariants.{NotLawful}
use Rattle.std.specs.Prelude.{IsErrOf}
use Rattle.world_mem.specs.Others.{OthersChange}
use Rattle.world_mem.specs.Image.{bytes_of}
use Rattle.world_mem.specs.Running.{Run, run, start, step}
use Rattle.world_mem.specs.Standing.{Stands}
use Rattle.world_mem.specs.Memory.{run_of}
use Rattle.world_mem.specs.declared.did.Did.{Did}
use Rattle.world_mem.specs.declared.did.Did.TheVariants as did
use Rattle.world_mem.proofs.Answering.{one_change, no_change, no_change_as}
use Rattle.world_mem.proofs.Doing.{one_did, changed_stands, server_same}
use Rattle.world_mem.proofs.Faults.{not_rule, no_rule}
use Rattle.world_mem.proofs.Parts.{serves, serves_same}
use Rattle.world_mem.proofs.course.Course.change.Goals as goal

pub invariant_of-self-2 : goal.invariant_of-self-2
invariant_of-self-2 c =
    let w = c.args.self.now in
    let own = c.in_ok-own.own in
    let d = did.Changed c.copy-2.result own in
    let is : c.push_reserved.new.self.items ≡ w.log.items ++ d ∷ [] =
    c.push_reserved.ensures.items ∙ ap (λ (l : List Did). l ++ d ∷ []) c.reserve.ensures.items in
    let same : d ≡ did.Changed c.args.name.now c.args.change.now =
    ap (λ (n : List ℕ). did.Changed n own) c.copy-2.ensures ∙ ap (λ (x : _). did.Changed c.args.name.now x) c.in_ok-own.ensures in
    record {
      stands = subst (λ (x : Run). Stands w.files c.foreign.new.self w.phase w.held w.parts w.unfinished w.lines.items w.received x)
          (sym (one_did w.log.items c.push_reserved.new.self.items d (start (bytes_of w.given) w.began.value w.began_held.value) is
          ∙ ap (λ (x : Did). step x (run_of w)) same))
          (changed_stands w.files w.server w.phase w.held w.parts w.unfinished w.lines.items w.received
          (run_of w) w.stands c.args.name.now c.args.change.now c.foreign.new.self c.in_ok-foreign.ensures.done);
    }

pub returns-clause-done : goal.returns-clause-done
returns-clause-done c =
    let w = c.args.self.now in
    let own = c.in_ok-own.own in
    let d = did.Changed c.copy-2.result own in
    let is : c.push_reserved.new.self.items ≡ w.log.items ++ d ∷ [] =
    c.push_reserved.ensures.items ∙ ap (λ (l : List Did). l ++ d ∷ []) c.reserve.ensures.items in
    let same : d ≡ did.Changed c.args.name.now c.args.change.now =
    ap (λ (n : List ℕ). did.Changed n own) c.copy-2.ensures ∙ ap (λ (x : _). did.Changed c.args.name.now x) c.in_ok-own.ensures in
    one_did w.log.items c.push_reserved.new.self.items d (start (bytes_of w.given) w.began.value w.began_held.value) is
    ∙ ap (λ (x : Did). step x (run_of w)) same

pub returns-clause-told : goal.returns-clause-told
returns-clause-told c =
    let w = c.args.self.now in
    let r = run_of w in
    let own = c.in_ok-own.own in
    let d = did.Changed c.copy-2.result own in
    let is : c.push_reserved.new.self.items ≡ w.log.items ++ d ∷ [] =
    c.push_reserved.ensures.items ∙ ap (λ (l : List Did). l ++ d ∷ []) c.reserve.ensures.items in
    let same : d ≡ did.Changed c.args.name.now c.args.change.now =
    ap (λ (n : List ℕ). did.Changed n own) c.copy-2.ensures ∙ ap (λ (x : _). did.Changed c.args.name.now x) c.in_ok-own.ensures in
    let stays : w.server.server ≡ r.state.server = server_same w.phase w.server r.state w.stands.server_is in
    let became : c.foreign.new.self.server ≡ with_change Other c.args.name.now c.args.change.now r.state.server =
    ap (λ (s : State). s.server) c.in_ok-foreign.ensures.done ∙ ap
    (λ (s : Server). with_change Other c.args.name.now c.args.change.now s) stays in
    let lawful : Changes r.state.server.boxes Other c.args.name.now c.args.change.now r.state.server
    (with_change Other c.args.name.now c.args.change.now r.state.server) =
    subst (λ (t : Server). Changes r.state.server.boxes Other c.args.name.now c.args.change.now r.state.server t) became
    (subst (λ (s : Server). Changes s.boxes Other c.args.name.now c.args.change.now s c.foreign.new.self.server) stays c.in_ok-foreign.ensures.lawful) in
    subst (λ (x : Run). OthersChange r x) (sym (one_did w.log.items c.push_reserved.new.self.items d
    (start (bytes_of w.given) w.began.value w.began_held.value) is ∙ ap (λ (x : Did). step x r) same))
    (record {
      told = one_change c.args.name.now c.args.change.now r.state.server
          (with_change Other c.args.name.now c.args.change.now r.state.server) r.clock w.stands.server_fits lawful;
      waiting = refl;
      talk =
          refl;
      held = refl;
    })

pub returns-in_err-own-clause-told : goal.returns-in_err-own-clause-told
returns-in_err-own-clause-told c = no_change (run_of c.args.self.now)

pub returns-in_err-reserve-clause-told : goal.returns-in_err-reserve-clause-told
returns-in_err-reserve-clause-told c =
    let w = c.args.self.now in
    no_change_as (run_of w) (run c.reserve.new.self.items (start (bytes_of w.given) w.began.value w.began_held.value))
    (ap (λ (l : List Did). run l (start (bytes_of w.given) w.began.value w.began_held.value)) c.reserve.ensures.items)

pub returns-in_err-foreign-clause-told : goal.returns-in_err-foreign-clause-told
returns-in_err-foreign-clause-told c =
    let w = c.args.self.now in
    no_change_as (run_of w) (run c.reserve.new.self.items (start (bytes_of w.given) w.began.value w.began_held.value))
    (ap (λ (l : List Did). run l (start (bytes_of w.given) w.began.value w.began_held.value)) c.reserve.ensures.items)

pub returns-in_err-own-clause-rule : goal.returns-in_err-own-clause-rule
returns-in_err-own-clause-rule c = λ number is. not_rule number c.from_residual.result (search rules) is

pub returns-in_err-reserve-clause-rule : goal.returns-in_err-reserve-clause-rule
returns-in_err-reserve-clause-rule c = λ number is. not_rule number c.from_residual-in_err-reserve.result (search rules) is

pub returns-in_err-foreign-clause-rule : goal.returns-in_err-foreign-clause-rule
returns-in_err-foreign-clause-rule c = λ number is.
    let w = c.args.self.now in
    let same : c.from_residual-in_err-foreign.result ≡ Err c.in_err-foreign.field-0.0 = search rules in
    let rule : broken_rule w.server.server.boxes c.args.name.now c.args.change.now ≡ Some number =
    (c.in_err-foreign.ensures.rule number).0 (subst (λ (x : Result (Unit {0}) ForeignFault). IsErrOf x (NotLawful number)) same is) in
    subst (λ (s : Server). broken_rule s.boxes c.args.name.now c.args.change.now ≡ Some number)
    (server_same w.phase w.server (run_of w).state w.stands.server_is) rule

pub returns-clause-rule : goal.returns-clause-rule
returns-clause-rule c = λ number is. absurd (cc is)

pub returns-clause-lawful : goal.returns-clause-lawful
returns-clause-lawful c =
    let w = c.args.self.now in
    subst (λ (s : Server). broken_rule s.boxes c.args.name.now c.args.change.now ≡ None) (server_same w.phase w.server (run_of w).state w.stands.server_is)
    (no_rule (broken_rule w.server.server.boxes c.args.name.now c.args.change.now) c.in_ok-foreign.field-0 c.in_ok-foreign.ensures.rule)

pub returns-clause-server : goal.returns-clause-server
returns-clause-server c =
    let w = c.args.self.now in
    let r = run_of w in
    let name = c.args.name.now in
    let change = c.args.change.now in
    let stays : w.server.server ≡ r.state.server = server_same w.phase w.server r.state w.stands.server_is in
    let became : c.foreign.new.self.server ≡ with_change Other name change r.state.server =
    ap (λ (s : State). s.server) c.in_ok-foreign.ensures.done ∙ ap (λ (s : Server). with_change Other name change s) stays in
    serves w.server c.foreign.new.self (with_change Other name change w.server.server)
    (run c.push_reserved.new.self.items (start (bytes_of w.given) w.began.value w.began_held.value)).state.server
    c.in_ok-foreign.ensures.done
    (became ∙ sym (ap (λ (x : Run). x.state.server) (returns-clause-done c)))

pub returns-in_err-own-clause-server : goal.returns-in_err-own-clause-server
returns-in_err-own-clause-server c =
    let w = c.args.self.now in serves_same w.server w.server (run_of w).state.server refl (server_same w.phase w.server (run_of w).state w.stands.server_is)

pub returns-in_err-reserve-clause-server : goal.returns-in_err-reserve-clause-server
returns-in_err-reserve-clause-server c =
    let w = c.args.self.now in
    let same = ap (λ (l : List Did). (run l (start (bytes_of w.given) w.began.value w.began_held.value)).state.server) c.reserve.ensures.items in
    serves_same w.server w.server (run c.reserve.new.self.items (start
    (bytes_of w.given) w.began.value w.began_held.value)).state.server refl
    (server_same w.phase w.server (run_of w).state w.stands.server_is ∙ sym same)

pub returns-in_err-foreign-clause-server : goal.returns-in_err-foreign-clause-server
returns-in_err-foreign-clause-server c =
    let w = c.args.self.now in
    let same = ap (λ (l : List Did). (run l (start (bytes_of w.given) w.began.value w.began_held.value)).state.server) c.reserve.ensures.items in
    serves_same w.server c.foreign.new.self (run c.reserve.new.self.items
    (start (bytes_of w.given) w.began.value w.began_held.value)).state.server c.in_err-foreign.ensures.kept
    (server_same w.phase w.server (run_of w).state w.stands.server_is ∙ sym same)
